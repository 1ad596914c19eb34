-- What holds of the keys and messages that were heard in packets of which none is refused.
use Rattle.std.proofs.Common.{◌≡◌, ◌⊎◌, ℕ, ◌==◌, ◌&&◌, Bool, true, false, nat_le, nat_lt, List, [], ◌∷◌}
use Rattle.std.proofs.Common.{◌++◌, length, Some, None, refl, sym, ap, subst, ◌∙◌, inl, inr, arith}
use Rattle.std.specs.Prelude.{All, AllPairs, Option, not, bytes_eq, if◌then◌else◌}
use Rattle.std.specs.Option.{option_map_or}
use Rattle.std.proofs.lemmas.Bool.{and_parts, not-false, or_parts}
use Rattle.std.proofs.lemmas.Bool.Decides.{nat_tests}
use Rattle.std.proofs.lemmas.Slice.Eq.{bytes_eq-Decides}
use Rattle.std.proofs.lemmas.List.Elements.{All-nil, All-cons, All-head, All-weaker}
use Rattle.std.proofs.lemmas.List.Kept.{AllPairs-cons}
use Rattle.sd_tree_keys.specs.Keys.{check_value_of}
use Rattle.sd_site_cards.specs.CardFields.{CardFields}
use Rattle.sd_psi.specs.declared.our_cat.Tuning.{Tuning}
use Rattle.sd_cipher.specs.Wrapping.{wrapped as under}
use Rattle.sd_message.specs.EcmParts.{Message}
use Rattle.sd_message.specs.declared.emm.Emm.{Emm}
use Rattle.sd_message.specs.declared.emm_fault.EmmFault.TheVariants as Emms
use Rattle.sd_message.specs.declared.ecm_part.EcmPart.{EcmPart}
use Rattle.sd_message.specs.declared.ecm_fault.EcmFault.{EcmFault}
use Rattle.sd_message.specs.declared.ecm_fault.EcmFault.TheVariants.{Back}
use Rattle.sd_message.specs.declared.stream_fault.StreamFault.{StreamFault}
use Rattle.sd_message.specs.declared.stream_fault.StreamFault.TheVariants as Fault
use Rattle.sd_spec.specs.Tuned.{tuning_of}
use Rattle.sd_spec.specs.Heard.{Heard, Dropped, Entitles, Controls, BadEmm, BadEcm, Other, hears}
use Rattle.sd_spec.specs.Stretches.{Stretch, counted_parts, newest_message, message_parts_to, completes, is_closed}
use Rattle.sd_spec.specs.Stretches.{current, sections_seen}
use Rattle.sd_spec.specs.Runs.{is_turn, of_run}
use Rattle.sd_spec.specs.Keys.{first_key, key_from, key_in, key_at}
use Rattle.sd_spec.specs.Offered.{Offering, heard, heard_with, no_offering, refused_offering, says_same, is_mixed}
use Rattle.sd_spec.specs.Offered.{key_offering, key_if_none, emm_offering, part_fault, is_back, stretch_wrote}
use Rattle.sd_spec.specs.Offered.{word_fault}
use Rattle.sd_spec.specs.Offered.{wrote_or, message_offering, part_offering, heard_offering}
use Rattle.sd_spec.specs.Offered.{tuned_offering, offered}
use Rattle.sd_spec.proofs.Hearing.{newest_waits, newest_completes}
use Rattle.sd_law_keys.specs.Written.{Agree, IsHeardIn, IsKeyIn, IsMessageIn}
use Rattle.sd_law_keys.proofs.Sources.{all_later, heard_later}
use Rattle.sd_law_keys.proofs.Running.{IsRunning, begins_anew, is_part, none_run, runs_on}
use Rattle.sd_law_keys.proofs.Gathered.{message_in}

-- the key has the check value of each of these sections
abbrev pub AreChecked : List ℕ → List Emm → Type 0
AreChecked key sections = All (λ (emm : Emm). check_value_of key ≡ emm.check) sections

-- the keys that are known have the check values of all sections that were seen
abbrev pub AreKeysChecked : CardFields → List Heard → Type 0
AreKeysChecked card so_far = (q : ℕ) (key : List ℕ) → key_at card so_far q ≡ Some key →
    AreChecked key (sections_seen q so_far)

-- sections of a period agree
abbrev pub AllAgree : List Emm → Type 0
AllAgree sections = AllPairs (λ (newer older : Emm). Agree older newer) sections

-- all sections that were seen of a period do
abbrev pub AreAgreed : List Heard → Type 0
AreAgreed so_far = (q : ℕ) → AllAgree (sections_seen q so_far)

-- a message that was taken after this was heard, in these packets
pub record IsTaken (card : CardFields) (past : List (List ℕ)) (before : List Heard) (a : Message) : Type 0 where
  pub tells : IsMessageIn card past a
  pub key_is : (key : List ℕ) → key_at card before a.period ≡ Some key → IsKeyIn card past a.period key
  pub checked : (key : List ℕ) → key_at card before a.period ≡ Some key
      → check_value_of (under key a.word a.wrapped) ≡ a.check

-- what holds of what was heard of a run in these packets
pub record IsSound (card : CardFields) (past : List (List ℕ)) (so_far : List Heard) : Type 0 where
  pub are_heard : All (IsHeardIn card past) so_far
  pub keys : AreKeysChecked card so_far
  pub agreed : AreAgreed so_far
  pub running : IsRunning (newest_message so_far)
  pub taken : (a : Message) → (newest_message so_far).message ≡ Some a →
      IsTaken card past (newest_message so_far).before a

-- nothing was heard, or what was heard up to some packet
abbrev pub IsUpTo : CardFields → List (List ℕ) → List Heard → Type 0
IsUpTo card past so_far = (so_far ≡ [])
    ⊎ ((later : List (List ℕ)) × (earlier : List (List ℕ)) × (past ≡ later ++ earlier) × (so_far ≡ heard card earlier))

-- equal texts pass, and only those
bytes_same : (xs ys : List ℕ) → bytes_eq xs ys ≡ true → xs ≡ ys
bytes_same xs ys same = (bytes_eq-Decides xs ys).0 same

-- no key is known of nothing
none_known : (card : CardFields) (q : ℕ) (key : List ℕ) → key_at card [] q ≡ Some key → ⊥
unfolding sections_seen key_in
none_known card q key known = absurd cc

-- sections that aren't mixed agree
one_check : (sections : List Emm) (emm : Emm) → is_mixed sections emm ≡ false
    → All (λ (other : Emm). Agree other emm) sections
one_check [] emm none = All-nil (λ (other : Emm). Agree other emm)
one_check (before ∷ sections) emm none =
    let tests = or_parts (not (says_same before emm)) (is_mixed sections emm) none in
    let same = not-false (says_same before emm) tests.0 in
    let sets = and_parts (before.sets == emm.sets)
    ((before.sections == emm.sections) && bytes_eq before.check emm.check) same in
    let check = and_parts (before.sections == emm.sections) (bytes_eq before.check emm.check) sets.1 in
    All-cons (λ (other : Emm). Agree other emm) before sections (
      grind (arith, nat_tests, sets.0),
      grind (arith, nat_tests, check.0),
      bytes_same before.check emm.check check.1,
    ) (one_check sections emm tests.1)

-- the key that is known has it too
check_of_known : (card : CardFields) (sections : List Emm) (emm : Emm) (key : List ℕ) → key_in card sections ≡ Some key
    → AreChecked key sections → All (λ (other : Emm). Agree other emm) sections
    → check_value_of key ≡ emm.check
unfolding key_in
check_of_known card [] emm key known checked same = absurd cc
check_of_known card (before ∷ sections) emm key known checked same =
    All-head (λ (one : Emm). check_value_of key ≡ one.check) before sections checked
    ∙ (All-head (λ (other : Emm). Agree other emm) before sections same).2

-- a section that gives a key and is not refused names its check value
check_of_given : (n : ℕ) (emm : Emm) (key : List ℕ) → (key_offering n emm (Some key)).fault ≡ None
    → check_value_of key ≡ emm.check
check_of_given n emm key good = by_test (bytes_eq (check_value_of key) emm.check) refl good
  where
    by_test : (b : Bool) → bytes_eq (check_value_of key) emm.check ≡ b
        → (if b then no_offering else refused_offering (Fault.WrongKey n emm.period (check_value_of key)
        emm.check)).fault ≡ None
        → check_value_of key ≡ emm.check
    by_test true same none = bytes_same (check_value_of key) emm.check same
    by_test false other none = absurd cc

-- the keys with one section more
key_with : (card : CardFields) (n : ℕ) (sections : List Emm) (emm : Emm) (first found : Option (List ℕ)) (key : List ℕ)
    → key_in card sections ≡ first → key_from card emm ≡ found
    → ((k : List ℕ) → key_in card sections ≡ Some k → AreChecked k sections)
    → All (λ (other : Emm). Agree other emm) sections → (key_if_none n emm first found).fault ≡ None
    → first_key first found ≡ Some key → AreChecked key (emm ∷ sections)
key_with card n sections emm (Some k) found key is gives checked same good known =
    let one : k ≡ key = cc in
    let old : AreChecked key sections = subst (λ (x : List ℕ). AreChecked x sections) one (checked k is) in
    All-cons (λ (other : Emm). check_value_of key ≡ other.check) emm sections
    (check_of_known card sections emm key (is ∙ ap (λ (x : List ℕ). Some x) one) old same) old
key_with card n sections emm None None key is gives checked same good known = absurd cc
key_with card n sections emm None (Some k) key is gives checked same good known =
    let one : k ≡ key = cc in
    let check : check_value_of key ≡ emm.check =
    subst (λ (x : List ℕ). check_value_of x ≡ emm.check) one (check_of_given n emm k good) in
    All-cons (λ (other : Emm). check_value_of key ≡ other.check) emm sections check
    (All-weaker (λ (other : Emm). Agree other emm) (λ (other : Emm). check_value_of key ≡ other.check)
    (λ other e. check ∙ sym e.2) sections same)

-- a section of the current period or a later one, that isn't refused, isn't mixed with those that were seen
emm_good : (early mixed : Bool) (why : StreamFault) (offering : Offering)
    → (if early then no_offering else if mixed then refused_offering why else offering).fault ≡ None → early ≡ false
    → (mixed ≡ false) × (offering.fault ≡ None)
emm_good true mixed why offering good now = absurd cc
emm_good false true why offering good now = absurd cc
emm_good false false why offering good now = (refl, good)

-- what is known of a section that is seen and isn't refused
record IsFine (card : CardFields) (n : ℕ) (so_far : List Heard) (emm : Emm) (q : ℕ) : Type 0 where
  agrees : All (λ (other : Emm). Agree other emm) (sections_seen q so_far)
  given : (key_if_none n emm (key_at card so_far q) (key_from card emm)).fault ≡ None

fine_with : (card : CardFields) (n : ℕ) (so_far : List Heard) (emm : Emm) (q : ℕ)
    → (emm_offering card n so_far emm).fault ≡ None → ((emm.period == q) && nat_le (current so_far) q) ≡ true
    → IsFine card n so_far emm q
unfolding emm_offering
fine_with card n so_far emm q good same =
    let tests = and_parts (emm.period == q) (nat_le (current so_far) q) same in
    let is : emm.period ≡ q = grind (arith, nat_tests, tests.0) in
    let now : nat_lt emm.period (current so_far) ≡ false = grind (arith, nat_tests, tests.1, is) in
    let fine = emm_good (nat_lt emm.period (current so_far)) (is_mixed (sections_seen emm.period so_far) emm)
    (Fault.BadEmm n Emms.Mixed) (key_if_none n emm (key_at card so_far emm.period) (key_from card emm)) good now in
    record {
      agrees = one_check (sections_seen q so_far) emm (subst (λ (p : ℕ). is_mixed (sections_seen p so_far) emm ≡ false)
          is fine.0);
      given = subst (λ (p : ℕ). (key_if_none n emm (key_at card so_far p) (key_from card emm)).fault ≡ None) is fine.1;
    }

-- the keys after a section
keys_with : (card : CardFields) (n : ℕ) (so_far : List Heard) (emm : Emm) → AreKeysChecked card so_far
    → (emm_offering card n so_far emm).fault ≡ None → AreKeysChecked card (Entitles emm ∷ so_far)
unfolding sections_seen key_in
keys_with card n so_far emm keys good q key known =
    by_test ((emm.period == q) && nat_le (current so_far) q) refl known
  where
    by_test : (b : Bool) → ((emm.period == q) && nat_le (current so_far) q) ≡ b
        → key_in card (if b then emm ∷ sections_seen q so_far else sections_seen q so_far) ≡ Some key
        → AreChecked key (if b then emm ∷ sections_seen q so_far else sections_seen q so_far)
    by_test false other found = keys q key found
    by_test true same found =
        let fine = fine_with card n so_far emm q good same in
        key_with card n (sections_seen q so_far) emm (key_at card so_far q) (key_from card emm) key refl refl (keys q)
        fine.agrees fine.given found

-- and the sections
agreed_with : (card : CardFields) (n : ℕ) (so_far : List Heard) (emm : Emm) → AreAgreed so_far
    → (emm_offering card n so_far emm).fault ≡ None → AreAgreed (Entitles emm ∷ so_far)
unfolding sections_seen
agreed_with card n so_far emm agreed good q = by_test ((emm.period == q) && nat_le (current so_far) q) refl
  where
    by_test : (b : Bool) → ((emm.period == q) && nat_le (current so_far) q) ≡ b
        → AllAgree (if b then emm ∷ sections_seen q so_far else sections_seen q so_far)
    by_test false other = agreed q
    by_test true same =
        AllPairs-cons (λ (newer older : Emm). Agree older newer) emm (sections_seen q so_far)
        (fine_with card n so_far emm q good same).agrees (agreed q)

-- a part that isn't refused has no fault, and what it completes isn't refused
part_good : (n : ℕ) (fault : Option EcmFault) (next : Offering) → (part_offering n fault next).fault ≡ None
    → (fault ≡ None) × (next.fault ≡ None)
part_good n None next good = (refl, good)
part_good n (Some fault) next good = absurd cc

not_back : (back : Bool) (why : StreamFault) (offering : Offering)
    → (if back then refused_offering why else offering).fault ≡ None → (back ≡ false) × (offering.fault ≡ None)
not_back true why offering good = absurd cc
not_back false why offering good = (refl, good)

not_refused : (refused : Option ℕ) (fault : Option StreamFault)
    → option_map_or (λ n. Some (Fault.Parity n)) refused fault ≡ None → fault ≡ None
not_refused None fault good = good
not_refused (Some n) fault good = absurd cc

-- a word without a fault has the check value that its message names
word_checked : (n : ℕ) (b : Message) (key : List ℕ) → word_fault n b (Some key) ≡ None
    → check_value_of (under key b.word b.wrapped) ≡ b.check
word_checked n b key good = by_test (bytes_eq (check_value_of (under key b.word b.wrapped)) b.check) refl good
  where
    by_test : (test : Bool) → bytes_eq (check_value_of (under key b.word b.wrapped)) b.check ≡ test
        → (if test then None else Some (Fault.WrongWord n b.word (check_value_of (under key b.word b.wrapped)) b.check))
        ≡ None → check_value_of (under key b.word b.wrapped) ≡ b.check
    by_test true same none = bytes_same (check_value_of (under key b.word b.wrapped)) b.check same
    by_test false other none = absurd cc

-- a key that is known is one that was known after some packets
key_taken : (card : CardFields) (past : List (List ℕ)) (so_far : List Heard) (q : ℕ) (key : List ℕ)
    → IsUpTo card past so_far → AreKeysChecked card so_far → AreAgreed so_far → key_at card so_far q ≡ Some key
    → IsKeyIn card past q key
key_taken card past so_far q key (inl none) keys agreed known =
    absurd (none_known card q key (subst (λ (things : List Heard). key_at card things q ≡ Some key) none known))
key_taken card past so_far q key (inr (later, earlier, stands, is)) keys agreed known = record {
  later = later;
  earlier = earlier;
  stands = stands;
  known = subst (λ (things : List Heard). key_at card things q ≡ Some key) is known;
  agree = subst (λ (things : List Heard). AllAgree (sections_seen q things)) is (agreed q);
  checked = subst (λ (things : List Heard). AreChecked key (sections_seen q things)) is (keys q key known);
}

-- all that holds in packets holds in them with one more
pub key_later : (card : CardFields) (past : List (List ℕ)) (packet : List ℕ) (q : ℕ) (key : List ℕ)
    → IsKeyIn card past q key → IsKeyIn card (packet ∷ past) q key
key_later card past packet q key is = record {
  later = packet ∷ is.later;
  earlier = is.earlier;
  stands = ap (λ (l : List (List ℕ)). packet ∷ l) is.stands;
  known = is.known;
  agree = is.agree;
  checked = is.checked;
}

pub message_later : (card : CardFields) (past : List (List ℕ)) (packet : List ℕ) (a : Message) → IsMessageIn card past a
    → IsMessageIn card (packet ∷ past) a
message_later card past packet a is = record {
  parts = is.parts;
  told = is.told;
  are_heard = All-weaker (λ (part : EcmPart). IsHeardIn card past (Controls part))
      (λ (part : EcmPart). IsHeardIn card (packet ∷ past) (Controls part))
      (λ part here. heard_later card past (packet ∷ []) (Controls part) here) is.parts is.are_heard;
  last = is.last;
  alike = is.alike;
  ascending = is.ascending;
}

taken_later : (card : CardFields) (past : List (List ℕ)) (packet : List ℕ) (before : List Heard) (a : Message)
    → IsTaken card past before a → IsTaken card (packet ∷ past) before a
taken_later card past packet before a is = record {
  tells = message_later card past packet a is.tells;
  key_is = λ key known. key_later card past packet a.period key (is.key_is key known);
  checked = is.checked;
}

pub sound_later : (card : CardFields) (past : List (List ℕ)) (packet : List ℕ) (so_far : List Heard)
    → IsSound card past so_far → IsSound card (packet ∷ past) so_far
sound_later card past packet so_far is = record {
  are_heard = all_later card past (packet ∷ []) so_far is.are_heard;
  keys = is.keys;
  agreed = is.agreed;
  running = is.running;
  taken = λ a m. taken_later card past packet (newest_message so_far).before a (is.taken a m);
}

-- nothing that was heard is sound
pub sound_none : (card : CardFields) (past : List (List ℕ)) → IsSound card past []
unfolding newest_message sections_seen
sound_none card past = record {
  are_heard = All-nil (IsHeardIn card past);
  keys = λ q key known. absurd (none_known card q key known);
  agreed = λ q i j d below within. absurd (omega arith);
  running = none_run;
  taken = λ a m. absurd cc;
}

-- what completes no message leaves the newest one
sound_waits : (card : CardFields) (past : List (List ℕ)) (packet : List ℕ) (so_far : List Heard) (thing : Heard)
    → IsSound card past so_far → IsHeardIn card (packet ∷ past) thing → completes so_far thing ≡ None
    → AreKeysChecked card (thing ∷ so_far) → AreAgreed (thing ∷ so_far) → IsRunning (record {
      message = (newest_message so_far).message;
      before = (newest_message so_far).before;
      after = thing ∷ (newest_message so_far).after;
    }) → IsSound card (packet ∷ past) (thing ∷ so_far)
sound_waits card past packet so_far thing sound is none keys agreed running =
    let e = newest_waits so_far thing none in record {
      are_heard = All-cons (IsHeardIn card (packet ∷ past)) thing so_far is
          (all_later card past (packet ∷ []) so_far sound.are_heard);
      keys = keys;
      agreed = agreed;
      running = subst IsRunning (sym e) running;
      taken = λ a m. subst (λ (st : Stretch). IsTaken card (packet ∷ past) st.before a) (sym e)
          (taken_later card past packet (newest_message so_far).before a
          (sound.taken a (ap (λ (st : Stretch). st.message) (sym e) ∙ m)));
    }

-- what completes one makes it the newest
sound_completes : (card : CardFields) (past : List (List ℕ)) (packet : List ℕ) (so_far : List Heard) (thing : Heard)
    (b : Message) → IsSound card past so_far → IsHeardIn card (packet ∷ past) thing → completes so_far thing ≡ Some b
    → AreKeysChecked card (thing ∷ so_far) → AreAgreed (thing ∷ so_far) → IsTaken card (packet ∷ past) so_far b
    → IsSound card (packet ∷ past) (thing ∷ so_far)
sound_completes card past packet so_far thing b sound is done keys agreed taken =
    let e = newest_completes so_far thing b done in record {
      are_heard = All-cons (IsHeardIn card (packet ∷ past)) thing so_far is
          (all_later card past (packet ∷ []) so_far sound.are_heard);
      keys = keys;
      agreed = agreed;
      running = subst IsRunning (sym e) (begins_anew b so_far);
      taken = λ a m.
          let one : Some b ≡ Some a = ap (λ (st : Stretch). st.message) (sym e) ∙ m in
          let same : b ≡ a = cc in
          subst (λ (st : Stretch). IsTaken card (packet ∷ past) st.before a) (sym e)
          (subst (IsTaken card (packet ∷ past) so_far) same taken);
    }

-- the message that a part completes without a fault is taken
message_taken : (card : CardFields) (tuning : Tuning) (n : ℕ) (past : List (List ℕ)) (packet : List ℕ)
    (so_far : List Heard) (part : EcmPart) (b : Message) → IsSound card past so_far → IsUpTo card past so_far
    → IsHeardIn card (packet ∷ past) (Controls part) → part_fault (message_parts_to (newest_message so_far) part) ≡ None
    → completes so_far (Controls part) ≡ Some b → (message_offering card tuning n so_far (Some b)).fault ≡ None
    → IsTaken card (packet ∷ past) so_far b
message_taken card tuning n past packet so_far part b sound up is right done good =
    let fine = not_back (is_back so_far b) (Fault.BadEcm n Back)
    (wrote_or (stretch_wrote card tuning (newest_message so_far) (newest_message so_far).message b)
    (word_fault n b (key_at card so_far b.period))) good in
    let word = not_refused (stretch_wrote card tuning (newest_message so_far) (newest_message so_far).message b).refused
    (word_fault n b (key_at card so_far b.period)) fine.1 in record {
      tells = message_in card (packet ∷ past) so_far part b
          (all_later card past (packet ∷ []) so_far sound.are_heard) is right sound.running done;
      key_is = λ key known.
          key_later card past packet b.period key
          (key_taken card past so_far b.period key up sound.keys sound.agreed known);
      checked = λ key known. word_checked n b key (ap (word_fault n b) (sym known) ∙ word);
    }

-- one thing more
sound_with_part : (card : CardFields) (tuning : Tuning) (n : ℕ) (past : List (List ℕ)) (packet : List ℕ)
    (so_far : List Heard) (part : EcmPart) (message : Option Message) → IsSound card past so_far
    → IsUpTo card past so_far → IsHeardIn card (packet ∷ past) (Controls part)
    → part_fault (message_parts_to (newest_message so_far) part) ≡ None → completes so_far (Controls part) ≡ message
    → (message_offering card tuning n so_far message).fault ≡ None
    → IsSound card (packet ∷ past) (Controls part ∷ so_far)
unfolding sections_seen
sound_with_part card tuning n past packet so_far part None sound up is right done good =
    sound_waits card past packet so_far (Controls part) sound is done sound.keys sound.agreed
    (runs_on so_far part sound.running (is_part card (packet ∷ past) part is) right)
sound_with_part card tuning n past packet so_far part (Some b) sound up is right done good =
    sound_completes card past packet so_far (Controls part) b sound is done sound.keys sound.agreed
    (message_taken card tuning n past packet so_far part b sound up is right done good)

sound_with : (card : CardFields) (tuning : Tuning) (n : ℕ) (past : List (List ℕ)) (packet : List ℕ)
    (so_far : List Heard) (thing : Heard) → IsSound card past so_far → IsUpTo card past so_far
    → IsHeardIn card (packet ∷ past) thing → (heard_offering card tuning n so_far thing).fault ≡ None
    → IsSound card (packet ∷ past) (thing ∷ so_far)
unfolding sections_seen counted_parts
sound_with card tuning n past packet so_far Dropped sound up is good =
    sound_waits card past packet so_far Dropped sound is refl sound.keys sound.agreed sound.running
sound_with card tuning n past packet so_far (Entitles emm) sound up is good =
    sound_waits card past packet so_far (Entitles emm) sound is refl (keys_with card n so_far emm sound.keys good)
    (agreed_with card n so_far emm sound.agreed good) sound.running
sound_with card tuning n past packet so_far (Controls part) sound up is good =
    let fine = part_good n (part_fault (message_parts_to (newest_message so_far) part))
    (message_offering card tuning n so_far (completes so_far (Controls part))) good in
    sound_with_part card tuning n past packet so_far part (completes so_far (Controls part)) sound up is fine.0 refl
    fine.1
sound_with card tuning n past packet so_far (BadEmm fault) sound up is good = absurd cc
sound_with card tuning n past packet so_far (BadEcm fault) sound up is good = absurd cc
sound_with card tuning n past packet so_far (Other k held) sound up is good =
    sound_waits card past packet so_far (Other k held) sound is refl sound.keys sound.agreed sound.running

-- what was heard of the run that is current with what comes
pub sound_run : (card : CardFields) (past : List (List ℕ)) (so_far : List Heard) (thing : Heard)
    → IsSound card past so_far → IsSound card past (of_run so_far thing)
unfolding of_run
sound_run card past so_far thing sound = by_test (is_turn so_far thing)
  where
    by_test : (b : Bool) → IsSound card past (if b then [] else so_far)
    by_test true = sound_none card past
    by_test false = sound

pub up_to_run : (card : CardFields) (past : List (List ℕ)) (so_far : List Heard) (thing : Heard)
    → IsUpTo card past so_far → IsUpTo card past (of_run so_far thing)
unfolding of_run
up_to_run card past so_far thing up = by_test (is_turn so_far thing)
  where
    by_test : (b : Bool) → IsUpTo card past (if b then [] else so_far)
    by_test true = inl refl
    by_test false = up

pub up_to_here : (card : CardFields) (past : List (List ℕ)) → IsUpTo card past (heard card past)
up_to_here card past = inr ([], past, refl, refl)

-- a packet is heard as what it is
pub heard_here : (card : CardFields) (past : List (List ℕ)) (packet : List ℕ) (tuning : Tuning)
    → tuning_of card.ca past ≡ Some tuning
    → IsHeardIn card (packet ∷ past) (hears card.height tuning (length past) packet)
heard_here card past packet tuning tuned = record {
  later = [];
  packet = packet;
  earlier = past;
  tuning = tuning;
  stands = refl;
  tuned = tuned;
  is_heard = refl;
}

-- one packet more that isn't refused
sound_tuned : (card : CardFields) (past : List (List ℕ)) (packet : List ℕ) (tuned : Option Tuning)
    → tuning_of card.ca past ≡ tuned → IsSound card past (heard card past)
    → (tuned_offering card tuned (length past) (heard card past) packet).fault ≡ None
    → IsSound card (packet ∷ past) (heard_with card tuned (length past) packet (heard card past))
sound_tuned card past packet None is sound good = sound_later card past packet (heard card past) sound
sound_tuned card past packet (Some tuning) is sound good = by_test (is_closed (of_run (heard card past) thing)) good
  where
    thing : Heard
    thing = hears card.height tuning (length past) packet

    run : List Heard
    run = of_run (heard card past) thing

    by_test : (b : Bool)
        → (if b then no_offering else heard_offering card tuning (length past) run thing).fault ≡ None
        → IsSound card (packet ∷ past) (if b then heard card past else thing ∷ run)
    by_test true fine = sound_later card past packet (heard card past) sound
    by_test false fine =
        sound_with card tuning (length past) past packet run thing (sound_run card past (heard card past) thing sound)
        (up_to_run card past (heard card past) thing (up_to_here card past)) (heard_here card past packet tuning is)
        fine

pub sound_more : (card : CardFields) (past : List (List ℕ)) (packet : List ℕ) → IsSound card past (heard card past)
    → (offered card past packet).fault ≡ None → IsSound card (packet ∷ past) (heard card (packet ∷ past))
unfolding heard offered
sound_more card past packet sound good =
    sound_tuned card past packet (tuning_of card.ca past) refl sound good
