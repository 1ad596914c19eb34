-- After packets that count nothing that is buffered is odd. So no message is refused for a packet before it.
use Rattle.std.proofs.Common.{◌≡◌, ◌≢◌, refl, ℕ, ◌==◌, ◌&&◌, ◌||◌, ◌++◌, Bool, true, false, not, List, [], ◌∷◌, length}
use Rattle.std.proofs.Common.{reverse, Option, Some, None, bytes_eq, sym, ap, ◌∙◌, subst, append-nil, append_assoc}
use Rattle.std.specs.Prelude.{if◌then◌else◌, nat_le, nat_lt, Ok, Err, map}
use Rattle.std.specs.List.{list_any}
use Rattle.std.specs.Option.{option_map_or}
use Rattle.std.proofs.lemmas.Bool.{false≢true}
use Rattle.std.proofs.lemmas.List.{reverse-append}
use Rattle.std.proofs.lemmas.List.Folds.{list_any-append}
use Rattle.sd_base.proofs.Bools.{tested, or_swap, or_false}
use Rattle.sd_tree_keys.specs.Keys.{check_value_of}
use Rattle.sd_cipher.specs.Wrapping.{wrapped as under}
use Rattle.sd_packet.specs.Header.{pid_of, scrambling_of}
use Rattle.sd_psi.specs.declared.our_cat.Tuning.{Tuning}
use Rattle.sd_site_cards.specs.CardFields.{CardFields}
use Rattle.sd_message.specs.EcmParts.{Message}
use Rattle.sd_message.specs.declared.emm.Emm.{Emm}
use Rattle.sd_message.specs.declared.ecm_fault.EcmFault.{EcmFault}
use Rattle.sd_message.specs.declared.ecm_fault.EcmFault.TheVariants as Ecms
use Rattle.sd_message.specs.declared.emm_fault.EmmFault.TheVariants as Emms
use Rattle.sd_message.specs.declared.stream_fault.StreamFault.{StreamFault}
use Rattle.sd_message.specs.declared.stream_fault.StreamFault.TheVariants as Fault
use Rattle.sd_spec.specs.Tuned.{tuning_of}
use Rattle.sd_spec.specs.Heard.{Heard, Dropped, Entitles, Controls, BadEmm, BadEcm, Other, hears}
use Rattle.sd_spec.specs.Stretches.{Stretch, newest_message, completes, is_closed, others, held_in, message_parts_to}
use Rattle.sd_spec.specs.Stretches.{current, sections_seen}
use Rattle.sd_spec.specs.Runs.{is_turn, of_run}
use Rattle.sd_spec.specs.Keys.{key_from, key_at}
use Rattle.sd_spec.specs.Confirmed.{Segment, judged_packet, is_foreign_under, is_confirmed, written_from}
use Rattle.sd_spec.specs.Confirmed.{then_segment_output}
use Rattle.sd_spec.specs.Confirmed.{unmarked, tracked}
use Rattle.sd_cipher.specs.Scrambling.{descrambled}
use Rattle.sd_spec.specs.Offered.{heard, heard_with, heard_more, Offering, offered, tuned_offering, run_offering}
use Rattle.sd_spec.specs.Offered.{heard_offering, emm_offering, key_offering, key_if_none, part_offering, part_fault}
use Rattle.sd_spec.specs.Offered.{message_offering, stretch_wrote, segment_wrote, word_fault, is_back, most_held}
use Rattle.sd_spec.specs.Offered.{is_mixed, wrote_or}
use Rattle.sd_spec.specs.Counting.{is_scrambled_packet, is_stray, holds_stray, is_stray_at, counts, counting}
use Rattle.sd_spec.proofs.Runs.{same_run, new_run}
use Rattle.sd_spec.proofs.Hearing.{newest_waits, newest_completes}
use Rattle.sd_law_watch.proofs.Counted.{counts_even}

-- a held packet is odd under a control word
abbrev pub is_odd_held : ℕ → ℕ × List ℕ → Bool
is_odd_held word held = is_scrambled_packet held.1 && is_foreign_under word held.1

-- a stretch holds an odd packet
abbrev pub has_odd : Stretch → Bool
has_odd stretch =
    option_map_or (λ message. list_any (is_odd_held message.word) (held_in stretch)) stretch.message false

-- of more packets one is odd if it is among the first or among the others
pub any_reversed : {A : Type 0} (p : A → Bool) (xs : List A) → list_any p (reverse xs) ≡ list_any p xs
any_reversed p [] = refl
any_reversed p (x ∷ xs) =
    ap (list_any p) (reverse-append (x ∷ []) xs)
    ∙ (list_any-append p (reverse xs) (x ∷ [])
    ∙ (ap (λ (b : Bool). b || (p x || false)) (any_reversed p xs)
    ∙ (ap (λ (b : Bool). list_any p xs || b) (or_false (p x)) ∙ or_swap (list_any p xs) (p x))))

-- a thing more after the newest message
one_more : (message : Message) (before after : List Heard) (thing : Heard) →
    list_any (is_odd_held message.word) (reverse (others after)) ≡ false →
    option_map_or (λ (m : Message). list_any (is_odd_held m.word) (others (thing ∷ []))) (Some message) false ≡ false →
    list_any (is_odd_held message.word) (reverse (others (thing ∷ after))) ≡ false
unfolding others
one_more message before after Dropped none even = none
one_more message before after (Entitles emm) none even = none
one_more message before after (Controls part) none even = none
one_more message before after (BadEmm fault) none even = none
one_more message before after (BadEcm fault) none even = none
one_more message before after (Other n packet) none even =
    any_reversed (is_odd_held message.word) ((n, packet) ∷ others after)
    ∙ (ap (λ (b : Bool). b || list_any (is_odd_held message.word) (others after))
    (sym (or_false (is_odd_held message.word (n, packet))) ∙ even)
    ∙ (sym (any_reversed (is_odd_held message.word) (others after)) ∙ none))

-- what isn't odd when it comes isn't odd once it is held
even_held : (past : List Heard) (thing : Heard) (message : Message) → is_closed past ≡ false →
    (newest_message past).message ≡ Some message → is_stray past thing ≡ false →
    list_any (is_odd_held message.word) (others (thing ∷ [])) ≡ false
unfolding others is_stray
even_held past Dropped message opened is even = refl
even_held past (Entitles emm) message opened is even = refl
even_held past (Controls part) message opened is even = refl
even_held past (BadEmm fault) message opened is even = refl
even_held past (BadEcm fault) message opened is even = refl
even_held past (Other n packet) message opened is even =
    or_false (is_odd_held message.word (n, packet))
    ∙ (ap (λ (m : Option Message). is_scrambled_packet packet
    && option_map_or (λ (a : Message). is_foreign_under a.word packet) m false) (sym is)
    ∙ (ap (λ (closed : Bool). not closed && (is_scrambled_packet packet
    && option_map_or (λ (a : Message). is_foreign_under a.word packet) (newest_message past).message false))
    (sym opened)
    ∙ even))

-- one thing more that isn't odd
even_waits : (past : List Heard) (thing : Heard) (stretch : Stretch) → newest_message past ≡ stretch →
    is_closed past ≡ false → is_stray past thing ≡ false → has_odd stretch ≡ false →
    has_odd (record { message = stretch.message; before = stretch.before; after = thing ∷ stretch.after }) ≡ false
even_waits past thing stretch is opened even none =
    by_message stretch.message (ap (λ (s : Stretch). s.message) is) none
  where
    by_message : (message : Option Message) → (newest_message past).message ≡ message →
        option_map_or (λ (m : Message). list_any (is_odd_held m.word) (held_in stretch)) message false ≡ false →
        option_map_or (λ (m : Message). list_any (is_odd_held m.word) (reverse (others (thing ∷ stretch.after))))
        message false ≡ false
    by_message None told none = refl
    by_message (Some message) told none =
        one_more message stretch.before stretch.after thing none (even_held past thing message opened told even)

even_next : (past : List Heard) (thing : Heard) → is_closed past ≡ false → is_stray past thing ≡ false →
    holds_stray past ≡ false → holds_stray (thing ∷ past) ≡ false
unfolding holds_stray others
even_next past thing opened even none = by_message (completes past thing) refl
  where
    by_message : (message : Option Message) → completes past thing ≡ message → has_odd (newest_message (thing ∷ past))
        ≡ false
    by_message None waits =
        ap has_odd (newest_waits past thing waits) ∙ even_waits past thing (newest_message past) refl opened even none
    by_message (Some message) done = ap has_odd (newest_completes past thing message done)

even_start : holds_stray [] ≡ false
unfolding holds_stray newest_message
even_start = refl

never_stray : (thing : Heard) → is_stray [] thing ≡ false
unfolding is_stray is_closed newest_message
never_stray Dropped = refl
never_stray (Entitles emm) = refl
never_stray (Controls part) = refl
never_stray (BadEmm fault) = refl
never_stray (BadEcm fault) = refl
never_stray (Other n packet) = by_test (is_scrambled_packet packet)
  where
    by_test : (b : Bool) → (b && false) ≡ false
    by_test true = refl
    by_test false = refl

-- what was heard of the run that is current with a thing
even_run : (past : List Heard) (thing : Heard) → holds_stray past ≡ false → holds_stray (of_run past thing) ≡ false
even_run past thing none =
    tested (is_turn past thing)
    (λ turns. ap holds_stray (new_run past thing turns) ∙ even_start)
    (λ stays. ap holds_stray (same_run past thing stays) ∙ none)

even_in_run : (past : List Heard) (thing : Heard) → is_stray past thing ≡ false →
    is_stray (of_run past thing) thing ≡ false
even_in_run past thing even =
    tested (is_turn past thing)
    (λ turns. ap (λ (run : List Heard). is_stray run thing) (new_run past thing turns) ∙ never_stray thing)
    (λ stays. ap (λ (run : List Heard). is_stray run thing) (same_run past thing stays) ∙ even)

pub even_more : (past : List Heard) (thing : Heard) → is_stray past thing ≡ false → holds_stray past ≡ false →
    holds_stray (heard_more past thing) ≡ false
even_more past thing even none =
    tested (is_closed (of_run past thing))
    (λ closed. rw closed none)
    (λ opened. rw opened (even_next (of_run past thing) thing opened (even_in_run past thing even)
    (even_run past thing none)))

even_with : (card : CardFields) (tuned : Option Tuning) (past : List (List ℕ)) (packet : List ℕ) →
    option_map_or (λ tuning. is_stray (heard card past) (hears card.height tuning (length past) packet)) tuned false
    ≡ false →
    holds_stray (heard card past) ≡ false →
    holds_stray (heard_with card tuned (length past) packet (heard card past)) ≡ false
even_with card None past packet even none = none
even_with card (Some tuning) past packet even none =
    even_more (heard card past) (hears card.height tuning (length past) packet) even none

-- a packet that counts
pub even_counts : (card : CardFields) (past : List (List ℕ)) (packet : List ℕ) → is_stray_at card past packet ≡ false →
    holds_stray (heard card past) ≡ false → holds_stray (heard card (packet ∷ past)) ≡ false
unfolding heard is_stray_at
even_counts card past packet even none = even_with card (tuning_of card.ca past) past packet even none

even_after : (card : CardFields) (past packets : List (List ℕ)) → holds_stray (heard card past) ≡ false →
    holds_stray (heard card (reverse (counting card past packets) ++ past)) ≡ false
unfolding counting
even_after card past [] none = none
even_after card past (packet ∷ packets) none =
    tested (counts card past packet)
    (λ is. rw is (ap (λ (now : List (List ℕ)). holds_stray (heard card now))
    (ap (λ (now : List (List ℕ)). now ++ past)
    (reverse-append (packet ∷ []) (counting card (packet ∷ past) packets))
    ∙ append_assoc (reverse (counting card (packet ∷ past) packets)) (packet ∷ []) past)
    ∙ even_after card (packet ∷ past) packets
    (even_counts card past packet (counts_even card past packet is) none)))
    (λ is. rw is (even_after card past packets none))

nothing_heard : (card : CardFields) → heard card [] ≡ []
unfolding heard
nothing_heard card = refl

-- after packets that count nothing odd is held
pub nothing_odd : (card : CardFields) (packets : List (List ℕ)) →
    holds_stray (heard card (reverse (counting card [] packets))) ≡ false
nothing_odd card packets =
    ap (λ (now : List (List ℕ)). holds_stray (heard card now)) (sym (append-nil (reverse (counting card [] packets))))
    ∙ even_after card [] packets (ap holds_stray (nothing_heard card) ∙ even_start)

-- so none of the held packets is refused
judged_even : (segment : Segment) (before : List (List ℕ)) (held : ℕ × List ℕ) →
    is_odd_held segment.first.word held ≡ false →
    (written : List (List ℕ)) × (judged_packet segment before held ≡ Ok written)
unfolding judged_packet
judged_even segment before held even =
    by_tests (scrambling_of held.1 == 0) (is_foreign_under segment.first.word held.1)
    (is_confirmed segment (pid_of held.1)) (unmarked segment held.1 ∷ [])
    (descrambled held.1 segment.word (tracked segment.first (pid_of held.1) (before ++ held.1 ∷ [])) ∷ []) even
  where
    by_tests : (clear odd confirmed : Bool) (a b : List (List ℕ)) → (not clear && odd) ≡ false →
        (written : List (List ℕ))
        × ((if clear then Ok a else if odd then Err held.0 else if confirmed then Ok b else Ok []) ≡ Ok written)
    by_tests true odd confirmed a b even = (a, refl)
    by_tests false true confirmed a b even = absurd (false≢true (sym even))
    by_tests false false true a b even = (b, refl)
    by_tests false false false a b even = ([], refl)

unrefused : (segment : Segment) (before : List (List ℕ)) (held : List (ℕ × List ℕ)) →
    list_any (is_odd_held segment.first.word) held ≡ false → (written_from segment before held).refused ≡ None
unfolding written_from
unrefused segment before [] even = refl
unrefused segment before (one ∷ held) even =
    let parts = or_parts (is_odd_held segment.first.word one) (list_any (is_odd_held segment.first.word) held) even in
    let good = judged_even segment before one parts.0 in
    ap (λ r. (then_segment_output r (written_from segment (before ++ one.1 ∷ []) held)).refused) good.1
    ∙ unrefused segment (before ++ one.1 ∷ []) held parts.1
  where
    or_parts : (a b : Bool) → (a || b) ≡ false → (a ≡ false) × (b ≡ false)
    or_parts true b is = absurd (false≢true (sym is))
    or_parts false b is = (refl, is)

wrote_unrefused : (card : CardFields) (tuning : Tuning) (stretch : Stretch) (message : Option Message) (b : Message) →
    option_map_or (λ (m : Message). list_any (is_odd_held m.word) (held_in stretch)) message false ≡ false →
    (stretch_wrote card tuning stretch message b).refused ≡ None
wrote_unrefused card tuning stretch None b even = refl
wrote_unrefused card tuning stretch (Some a) b even =
    tested (nat_le b.since a.number)
    (λ near. rw near (by_key (key_at card stretch.before a.period)))
    (λ far. rw far refl)
  where
    by_key : (key : Option (List ℕ)) → (segment_wrote card tuning stretch a b key).refused ≡ None
    by_key None = refl
    by_key (Some key) =
        tested (nat_lt most_held (length (held_in stretch)))
        (λ many. rw many refl)
        (λ few. rw few (unrefused (record {
          first = a;
          last = b;
          word = under key a.word a.wrapped;
          ca = card.ca;
          ecm = tuning.ecm;
          packets = map (λ held. held.1) (held_in stretch);
        }) [] (held_in stretch) even))

-- the fault isn't of a packet before a message
abbrev pub IsNoParity : Option StreamFault → Type 0
IsNoParity None = Unit {0}
IsNoParity (Some (Fault.Parity n)) = ⊥
IsNoParity (Some (Fault.WrongKey n q a b)) = Unit {0}
IsNoParity (Some (Fault.WrongWord n w a b)) = Unit {0}
IsNoParity (Some (Fault.BadEmm n f)) = Unit {0}
IsNoParity (Some (Fault.BadEcm n f)) = Unit {0}

if_no : (test : Bool) (a b : Offering) → IsNoParity a.fault → IsNoParity b.fault →
    IsNoParity (if test then a else b).fault
if_no true a b first second = first
if_no false a b first second = second

if_none : (test : Bool) (a b : Option StreamFault) → IsNoParity a → IsNoParity b → IsNoParity (if test then a else b)
if_none true a b first second = first
if_none false a b first second = second

no_parity_key : (n : ℕ) (emm : Emm) (key : Option (List ℕ)) → IsNoParity (key_offering n emm key).fault
no_parity_key n emm None = tt
no_parity_key n emm (Some key) =
    if_no (bytes_eq (check_value_of key) emm.check) (record { wrote = []; fault = None })
    (record { wrote = []; fault = Some (Fault.WrongKey n emm.period (check_value_of key) emm.check) }) tt tt

no_parity_known : (n : ℕ) (emm : Emm) (known found : Option (List ℕ)) →
    IsNoParity (key_if_none n emm known found).fault
no_parity_known n emm (Some key) found = tt
no_parity_known n emm None found = no_parity_key n emm found

no_parity_emm : (card : CardFields) (n : ℕ) (past : List Heard) (emm : Emm) →
    IsNoParity (emm_offering card n past emm).fault
unfolding emm_offering
no_parity_emm card n past emm =
    let known : Offering = key_if_none n emm (key_at card past emm.period) (key_from card emm) in
    let mixed : Offering = record { wrote = []; fault = Some (Fault.BadEmm n Emms.Mixed) } in
    if_no (nat_lt emm.period (current past)) (record { wrote = []; fault = None })
    (if is_mixed (sections_seen emm.period past) emm then mixed else known) tt
    (if_no (is_mixed (sections_seen emm.period past) emm) mixed known tt
    (no_parity_known n emm (key_at card past emm.period) (key_from card emm)))

no_parity_word : (n : ℕ) (b : Message) (key : Option (List ℕ)) → IsNoParity (word_fault n b key)
no_parity_word n b None = tt
no_parity_word n b (Some key) =
    if_none (bytes_eq (check_value_of (under key b.word b.wrapped)) b.check) None
    (Some (Fault.WrongWord n b.word (check_value_of (under key b.word b.wrapped)) b.check)) tt tt

no_parity_wrote : (refused : Option ℕ) (fault : Option StreamFault) → refused ≡ None → IsNoParity fault →
    IsNoParity (option_map_or (λ n. Some (Fault.Parity n)) refused fault)
no_parity_wrote None fault none fine = fine
no_parity_wrote (Some n) fault none fine = absurd (cc none)

no_parity_message : (card : CardFields) (tuning : Tuning) (n : ℕ) (past : List Heard) (message : Option Message) →
    has_odd (newest_message past) ≡ false → IsNoParity (message_offering card tuning n past message).fault
no_parity_message card tuning n past None even = tt
no_parity_message card tuning n past (Some b) even =
    if_no (is_back past b) (record { wrote = []; fault = Some (Fault.BadEcm n Ecms.Back) })
    (wrote_or (stretch_wrote card tuning (newest_message past) (newest_message past).message b)
    (word_fault n b (key_at card past b.period))) tt
    (no_parity_wrote (stretch_wrote card tuning (newest_message past) (newest_message past).message b).refused
    (word_fault n b (key_at card past b.period))
    (wrote_unrefused card tuning (newest_message past) (newest_message past).message b even)
    (no_parity_word n b (key_at card past b.period)))

no_parity_part : (n : ℕ) (fault : Option EcmFault) (next : Offering) → IsNoParity next.fault →
    IsNoParity (part_offering n fault next).fault
no_parity_part n None next fine = fine
no_parity_part n (Some fault) next fine = tt

no_parity_heard : (card : CardFields) (tuning : Tuning) (n : ℕ) (past : List Heard) (thing : Heard) →
    has_odd (newest_message past) ≡ false → IsNoParity (heard_offering card tuning n past thing).fault
no_parity_heard card tuning n past Dropped even = tt
no_parity_heard card tuning n past (Entitles emm) even = no_parity_emm card n past emm
no_parity_heard card tuning n past (Controls part) even =
    no_parity_part n (part_fault (message_parts_to (newest_message past) part))
    (message_offering card tuning n past (completes past (Controls part)))
    (no_parity_message card tuning n past (completes past (Controls part)) even)
no_parity_heard card tuning n past (BadEmm fault) even = tt
no_parity_heard card tuning n past (BadEcm fault) even = tt
no_parity_heard card tuning n past (Other k packet) even = tt

no_parity_run : (card : CardFields) (tuning : Tuning) (n : ℕ) (past : List Heard) (thing : Heard) →
    holds_stray (of_run past thing) ≡ false → IsNoParity (run_offering card tuning n past thing).fault
unfolding holds_stray
no_parity_run card tuning n past thing even =
    if_no (is_closed (of_run past thing)) (record { wrote = []; fault = None })
    (heard_offering card tuning n (of_run past thing) thing) tt
    (no_parity_heard card tuning n (of_run past thing) thing even)

no_parity_tuned : (card : CardFields) (tuned : Option Tuning) (n : ℕ) (past : List Heard) (packet : List ℕ) →
    holds_stray past ≡ false → IsNoParity (tuned_offering card tuned n past packet).fault
no_parity_tuned card None n past packet even = tt
no_parity_tuned card (Some tuning) n past packet even =
    no_parity_run card tuning n past (hears card.height tuning n packet)
    (even_run past (hears card.height tuning n packet) even)

no_parity_offered : (card : CardFields) (past : List (List ℕ)) (packet : List ℕ) →
    holds_stray (heard card past) ≡ false → IsNoParity (offered card past packet).fault
unfolding offered
no_parity_offered card past packet even =
    no_parity_tuned card (tuning_of card.ca past) (length past) (heard card past) packet even

-- no message is refused for a packet before it
pub no_parity : (card : CardFields) (packets : List (List ℕ)) (packet : List ℕ) (n : ℕ) →
    (offered card (reverse (counting card [] packets)) packet).fault ≢ Some (Fault.Parity n)
no_parity card packets packet n is =
    subst IsNoParity is
    (no_parity_offered card (reverse (counting card [] packets)) packet (nothing_odd card packets))
