-- The messages of a broadcast are ones that are written and read.
use Rattle.std.proofs.Common.{◌≡◌, ℕ, zero, suc, ◌+◌, ◌-◌, ◌*◌, ◌/◌, ◌^◌, ◌<◌, ◌≤◌, Bool, true, false}
use Rattle.std.proofs.Common.{List, [], ◌∷◌, ◌++◌, length, get_or, map, refl, sym, subst, ◌∙◌, inl, inr, arith}
use Rattle.std.specs.Prelude.{All, AllPairs}
use Rattle.std.specs.List.{range_with_len}
use Rattle.std.proofs.Math.Nat.{zero-div, div-le_self, div-le_of_le-mul, mul-suc, mul-le-mul_right}
use Rattle.std.proofs.lemmas.Bool.{cases_lt}
use Rattle.std.proofs.lemmas.Bool.Decides.{nat_tests}
use Rattle.std.proofs.lemmas.List.{length-map}
use Rattle.std.proofs.lemmas.List.FromFn.{length-range_with_len, get_or-range_with_len}
use Rattle.std.proofs.lemmas.List.Elements.{All-map, All-filter, All-contains, Contains-get_or}
use Rattle.std.proofs.lemmas.List.Kept.{AllPairs-cons, AllPairs-filter}
use Rattle.sha2.specs.Sha256.{sha256}
use Rattle.sha2.proofs.Facts256.{length-sha256}
use Rattle.std.proofs.lemmas.List.{length-take-le}
use Rattle.sd_tree_keys.specs.SetNames.{AreAscending as AreSetsAscending}
use Rattle.sd_tree_keys.specs.declared.set.SetName.{SetName}
use Rattle.sd_tree_keys.specs.declared.set.SetName.TheVariants.{Whole}
use Rattle.sd_cipher.specs.Keystream.{keystream}
use Rattle.sd_cipher.proofs.Streams.{keystream_length, xored_length}
use Rattle.sd_packet.specs.Positions.{is_positional, position_of}
use Rattle.sd_packet.proofs.Positions.{moved_by_near}
use Rattle.sd_tree_keys.specs.Keys.{key_of, period_key_of, control_word_of, check_value_of}
use Rattle.sd_cipher.specs.Wrapping.{wrapped as under}
use Rattle.sd_site_cards.specs.SiteFields.{SiteFields, AreInRange}
use Rattle.sd_book.specs.Commands.{last_period, revoked}
use Rattle.sd_book.proofs.Revocations.{below}
use Rattle.sd_book.proofs.Cuts.{revoked_past}
use Rattle.sd_cover_tracing.specs.Chains.{IsChainCover}
use Rattle.sd_cover_tracing.specs.Partition.{IsSmall}
use Rattle.sd_cover_tracing.proofs.Covers.{cover_small}
use Rattle.sd_cover_tracing.proofs.Ends.{AreLeaves}
use Rattle.sd_cover_tracing.proofs.There.{the_cover}
use Rattle.sd_cover_tracing.proofs.Heights.{of_height}
use Rattle.sd_message.specs.EmmSpelled.{names_in}
use Rattle.sd_message.specs.EmmForm.{IsSetBeside, AreSets, AreWrapped}
use Rattle.sd_message.specs.Period.{IsPeriod}
use Rattle.sd_message.specs.declared.emm.Entry.{Entry}
use Rattle.sd_message.specs.EcmForm.{ArePidsAscending}
use Rattle.sd_message.specs.EcmVersions.{IsBeforeMessage}
use Rattle.sd_message.specs.EcmParts.{IsMessage}
use Rattle.sd_message.specs.declared.ecm_part.Place.{Place}
use Rattle.sd_spec.specs.Plan.{Plan, IsPlan, sets_at, crypto_length, crypto_of, word_of, period_of}
use Rattle.sd_spec.specs.Plan.{since_of, closing_number}
use Rattle.sd_spec.proofs.Naming.{version_is, named_is, name_short}
use Rattle.sd_spec.specs.Kinds.{has_moved, positional_pids, moved_pids}
use Rattle.sd_spec.specs.Messages.{entry_of, period_at, places_after, message_at}
use Rattle.sd_spec.specs.Refused.{IsSendable}
use Rattle.sd_spec.proofs.Schedule.{since_is_below, closing_of_none, period_short}
use Rattle.sd_spec.proofs.Periods.{names_are}
use Rattle.sd_law_broadcast.proofs.Clear.{clear_short, clear_pids, clear_words}

-- a wrapped key has 32 bytes
under_length : (key : List ℕ) (number : ℕ) (text : List ℕ) → length text ≡ 32 → length (under key number text) ≡ 32
unfolding under
under_length key number text long =
    let stream = keystream_length key number 32 in
    xored_length text (keystream key number 32) (omega (arith, long, stream)) ∙ long

-- so has a period key, and a control word
pub period_key_length : (master : List ℕ) (q : ℕ) → length (period_key_of master q) ≡ 32
unfolding period_key_of
period_key_length master q = length-sha256 _

pub control_word_length : (master : List ℕ) (t : ℕ) → length (control_word_of master t) ≡ 32
unfolding control_word_of
control_word_length master t = length-sha256 _

-- a check value has 16
check_length : (key : List ℕ) → length (check_value_of key) ≡ 16
unfolding check_value_of
check_length key =
    let long = length-sha256 (key ++ 0x56 ∷ []) in
    length-take-le 16 (sha256 (key ++ 0x56 ∷ [])) (omega (arith, long))

-- revoked leaves are leaves
pub are_leaves : (plan : Plan) (q : ℕ) → AreLeaves plan.site.height (revoked plan.site.height plan.commands q)
are_leaves plan q u m = All-contains (λ w. w < 2 ^ plan.site.height) (revoked plan.site.height plan.commands q) u
    (below plan.site.height plan.commands q) m

-- the sets of a period are the chain cover of its revoked leaves
pub sets_cover : (plan : Plan) (q : ℕ) → IsPlan plan →
    IsChainCover plan.site.height (revoked plan.site.height plan.commands q) (sets_at plan q)
unfolding sets_at
sets_cover plan q is =
    let high = is.site.height.1 in
    (the_cover plan.site.height (revoked plan.site.height plan.commands q) (sets_at plan q)
    (omega (arith, high)) (are_leaves plan q)).1 refl

-- so they are few
pub sets_small : (plan : Plan) (q : ℕ) → IsPlan plan →
    IsSmall (sets_at plan q) (length (revoked plan.site.height plan.commands q))
sets_small plan q is =
    let high = is.site.height.1 in
    cover_small plan.site.height (revoked plan.site.height plan.commands q) (sets_at plan q) (omega (arith, high))
    (are_leaves plan q) (sets_cover plan q is)

-- in no period more leaves are revoked than in a book's
revoked_few : (plan : Plan) (q : ℕ) → IsPlan plan → length (revoked plan.site.height plan.commands q) ≤ 65536
revoked_few plan q is = elim (cases_lt (last_period plan.commands) q) [
  | inl past ↦
      let same = revoked_past plan.site.height q plan.commands (omega (arith, past)) in
      let most = is.book.revoked (last_period plan.commands) (omega arith) in
      rw same (omega (arith, most))
  | inr within ↦ let most = is.book.revoked q (omega (arith, within)) in omega (arith, most)
]

-- no more than fit into a period's sections
sets_few : (plan : Plan) (q : ℕ) → IsPlan plan → length (sets_at plan q) ≤ 131071
sets_few plan q is =
    let small = sets_small plan q is in
    let most = revoked_few plan q is in
    elim (cases_lt 0 (length (revoked plan.site.height plan.commands q))) [
      | inl some ↦ let count = small.count some in omega (arith, most, count)
      | inr none ↦ rw (small.none_revoked (omega (arith, none))) (omega arith)
    ]

-- each is of the tree's height, and the whole set alone
pub sets_stand : (plan : Plan) (q : ℕ) → IsPlan plan →
    All (IsSetBeside plan.site.height (length (sets_at plan q))) (sets_at plan q)
sets_stand plan q is = λ k d within. record {
  of_height = of_height plan.site.height (revoked plan.site.height plan.commands q) (sets_at plan q)
      (are_leaves plan q) (sets_cover plan q is) (get_or (sets_at plan q) k d)
      (Contains-get_or (sets_at plan q) k d within);
  alone = λ whole. alone k d within whole;
}
  where
    alone : (k : ℕ) (d : SetName) → k < length (sets_at plan q) → get_or (sets_at plan q) k d ≡ Whole →
        length (sets_at plan q) ≤ 1
    alone k d within whole = elim (cases_lt 0 (length (revoked plan.site.height plan.commands q))) [
      | inl some ↦ absurd ((sets_small plan q is).none_whole some k d within whole)
      | inr none ↦ rw ((sets_small plan q is).none_revoked (omega (arith, none))) (omega arith)
    ]

-- each with a wrapped key of 32 bytes
entry_wrapped : (site : SiteFields) (q : ℕ) (name : SetName) → length (entry_of site q name).wrapped ≡ 32
unfolding entry_of
entry_wrapped site q name =
    under_length (key_of site.master name) q (period_key_of site.master q) (period_key_length site.master q)

entries_wrapped : (site : SiteFields) (q : ℕ) (names : List SetName) → AreWrapped (map (entry_of site q) names)
entries_wrapped site q names = All-map (λ (e : Entry). length e.wrapped ≡ 32) (entry_of site q) names
    (λ k d within. entry_wrapped site q (get_or names k d))

-- the sets of a period's entries, and their number
pub period_names : (plan : Plan) (q : ℕ) → names_in (period_at plan q).entries ≡ sets_at plan q
unfolding period_at
period_names plan q = names_are plan.site q (sets_at plan q)

pub period_count : (plan : Plan) (q : ℕ) → length (period_at plan q).entries ≡ length (sets_at plan q)
unfolding period_at
period_count plan q = length-map (sets_at plan q) (entry_of plan.site q)

-- the entitlements of a period fit
pub period_fits : (plan : Plan) (q : ℕ) → IsPlan plan → q < 2 ^ 32 → IsPeriod (period_at plan q)
unfolding period_at
period_fits plan q is low =
    record {
      ascending = subst AreSetsAscending (sym (names_are plan.site q (sets_at plan q)))
          (sets_cover plan q is).ascending;
      run = name_short plan.site is.site;
      number = low;
      check = check_length (period_key_of plan.site.master q);
      sets = rw (length-map (sets_at plan q) (entry_of plan.site q)) (sets_few plan q is);
      wrapped = entries_wrapped plan.site q (sets_at plan q);
    }

-- and their sets may stand
pub period_sets : (plan : Plan) (q : ℕ) → IsPlan plan →
    AreSets plan.site.height (length (period_at plan q).entries) (period_at plan q).entries
unfolding period_at entry_of
period_sets plan q is =
    subst (λ (n : ℕ). AreSets plan.site.height n (map (entry_of plan.site q) (sets_at plan q)))
    (sym (length-map (sets_at plan q) (entry_of plan.site q)))
    (All-map (λ (e : Entry). IsSetBeside plan.site.height (length (sets_at plan q)) e.name) (entry_of plan.site q)
    (sets_at plan q) (sets_stand plan q is))

-- numbers of a range ascend
range_ascends : (a n : ℕ) → AllPairs (λ x y. x < y) (range_with_len a n)
range_ascends a n i j d before within =
    let long = length-range_with_len a n in
    let low = get_or-range_with_len a n i d (omega (arith, long, before, within)) in
    let high = get_or-range_with_len a n j d (omega (arith, long, within)) in
    rw (low, high) (omega (arith, before))

-- the PIDs that have moved are ascending ones that have positions
moved_ascend : (before : List (List ℕ)) → AllPairs (λ x y. x < y) (moved_pids before)
unfolding moved_pids positional_pids
moved_ascend before = AllPairs-filter (λ x y. x < y) (has_moved before) (range_with_len 0x20 0x1FD0)
    (range_ascends 0x20 0x1FD0)

range_positional : All (λ pid. is_positional pid ≡ true) (range_with_len 0x20 0x1FD0)
range_positional k d within =
    let long = length-range_with_len 0x20 0x1FD0 in
    let at = get_or-range_with_len 0x20 0x1FD0 k d (omega (arith, long, within)) in
    let below : k < 0x1FD0 = omega (arith, long, within) in
    rw at (grind (arith, nat_tests, below))

moved_positional : (before : List (List ℕ)) → All (λ pid. is_positional pid ≡ true) (moved_pids before)
unfolding moved_pids positional_pids
moved_positional before =
    All-filter (has_moved before) (λ pid. is_positional pid ≡ true) (range_with_len 0x20 0x1FD0) range_positional

-- the place of a PID
abbrev place_at : List (List ℕ) → ℕ → Place
place_at before pid = record { pid = pid; position = position_of pid before }

-- places of ascending PIDs ascend
places_ascend : (before : List (List ℕ)) (pids : List ℕ) → AllPairs (λ x y. x < y) pids →
    ArePidsAscending (map (place_at before) pids)
places_ascend before [] up = λ i j d below within. absurd (omega (arith, within))
places_ascend before (pid ∷ pids) up =
    AllPairs-cons (λ (a b : Place). a.pid < b.pid) (place_at before pid) (map (place_at before) pids)
    (All-map (λ (b : Place). pid < b.pid) (place_at before) pids
    (λ k d within. up 0 (suc k) d (omega arith) (omega (arith, within))))
    (places_ascend before pids (λ i j d below within. up (suc i) (suc j) d (omega (arith, below)) (omega
    (arith, within))))

-- the number from which on the word holds is as it is to be
since_first : (version cryptos : ℕ) → version ≡ 1 → (a : ℕ) → since_of version cryptos a ≡ a - 1
since_first version cryptos one zero = refl
since_first version cryptos one (suc a) = rw one (omega arith)

since_before : (version cryptos a : ℕ) → IsBeforeMessage (since_of version cryptos a) a
since_before version cryptos zero = inr (refl, refl)
since_before version cryptos (suc a) = inl (since_is_below version cryptos (suc a) (omega arith))

-- control messages fit, whatever clear packets are before them
pub message_fits : (plan : Plan) (before : List (List ℕ)) (a k : ℕ) (closing : Bool) → IsPlan plan →
    IsSendable plan.site before → a < 2 ^ 32 → word_of plan.site k < 2 ^ 32 →
    IsMessage (message_at plan before a k closing)
unfolding message_at places_after
message_fits plan before a k closing is clear few near =
    let short = clear_short plan.site before clear in
    let pids = clear_pids plan.site before clear in
    let word = control_word_of plan.site.master (word_of plan.site k) in
    record {
      version = version_is plan.site.messages is.site.messages;
      named = named_is plan.site;
      run = name_short plan.site is.site;
      number = few;
      period = period_short plan k is;
      word = near;
      clear = short;
      since = record {
        before = since_before plan.site.messages plan.site.cryptos a;
        fixed = λ one. since_first plan.site.messages plan.site.cryptos one a;
      };
      wrapped = under_length (period_key_of plan.site.master (period_of plan k)) (word_of plan.site k) word
          (control_word_length plan.site.master (word_of plan.site k));
      check = check_length word;
      count = rw (length-map (moved_pids before) (place_at before)) pids;
      places = All-map (λ (p : Place). is_positional p.pid ≡ true) (place_at before) (moved_pids before)
          (moved_positional before);
      ascending = places_ascend before (moved_pids before) (moved_ascend before);
      positions = All-map (λ (p : Place). p.position < 2 ^ 48) (place_at before) (moved_pids before)
          (λ i d inside. position_short (get_or (moved_pids before) i d) short);
    }
  where
    position_short : (pid : ℕ) → length before < 2 ^ 32 → position_of pid before < 2 ^ 48
    position_short pid short =
        let near = (moved_by_near pid 15 before).1 in
        omega (arith, near, short)

-- those that stand before packets
pub message_before_fits : (plan : Plan) (before : List (List ℕ)) → IsPlan plan → IsSendable plan.site before →
    word_of plan.site (length before) < 2 ^ 32 →
    IsMessage (message_at plan before (length before / plan.site.every) (length before) false)
message_before_fits plan before is clear near =
    let short = clear_short plan.site before clear in
    let low = div-le_self (length before) plan.site.every in
    message_fits plan before (length before / plan.site.every) (length before) false is clear
    (omega (arith, low, short)) near

-- the number of the closing message
pub closing_low : (site : SiteFields) (m : ℕ) → AreInRange site → closing_number site m ≤ m
closing_low site zero r = omega (arith, closing_of_none site r)
closing_low site (suc m) r =
    let some = r.every.0 in
    let wide : site.every * suc m ≡ site.every * m + site.every = omega (arith, mul-suc site.every m) in
    let more : 1 * m ≤ site.every * m = mul-le-mul_right m (omega (arith, some)) in
    div-le_of_le-mul site.every (omega (arith, some, wide, more))

-- the first packet has the site's first control word
word_of_first : (site : SiteFields) → word_of site 0 ≡ site.first_word
unfolding word_of crypto_of
word_of_first site =
    let begins : 0 / crypto_length site ≡ 0 = zero-div (crypto_length site) in
    omega (arith, begins)

-- the control words of a clear stream have 4 bytes, and so has that of none
pub word_low : (plan : Plan) (clear : List (List ℕ)) (k : ℕ) → IsPlan plan → IsSendable plan.site clear →
    k ≤ length clear - 1 → word_of plan.site k < 2 ^ 32
word_low plan clear k is all within = elim (cases_lt k (length clear)) [
  | inl inside ↦
      let word = clear_words plan.site clear k all inside in
      let last = is.site.last_word.1 in
      omega (arith, word, last)
  | inr past ↦
      let first = is.site.first_word.1 in
      let begins = word_of_first plan.site in
      let none : 0 ≡ k = omega (arith, within, past) in
      subst (λ (j : ℕ). word_of plan.site j < 2 ^ 32) none (omega (arith, first, begins))
]

-- and the closing one
pub closing_fits : (plan : Plan) (clear : List (List ℕ)) → IsPlan plan → IsSendable plan.site clear →
    IsMessage (message_at plan clear (closing_number plan.site (length clear)) (length clear - 1) true)
closing_fits plan clear is all =
    let short = clear_short plan.site clear all in
    let low = closing_low plan.site (length clear) is.site in
    message_fits plan clear (closing_number plan.site (length clear)) (length clear - 1) true is all
    (omega (arith, low, short)) (word_low plan clear (length clear - 1) is all (omega arith))
