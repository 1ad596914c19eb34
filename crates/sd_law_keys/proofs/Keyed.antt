-- What the key of one period costs.
use Rattle.std.proofs.Common.{◌≡◌, refl, ℕ, ◌+◌, ◌^◌, ◌<◌, ◌≤◌, ◌==◌, ◌&&◌, Bool, true, false, not, nat_le}
use Rattle.std.proofs.Common.{List, [], ◌∷◌, length, Option, Some, None, is_none, if◌then◌else◌, arith, sym, ap, subst}
use Rattle.std.proofs.Common.{◌∙◌, ◌++◌}
use Rattle.std.specs.List.{list_any}
use Rattle.std.specs.Option.{option_map_or}
use Rattle.std.proofs.lemmas.Bool.{false≢true}
use Rattle.std.proofs.lemmas.Bool.Decides.{nat_tests}
use Rattle.sd_site_cards.specs.CardFields.{CardFields, card_of, site_card}
use Rattle.sd_message.specs.declared.emm.Emm.{Emm}
use Rattle.sd_psi.specs.declared.our_cat.Tuning.{Tuning}
use Rattle.sd_spec.specs.Plan.{Plan, IsPlan}
use Rattle.sd_spec.specs.Refused.{IsSendable}
use Rattle.sd_spec.specs.Sent.{Item, sent, closing_of, broadcast}
use Rattle.sd_spec.specs.Tuned.{tuning_of}
use Rattle.sd_spec.specs.Heard.{Heard, Dropped, Entitles, Controls, BadEmm, BadEcm, Other, hears}
use Rattle.sd_spec.specs.Stretches.{current, is_closed, sections_seen}
use Rattle.sd_spec.specs.Runs.{is_turn, of_run}
use Rattle.sd_spec.specs.Keys.{first_key, key_at, key_from, key_in}
use Rattle.sd_spec.specs.Offered.{heard, heard_more, heard_with}
use Rattle.sd_spec.specs.Ending.{turns_at}
use Rattle.sd_spec.specs.Taken.{takes_key, takes_key_in, takes_key_of, takes_key_at}
use Rattle.sd_spec.proofs.Runs.{same_run}
use Rattle.sd_law_broadcast.specs.Packets.{AreWholePackets}
use Rattle.sd_law_losses.specs.Chosen.{chosen}
use Rattle.sd_law_losses.proofs.Ends.{EndsBefore, losses_stand}
use Rattle.sd_law_losses.proofs.Hearing.{is_cat_item}
use Rattle.sd_law_losses.proofs.Lawful.{setting, laws_hold, can_be_heard}
use Rattle.sd_law_losses.proofs.OneRun.{AreOneRun, one_before}
use Rattle.sd_law_losses.proofs.Setting.{Setting}
use Rattle.sd_law_losses.proofs.Untuned.{untuned_one_run}
use Rattle.sd_law_losses.proofs.Writing.{onto}
use Rattle.sd_law_keys.specs.Costs.{is_one_run, is_section_at, is_section_of, steps_for}

-- the key of period q is known
abbrev IsKnown : CardFields → List Heard → ℕ → Type 0
IsKnown card past q = is_none (key_at card past q) ≡ false

both_true : (a b : Bool) → (a && b) ≡ true → (a ≡ true) × (b ≡ true)
both_true true b h = (refl, h)
both_true false b h = absurd (false≢true h)

first_stays : (a b : Option (List ℕ)) → is_none a ≡ false → is_none (first_key a b) ≡ false
first_stays (Some key) b known = refl
first_stays None b known = absurd (false≢true (sym known))

-- a key that is known stays so with one thing more of the run
known_with : (card : CardFields) (past : List Heard) (thing : Heard) (q : ℕ) → IsKnown card past q →
    IsKnown card (thing ∷ past) q
unfolding sections_seen key_in
known_with card past (Entitles emm) q known = by_test ((emm.period == q) && nat_le (current past) q)
  where
    by_test : (b : Bool) → is_none (key_in card (if b then emm ∷ sections_seen q past else sections_seen q past))
        ≡ false
    by_test true = first_stays (key_in card (sections_seen q past)) (key_from card emm) known
    by_test false = known
known_with card past Dropped q known = known
known_with card past (Controls part) q known = known
known_with card past (BadEmm fault) q known = known
known_with card past (BadEcm fault) q known = known
known_with card past (Other n packet) q known = known

known_on : (card : CardFields) (past : List Heard) (thing : Heard) (q : ℕ) → is_turn past thing ≡ false →
    IsKnown card past q → IsKnown card (heard_more past thing) q
known_on card past thing q straight known = rw (same_run past thing straight) (by_closed (is_closed past))
  where
    by_closed : (b : Bool) → IsKnown card (if b then past else thing ∷ past) q
    by_closed true = known
    by_closed false = known_with card past thing q known

-- a section of q that takes a key makes it known
known_now : (card : CardFields) (run : List Heard) (thing : Heard) (q : ℕ) → takes_key_of card run thing ≡ true →
    is_section_of q thing ≡ true → IsKnown card (thing ∷ run) q
unfolding takes_key sections_seen key_in
known_now card run (Entitles emm) q takes section =
    let same : emm.period ≡ q = grind (arith, nat_tests, section) in
    let parts = both_true (nat_le (current run) emm.period)
    (is_none (key_at card run emm.period) && not (is_none (key_from card emm))) takes in
    let gives = (both_true (is_none (key_at card run emm.period)) (not (is_none (key_from card emm))) parts.1).1 in
    let within : nat_le (current run) q ≡ true =
    subst (λ (p : ℕ). nat_le (current run) p ≡ true) same parts.0 in
    rw section (rw within (last_given (key_in card (sections_seen q run)) (key_from card emm) gives))
  where
    last_given : (a b : Option (List ℕ)) → not (is_none b) ≡ true → is_none (first_key a b) ≡ false
    last_given (Some key) b gives = refl
    last_given None (Some key) gives = refl
    last_given None None gives = absurd (false≢true gives)
known_now card run Dropped q takes section = absurd (false≢true section)
known_now card run (Controls part) q takes section = absurd (false≢true section)
known_now card run (BadEmm fault) q takes section = absurd (false≢true section)
known_now card run (BadEcm fault) q takes section = absurd (false≢true section)
known_now card run (Other n packet) q takes section = absurd (false≢true section)

known_after : (card : CardFields) (past : List Heard) (thing : Heard) (q : ℕ) → takes_key_in card past thing ≡ true →
    is_section_of q thing ≡ true → IsKnown card (heard_more past thing) q
known_after card past thing q takes section = by_closed (is_closed (of_run past thing)) takes
  where
    by_closed : (b : Bool) → (if b then false else takes_key_of card (of_run past thing) thing) ≡ true →
        IsKnown card (if b then past else thing ∷ of_run past thing) q
    by_closed true takes = absurd (false≢true takes)
    by_closed false takes = known_now card (of_run past thing) thing q takes section

-- and no section takes a key that is known
not_of_known : (card : CardFields) (past : List Heard) (thing : Heard) (q : ℕ) → IsKnown card past q →
    takes_key_of card past thing ≡ true → is_section_of q thing ≡ true → ⊥
unfolding takes_key
not_of_known card past (Entitles emm) q known takes section =
    let same : emm.period ≡ q = grind (arith, nat_tests, section) in
    let parts = both_true (nat_le (current past) emm.period)
    (is_none (key_at card past emm.period) && not (is_none (key_from card emm))) takes in
    let none = (both_true (is_none (key_at card past emm.period)) (not (is_none (key_from card emm))) parts.1).0 in
    false≢true (sym known ∙ subst (λ (p : ℕ). is_none (key_at card past p) ≡ true) same none)
not_of_known card past Dropped q known takes section = false≢true section
not_of_known card past (Controls part) q known takes section = false≢true section
not_of_known card past (BadEmm fault) q known takes section = false≢true section
not_of_known card past (BadEcm fault) q known takes section = false≢true section
not_of_known card past (Other n packet) q known takes section = false≢true section

never_again : (card : CardFields) (past : List Heard) (thing : Heard) (q : ℕ) → is_turn past thing ≡ false →
    IsKnown card past q → takes_key_in card past thing ≡ true → is_section_of q thing ≡ true → ⊥
never_again card past thing q straight known takes section =
    by_closed (is_closed past) (subst (λ (run : List Heard). (if is_closed run then false else takes_key_of card run
    thing) ≡ true) (same_run past thing straight) takes)
  where
    by_closed : (b : Bool) → (if b then false else takes_key_of card past thing) ≡ true → ⊥
    by_closed true takes = false≢true takes
    by_closed false takes = not_of_known card past thing q known takes section

-- a section of q that takes its key makes it known
packet_known : (q : ℕ) (card : CardFields) (past : List (List ℕ)) (packet : List ℕ) →
    is_section_at q card past packet ≡ true → takes_key_at card past packet ≡ true →
    IsKnown card (heard card (packet ∷ past)) q
unfolding heard is_section_at takes_key_at
packet_known q card past packet section takes = by_tuning (tuning_of card.ca past) section takes
  where
    by_tuning : (t : Option Tuning) →
        option_map_or (λ tuning. is_section_of q (hears card.height tuning (length past) packet)) t false ≡ true →
        option_map_or (λ tuning. takes_key_in card (heard card past) (hears card.height tuning (length past) packet)) t
        false ≡ true →
        IsKnown card (heard_with card t (length past) packet (heard card past)) q
    by_tuning None section takes = absurd (false≢true takes)
    by_tuning (Some tuning) section takes =
        known_after card (heard card past) (hears card.height tuning (length past) packet) q takes section

-- after that no section of the run takes it, and it stays known
packet_goes_on : (q : ℕ) (card : CardFields) (past : List (List ℕ)) (packet : List ℕ) →
    turns_at card past packet ≡ false → IsKnown card (heard card past) q →
    (is_section_at q card past packet ≡ true → takes_key_at card past packet ≡ true → ⊥)
    × IsKnown card (heard card (packet ∷ past)) q
unfolding heard is_section_at takes_key_at turns_at
packet_goes_on q card past packet straight known = by_tuning (tuning_of card.ca past) straight
  where
    by_tuning : (t : Option Tuning) →
        option_map_or (λ tuning. is_turn (heard card past) (hears card.height tuning (length past) packet)) t false
        ≡ false →
        (option_map_or (λ tuning. is_section_of q (hears card.height tuning (length past) packet)) t false ≡ true →
        option_map_or (λ tuning. takes_key_in card (heard card past) (hears card.height tuning (length past) packet)) t
        false ≡ true → ⊥)
        × IsKnown card (heard_with card t (length past) packet (heard card past)) q
    by_tuning None straight = (λ section takes. false≢true takes, known)
    by_tuning (Some tuning) straight =
        let thing : Heard = hears card.height tuning (length past) packet in (
          λ section takes. never_again card (heard card past) thing q straight known takes section,
          known_on card (heard card past) thing q straight known,
        )

-- none of a run begins another
run_cut : (card : CardFields) (past : List (List ℕ)) (packet : List ℕ) (packets : List (List ℕ)) →
    is_one_run card past (packet ∷ packets) ≡ true →
    (turns_at card past packet ≡ false) × (is_one_run card (packet ∷ past) packets ≡ true)
unfolding is_one_run
run_cut card past packet packets one =
    let both = both_true (not (turns_at card past packet)) (is_one_run card (packet ∷ past) packets) one in
    (unturned (turns_at card past packet) both.0, both.1)
  where
    unturned : (b : Bool) → not b ≡ true → b ≡ false
    unturned true h = absurd (false≢true h)
    unturned false h = refl

-- no steps at a packet that isn't both
no_steps : (a b : Bool) (h rest : ℕ) → (a ≡ true → b ≡ true → ⊥) → rest ≡ 0 →
    (if a then (if b then h else 0) else 0) + rest ≡ 0
no_steps true true h rest never none = absurd (never refl refl)
no_steps true false h rest never none = omega (arith, none)
no_steps false b h rest never none = omega (arith, none)

none_again : (q : ℕ) (card : CardFields) (past packets : List (List ℕ)) → is_one_run card past packets ≡ true →
    IsKnown card (heard card past) q → steps_for q card past packets ≡ 0
unfolding steps_for
none_again q card past [] one known = refl
none_again q card past (packet ∷ packets) one known =
    let cut = run_cut card past packet packets one in
    let on = packet_goes_on q card past packet cut.0 known in
    no_steps (is_section_at q card past packet) (takes_key_at card past packet) card.height
    (steps_for q card (packet ∷ past) packets) on.0 (none_again q card (packet ∷ past) packets cut.1 on.1)

-- the first packet takes the key, or one after it does
first_or_later : (a b : Bool) (h rest : ℕ) → (a ≡ true → b ≡ true → rest ≡ 0) → rest ≤ h →
    (if a then (if b then h else 0) else 0) + rest ≤ h
first_or_later true true h rest none few = omega (arith, none refl refl)
first_or_later true false h rest none few = omega (arith, few)
first_or_later false b h rest none few = omega (arith, few)

few_after : (q : ℕ) (card : CardFields) (past packets : List (List ℕ)) → is_one_run card past packets ≡ true →
    steps_for q card past packets ≤ card.height
unfolding steps_for
few_after q card past [] one = omega arith
few_after q card past (packet ∷ packets) one =
    let cut = run_cut card past packet packets one in
    first_or_later (is_section_at q card past packet) (takes_key_at card past packet) card.height
    (steps_for q card (packet ∷ past) packets)
    (λ section takes. none_again q card (packet ∷ past) packets cut.1 (packet_known q card past packet section takes))
    (few_after q card (packet ∷ past) packets cut.1)

pub few_in_one_run : (q : ℕ) (card : CardFields) (past : List (List ℕ)) (packet : List ℕ) (packets : List (List ℕ)) →
    is_one_run card (packet ∷ past) packets ≡ true → steps_for q card past (packet ∷ packets) ≤ card.height
unfolding steps_for
few_in_one_run q card past packet packets one =
    first_or_later (is_section_at q card past packet) (takes_key_at card past packet) card.height
    (steps_for q card (packet ∷ past) packets)
    (λ section takes. none_again q card (packet ∷ past) packets one (packet_known q card past packet section takes))
    (few_after q card (packet ∷ past) packets one)

one_run_is : (card : CardFields) (packets past : List (List ℕ)) → AreOneRun card (onto packets past) →
    is_one_run card past packets ≡ true
unfolding is_one_run
one_run_is card [] past one = refl
one_run_is card (packet ∷ packets) past one =
    rw (one_before card packets (packet ∷ past) one).0 (one_run_is card packets (packet ∷ past) one)

-- what is kept of a broadcast is of one run
kept_of_one_run : (plan : Plan) (clear : List (List ℕ)) (u : ℕ) (flags : List Bool) → IsPlan plan →
    IsSendable plan.site clear → AreWholePackets clear → u < 2 ^ plan.site.height →
    AreOneRun (site_card plan.site u)
    (onto (chosen flags (broadcast plan clear)) [])
kept_of_one_run plan clear u flags is all whole leaf =
    by_cat (list_any is_cat_item kept)
    (losses_stand s (laws_hold plan clear u is all whole leaf) (can_be_heard plan clear u is all whole) flags)
  where
    s : Setting
    s = setting plan clear u

    kept : List Item
    kept = chosen flags (sent plan clear ++ closing_of plan clear)

    packets : List (List ℕ)
    packets = onto (chosen flags (broadcast plan clear)) []

    by_cat : (b : Bool) → EndsBefore s b kept packets → AreOneRun s.card packets
    by_cat true stands = stands.tuned.one
    by_cat false none = untuned_one_run s.card packets none

pub few_of_broadcast : (plan : Plan) (clear : List (List ℕ)) (u : ℕ) (flags : List Bool) (q : ℕ) → IsPlan plan →
    IsSendable plan.site clear → AreWholePackets clear → u < 2 ^ plan.site.height →
    steps_for q (site_card plan.site u) [] (chosen flags (broadcast plan clear))
    ≤ plan.site.height
unfolding card_of
few_of_broadcast plan clear u flags q is all whole leaf =
    let card : CardFields = site_card plan.site u in
    let packets : List (List ℕ) = chosen flags (broadcast plan clear) in
    few_after q card [] packets (one_run_is card packets [] (kept_of_one_run plan clear u flags is all whole leaf))

-- what takes a key is a section
of_section : (card : CardFields) (run : List Heard) (thing : Heard) → takes_key_of card run thing ≡ true →
    (emm : Emm) × (thing ≡ Entitles emm)
of_section card run (Entitles emm) takes = (emm, refl)
of_section card run Dropped takes = absurd (false≢true takes)
of_section card run (Controls part) takes = absurd (false≢true takes)
of_section card run (BadEmm fault) takes = absurd (false≢true takes)
of_section card run (BadEcm fault) takes = absurd (false≢true takes)
of_section card run (Other n packet) takes = absurd (false≢true takes)

in_section : (card : CardFields) (things : List Heard) (thing : Heard) → takes_key_in card things thing ≡ true →
    (emm : Emm) × (thing ≡ Entitles emm)
in_section card things thing takes = by_closed (is_closed (of_run things thing)) takes
  where
    by_closed : (b : Bool) → (if b then false else takes_key_of card (of_run things thing) thing) ≡ true →
        (emm : Emm) × (thing ≡ Entitles emm)
    by_closed true takes = absurd (false≢true takes)
    by_closed false takes = of_section card (of_run things thing) thing takes

of_one_period : (thing : Heard) → (emm : Emm) × (thing ≡ Entitles emm) →
    (q : ℕ) × (is_section_of q thing ≡ true) × ((p : ℕ) → is_section_of p thing ≡ true → p ≡ q)
of_one_period thing (emm, is) = (
  emm.period,
  ap (is_section_of emm.period) is ∙ itself emm.period,
  λ p section. other p (subst (λ (h : Heard). is_section_of p h ≡ true) is section),
)
  where
    itself : (n : ℕ) → (n == n) ≡ true
    itself n = grind (arith, nat_tests)

    other : (p : ℕ) → (emm.period == p) ≡ true → p ≡ emm.period
    other p same = grind (arith, nat_tests, same)

-- a packet that takes a key is a section, and so of one period
pub each_of_one : (card : CardFields) (past : List (List ℕ)) (packet : List ℕ) → takes_key_at card past packet ≡ true →
    (q : ℕ) × (is_section_at q card past packet ≡ true)
    × ((p : ℕ) → is_section_at p card past packet ≡ true → p ≡ q)
unfolding is_section_at takes_key_at
each_of_one card past packet takes = by_tuning (tuning_of card.ca past) takes
  where
    by_tuning : (t : Option Tuning) →
        option_map_or (λ tuning. takes_key_in card (heard card past) (hears card.height tuning (length past) packet)) t
        false ≡ true →
        (q : ℕ) × (option_map_or (λ tuning. is_section_of q (hears card.height tuning (length past) packet)) t false
        ≡ true)
        × ((p : ℕ) → option_map_or (λ tuning. is_section_of p (hears card.height tuning (length past) packet)) t false
        ≡ true → p ≡ q)
    by_tuning None takes = absurd (false≢true takes)
    by_tuning (Some tuning) takes =
        let thing : Heard = hears card.height tuning (length past) packet in
        of_one_period thing (in_section card (heard card past) thing takes)
