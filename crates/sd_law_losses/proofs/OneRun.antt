-- Packets of one run: none of them begins another.
use Rattle.std.proofs.Common.{◌≡◌, refl, ℕ, ◌+◌, Bool, false, not, List, [], ◌∷◌, ◌++◌, length}
use Rattle.std.proofs.Common.{Option, Some, None, is_none, if◌then◌else◌, arith, ap, ◌∙◌, length-append}
use Rattle.std.specs.Prelude.{All}
use Rattle.std.specs.Option.{option_map_or}
use Rattle.std.proofs.lemmas.List.Elements.{All-head, All-tail}
use Rattle.std.proofs.lemmas.Bool.Decides.{nat_tests}
use Rattle.sd_site_cards.specs.CardFields.{CardFields}
use Rattle.sd_spec.specs.declared.ending.Ending.TheVariants.{Opened}
use Rattle.sd_message.specs.declared.stream_fault.StreamFault.{StreamFault}
use Rattle.sd_spec.specs.Tuned.{tuning_of}
use Rattle.sd_psi.specs.declared.our_cat.Tuning.{Tuning}
use Rattle.sd_spec.specs.Heard.{Heard, hears}
use Rattle.sd_spec.specs.Stretches.{is_closed}
use Rattle.sd_spec.specs.Runs.{run_name_heard, name_or, run_name_in, is_same_run, are_two, is_turn}
use Rattle.sd_spec.specs.Offered.{heard, heard_more, heard_offering, run_offering, offered, out_from}
use Rattle.sd_spec.specs.Offered.{break_from}
use Rattle.sd_spec.specs.Ending.{endings_joined, turns_at, run_wrote, run_ending, ended_before}
use Rattle.sd_spec.proofs.Runs.{same_run}
use Rattle.sd_law_losses.proofs.Writing.{onto}

-- what is heard is no message of another run than the one with this name
abbrev pub IsOfRun : Option ℕ → Heard → Type 0
IsOfRun name thing = are_two (Some name) (run_name_heard thing) ≡ false

-- none of these packets, the newest first, is the first message of another run
abbrev pub AreOneRun : CardFields → List (List ℕ) → Type 0
AreOneRun card [] = Unit {0}
AreOneRun card (packet ∷ past) = (turns_at card past packet ≡ false) × AreOneRun card past

pub of_named : (name run : Option ℕ) → run ≡ name → are_two (Some name) (Some run) ≡ false
of_named name run is = ap (λ (r : Option ℕ). not (is_same_run name r)) is ∙ itself name
  where
    itself : (name : Option ℕ) → not (is_same_run name name) ≡ false
    itself None = refl
    itself (Some a) = grind (arith, nat_tests)

name_is : (name : Option ℕ) (past : List Heard) → All (IsOfRun name) past → are_two (Some name) (run_name_in past)
    ≡ false
unfolding run_name_in
name_is name [] all = refl
name_is name (thing ∷ past) all =
    by_name (run_name_heard thing) (All-head (IsOfRun name) thing past all)
    (name_is name past (All-tail (IsOfRun name) thing past all))
  where
    by_name : (first : Option (Option ℕ)) → are_two (Some name) first ≡ false →
        are_two (Some name) (run_name_in past) ≡ false → are_two (Some name) (name_or first (run_name_in past)) ≡ false
    by_name None here before = before
    by_name (Some run) here before = here

both_named : (name : Option ℕ) (a b : Option (Option ℕ)) → are_two (Some name) a ≡ false →
    are_two (Some name) b ≡ false → are_two a b ≡ false
both_named name None b first second = refl
both_named name (Some a) None first second = refl
both_named name (Some a) (Some b) first second = by_names name a b first second
  where
    by_names : (name a b : Option ℕ) → not (is_same_run name a) ≡ false → not (is_same_run name b) ≡ false →
        not (is_same_run a b) ≡ false
    by_names None None None first second = refl
    by_names None None (Some b) first second = second
    by_names None (Some a) None first second = first
    by_names None (Some a) (Some b) first second = absurd (cc first)
    by_names (Some n) None None first second = refl
    by_names (Some n) None (Some b) first second = first
    by_names (Some n) (Some a) None first second = second
    by_names (Some n) (Some a) (Some b) first second = grind (arith, nat_tests, first, second)

-- after messages of one run a message of it begins no other
pub no_turn : (name : Option ℕ) (past : List Heard) (thing : Heard) → All (IsOfRun name) past → IsOfRun name thing →
    is_turn past thing ≡ false
unfolding is_turn
no_turn name past thing all is = both_named name (run_name_in past) (run_name_heard thing) (name_is name past all) is

pub no_turn_at : (card : CardFields) (tuning : Tuning) (past : List (List ℕ)) (packet : List ℕ) (thing : Heard) →
    tuning_of card.ca past ≡ Some tuning → hears card.height tuning (length past) packet ≡ thing →
    is_turn (heard card past) thing ≡ false → turns_at card past packet ≡ false
unfolding turns_at
no_turn_at card tuning past packet thing tuned is straight =
    ap (λ (t : Option Tuning). option_map_or (λ tuning. is_turn (heard card past) (hears card.height tuning
    (length past) packet)) t false) tuned
    ∙ (ap (is_turn (heard card past)) is ∙ straight)

pub one_heard : (past : List Heard) (thing : Heard) → is_turn past thing ≡ false → is_closed past ≡ false →
    heard_more past thing ≡ thing ∷ past
one_heard past thing straight opened = rw (same_run past thing straight) (rw opened refl)

pub one_offered : (card : CardFields) (tuning : Tuning) (n : ℕ) (past : List Heard) (thing : Heard) →
    is_turn past thing ≡ false → is_closed past ≡ false →
    run_offering card tuning n past thing ≡ heard_offering card tuning n past thing
one_offered card tuning n past thing straight opened = rw (same_run past thing straight) (rw opened refl)

-- packets before packets of one run are
pub one_before : (card : CardFields) (packets past : List (List ℕ)) → AreOneRun card (onto packets past) →
    AreOneRun card past
one_before card [] past one = one
one_before card (packet ∷ packets) past one = (one_before card packets (packet ∷ past) one).1

-- before the end of one run none has ended
pub none_ended : (card : CardFields) (past : List (List ℕ)) → AreOneRun card past → ended_before card past ≡ Opened
unfolding ended_before
none_ended card [] one = refl
none_ended card (packet ∷ past) one =
    ap (λ (turn : Bool). if turn then endings_joined (ended_before card past) (run_ending card (heard card past)
    (run_wrote card past)) else ended_before card past) one.0
    ∙ none_ended card past one.1

-- all that is written is written of the run, where nothing is refused
run_wrote_all : (card : CardFields) (packets past : List (List ℕ)) → AreOneRun card (onto packets past) →
    break_from card past packets ≡ None →
    run_wrote card (onto packets past) ≡ run_wrote card past + length (out_from card past packets)
unfolding run_wrote out_from break_from
run_wrote_all card [] past one none = omega arith
run_wrote_all card (packet ∷ packets) past one none =
    by_fault (offered card past packet).fault none (λ then_none. run_wrote_all card packets (packet ∷ past) one
    then_none)
  where
    more : List (List ℕ)
    more = out_from card (packet ∷ past) packets

    here : run_wrote card (packet ∷ past) ≡ run_wrote card past + length (offered card past packet).wrote
    here = ap (λ (turn : Bool). (if turn then 0 else run_wrote card past) + length (offered card past packet).wrote)
        (one_before card packets (packet ∷ past) one).0

    by_fault : (fault : Option StreamFault) →
        option_map_or Some fault (break_from card (packet ∷ past) packets) ≡ None →
        (break_from card (packet ∷ past) packets ≡ None →
        run_wrote card (onto packets (packet ∷ past)) ≡ run_wrote card (packet ∷ past) + length more) →
        run_wrote card (onto packets (packet ∷ past)) ≡ run_wrote card past + length ((offered card past packet).wrote
        ++ (if is_none fault then more else []))
    by_fault (Some fault) none rest = absurd (cc none)
    by_fault None none rest =
        omega (arith, rest none, here, length-append (offered card past packet).wrote more)

pub run_wrote_first : (card : CardFields) (packets : List (List ℕ)) → AreOneRun card (onto packets []) →
    break_from card [] packets ≡ None → run_wrote card (onto packets []) ≡ length (out_from card [] packets)
unfolding run_wrote
run_wrote_first card packets one none =
    let all = run_wrote_all card packets [] one none in
    let before = nothing_wrote card in
    omega (arith, all, before)
  where
    nothing_wrote : (card : CardFields) → run_wrote card [] ≡ 0
    nothing_wrote card = refl
