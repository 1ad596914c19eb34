-- Where a run begins, and how those before it ended.
use Rattle.std.proofs.Common.{◌≡◌, ℕ, Bool, true, false, List, [], ◌∷◌, length, Option, None, refl, ap}
use Rattle.std.specs.Prelude.{if◌then◌else◌}
use Rattle.std.specs.Option.{option_map_or}
use Rattle.sd_site_cards.specs.CardFields.{CardFields}
use Rattle.sd_psi.specs.declared.our_cat.Tuning.{Tuning}
use Rattle.sd_spec.specs.Tuned.{tuning_of}
use Rattle.sd_spec.specs.Heard.{Heard, hears}
use Rattle.sd_spec.specs.Runs.{is_turn, of_run}
use Rattle.sd_spec.specs.Offered.{heard}
use Rattle.sd_spec.specs.Ending.{run_ending, endings_joined, turns_at, run_wrote, ended_before}
use Rattle.sd_spec.specs.declared.ending.Ending.{Ending}
use Rattle.sd_spec.specs.declared.ending.Ending.TheVariants.{Opened, NoCat, Unclosed, Revoked, Unheard, Gaps}

-- without a turn what was heard of the run stays
pub same_run : (past : List Heard) (thing : Heard) → is_turn past thing ≡ false → of_run past thing ≡ past
unfolding of_run
same_run past thing stays = ap (λ (t : Bool). if t then [] else past) stays

-- at a turn nothing was heard of the new run
pub new_run : (past : List Heard) (thing : Heard) → is_turn past thing ≡ true → of_run past thing ≡ []
unfolding of_run
new_run past thing turns = ap (λ (t : Bool). if t then [] else past) turns

-- before a CAT was taken there is no turn
pub never_turns : (card : CardFields) (past : List (List ℕ)) (packet : List ℕ) → tuning_of card.ca past ≡ None →
    turns_at card past packet ≡ false
unfolding turns_at
never_turns card past packet none =
    ap (λ (t : Option Tuning). option_map_or (λ tuning. is_turn (heard card past) (hears card.height tuning
    (length past) packet)) t false) none

-- without a turn the runs before ended as they had
pub ended_on : (card : CardFields) (past : List (List ℕ)) (packet : List ℕ) → turns_at card past packet ≡ false →
    ended_before card (packet ∷ past) ≡ ended_before card past
unfolding ended_before
ended_on card past packet stays =
    ap (λ (t : Bool). if t then endings_joined (ended_before card past)
    (run_ending card (heard card past) (run_wrote card past)) else ended_before card past) stays

-- at a turn one more has ended
pub ended_now : (card : CardFields) (past : List (List ℕ)) (packet : List ℕ) → turns_at card past packet ≡ true →
    ended_before card (packet ∷ past)
    ≡ endings_joined (ended_before card past) (run_ending card (heard card past) (run_wrote card past))
unfolding ended_before
ended_now card past packet turns =
    ap (λ (t : Bool). if t then endings_joined (ended_before card past)
    (run_ending card (heard card past) (run_wrote card past)) else ended_before card past) turns

-- after what opened, the ending is the next one's
pub opened_joins : (ending : Ending) → endings_joined Opened ending ≡ ending
unfolding endings_joined
opened_joins Opened = refl
opened_joins (Revoked q) = refl
opened_joins (Unheard q) = refl
opened_joins NoCat = refl
opened_joins (Unclosed n) = refl
opened_joins (Gaps n) = refl
