-- A card that was not made.
use Rattle.std.proofs.Common.{◌≡◌, ◌⊎◌, ℕ, List, Result, Ok, Err, refl, ap, subst, inl, inr, arith}
use Rattle.sd_command_base.specs.declared.status.Status.{Status}
use Rattle.sd_command_base.specs.declared.status.Status.TheVariants.{NoMemory}
use Rattle.sd_command_base.specs.Outside.{DepotState, PageState, io_state, depot_after_calls}
use Rattle.sd_command_base.specs.Spec.{FileArgument, of_result, value, ◌>>=◌}
use Rattle.sd_command_base.specs.Work.{Uncounted, TakesSteps}
use Rattle.sd_command_base.specs.Outcome.{IsRefusal, IsEnding, Outcome, refused, exhausted, untouched, OutcomeWithin}
use Rattle.sd_command_base.specs.Reads.{TakesFor}
use Rattle.sd_command_base.specs.Made.{making}

taken : (meant : Result (List ℕ) Status) (out : FileArgument) (before now : ℕ) → TakesFor meant before now →
    TakesSteps (of_result meant >>= λ bytes. value (making Uncounted out bytes)).result before now
taken (Ok bytes) out before now h = tt
taken (Err refusal) out before now h = h

comes : (meant : Result (List ℕ) Status) (out : FileArgument) (p : DepotState) (page : PageState) (steps now : ℕ)
    (status : Status) →
    ((meant ≡ Err status) × IsRefusal status × IsEnding status) ⊎ (status ≡ NoMemory) →
    Outcome (of_result meant >>= λ bytes. value (making Uncounted out bytes)).result (io_state p page steps)
    (io_state p page now) status
comes meant out p page steps now status (inl h) =
    refused (ap (λ (r : Result (List ℕ) Status). (of_result r >>= λ bytes. value (making Uncounted out bytes)).result)
    h.0)
    h.1
    (record { files = refl; made = refl }) refl (record { depot = refl; print = refl })
    (record { missing = λ word is. absurd (subst IsEnding is h.2); there = λ other. refl })
comes meant out p page steps now status (inr h) =
    exhausted h (untouched (record { files = refl; made = refl }) refl) refl refl refl

-- the leaf was refused, or memory was out
pub card_obeys : (view_meant : Result (List ℕ) Status) (out : FileArgument) (p q : DepotState) (n : ℕ)
    (page : PageState) (steps now : ℕ) (status : Status) →
    q ≡ depot_after_calls n p → ((view_meant ≡ Err status) × IsRefusal status × IsEnding status) ⊎ (status ≡ NoMemory) →
    TakesFor view_meant steps now →
    OutcomeWithin (of_result view_meant >>= λ bytes. value (making Uncounted out bytes)) (io_state q page steps)
    (io_state q page now) status
card_obeys meant out p q n page steps now status e h takes = record {
  comes = comes meant out q page steps now status h;
  ports = refl;
  calls = omega arith;
  steps = taken meant out steps now takes;
}
