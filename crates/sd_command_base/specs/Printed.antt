-- Public meaning: work that prints a text and makes no file.
use Rattle.std.specs.Prelude.{◌≡◌, ◌⊎◌, ℕ, false, List, [], ◌∷◌, None, Result, Ok, Err}
use Rattle.sd_command_base.specs.declared.status.Status.{Status}
use Rattle.sd_command_base.specs.declared.status.Status.TheVariants.{Done, NoMemory}
use Rattle.sd_command_base.specs.Work.{Uncounted, Work}
use Rattle.sd_command_base.specs.Outcome.{IsEnding}

-- prints a text, or nothing and ends otherwise
abbrev pub printing : Result (List ℕ) Status → Work
printing (Ok text) =
    record { mark = None; out = None; pieces = text ∷ []; ends = Done; breaks = false; live = false; steps = Uncounted }
printing (Err status) =
    record { mark = None; out = None; pieces = []; ends = status; breaks = false; live = false; steps = Uncounted }

-- a step in memory gives what is meant, or the status that it ends with, or memory was out
abbrev pub MemoryOutcome : {X : Type 0} → (X → List ℕ) → Result (List ℕ) Status → Result X Status → Type 0
MemoryOutcome view meant (Ok x) = meant ≡ Ok (view x)
MemoryOutcome view meant (Err status) = ((meant ≡ Err status) × IsEnding status) ⊎ (status ≡ NoMemory)
