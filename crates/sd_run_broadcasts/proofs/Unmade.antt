-- Out of memory, OUT isn't made: all memory is taken before it is.
use Rattle.std.proofs.Common.{◌≡◌, ◌≢◌, ℕ, List, Option, Result, Ok, Err, refl, sym, ap, ◌∙◌, inl}
use Rattle.std.proofs.Common.{inr}
use Rattle.std.specs.Prelude.{◌⊎◌}
use Rattle.sd_engine.specs.declared.driver.DriveFault.{DriveFault}
use Rattle.sd_engine.specs.declared.driver.DriveFault.TheVariants as drive
use Rattle.sd_message.specs.declared.stream_fault.StreamFault.{StreamFault}
use Rattle.sd_command_base.specs.declared.status.Status.{Status}
use Rattle.sd_command_base.specs.declared.status.Status.TheVariants.{NoMemory, BadClear, BadStream, DepotFault}
use Rattle.sd_command_base.specs.Outcome.{status_of}
use Rattle.sd_command_base.specs.Spec.{Spec, FileArgument}
use Rattle.sd_command_base.specs.Outside.{DepotState}
use Rattle.sd_command_base.specs.Reads.{FileOutcome, StepOutcome}
use Rattle.sd_command_base.specs.Turned.{NotOpened, no_input, no_folder, stopped_first, stopped_then, unclosed_status}
use Rattle.sd_command_base.specs.Turned.{unclosed_by}
use Rattle.sd_run_broadcasts.specs.Receive.{stopped_status}

-- a drive is never stopped for memory
pub never_memory : (why : DriveFault StreamFault) → stopped_status why ≢ NoMemory
never_memory (drive.Broken found) e = cc
never_memory drive.TooLong e = cc
never_memory drive.ReadFault e = cc
never_memory drive.WriteFault e = cc
never_memory (drive.Refused fault) e = cc

-- OUT isn't made if the files aren't opened
pub not_opened : (from out : FileArgument) (a b : DepotState) (status : Status) → NotOpened from out a b status →
    b.made ≡ a.made
not_opened from out a b status (no_input is there asked calm miss) = asked.made
not_opened from out a b status (no_folder is told asked calm miss) = asked.made
not_opened from out a b status (stopped_first stopped) = stopped.asked.made
not_opened from out a b status (stopped_then there stopped) = stopped.asked.made

-- a file that fails to close doesn't take memory
unclosed_memory : (status : Status) → unclosed_status status ≡ NoMemory → status ≡ NoMemory
unclosed_memory (BadClear refusal) e = e
unclosed_memory (BadStream refusal) e = e
unclosed_memory NoMemory e = refl
unclosed_memory _ e = absurd cc

-- nor one that is closed
pub closed_memory : (ended result : Result (Unit {0}) Status) → (result ≡ ended) ⊎ (result ≡ unclosed_by ended) →
    status_of result ≡ NoMemory → status_of ended ≡ NoMemory
closed_memory ended result (inl is) e = ap status_of (sym is) ∙ e
closed_memory (Ok done) result (inr is) e = absurd (let same : DepotFault ≡ NoMemory = ap status_of (sym is) ∙ e in cc)
closed_memory (Err status) result (inr is) e = unclosed_memory status (ap status_of (sym is) ∙ e)

-- a step that looks at a file makes none
looked : {X Y : Type 0} (view : X → Y) (meant : Spec Y) (a b : DepotState) (result : Result X Status) →
    StepOutcome view meant a b result → b.made ≡ a.made
looked view meant a b (Ok x) (is, called) = ap (λ (p : DepotState). p.made) called
looked view meant a b (Err status) (inl refused) = refused.asked.made
looked view meant a b (Err status) (inr stopped) = stopped.asked.made

pub looked_made : {X Y : Type 0} (view : X → Y) (meant : Option (List ℕ) → Spec Y) (name : List ℕ) (a b : DepotState)
    (result : Result X Status) → FileOutcome view meant name a b result → b.made ≡ a.made
looked_made view meant name a b result looks = looked view (meant looks.got) a b result looks.gives
