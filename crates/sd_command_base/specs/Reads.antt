-- Public meaning: what a step of a command gives that reads files and makes none.
use Rattle.std.specs.Prelude.{◌≡◌, ◌⊎◌, ℕ, ◌+◌, ◌≤◌, List, Option, Result, Ok, Err}
use Rattle.sd_base.specs.Count.{HasRisen}
use Rattle.sd_command_base.specs.declared.status.Status.{Status}
use Rattle.sd_command_base.specs.declared.status.Status.TheVariants.{DepotFault, NoMemory}
use Rattle.sd_command_base.specs.Outside.{DepotState, depot_after_calls}
use Rattle.sd_command_base.specs.Spec.{Spec, Readings, AreReadingsOfFiles, IsReadingOfFile}
use Rattle.sd_command_base.specs.Outcome.{IsRefusal, IsEnding, HasMiss}

-- no file was made, each port that was opened is closed, and at most so many calls were made
pub record IsAsked (most : ℕ) (a b : DepotState) : Type 0 where
  pub files : b.files ≡ a.files
  pub made : b.made ≡ a.made
  pub ports : b.opened ≡ a.opened
  pub calls : b.calls ≤ a.calls + most

-- the step is refused as it is meant
pub record IsRefused {Y : Type 0} (meant : Spec Y) (a b : DepotState) (status : Status) : Type 0 where
  pub value : meant.result ≡ Err status
  pub refusal : IsRefusal status
  pub asked : IsAsked meant.calls a b
  pub calm : b.faults ≡ a.faults
  pub miss : HasMiss status a.misses b.misses

-- memory ran out and no device failed, or a device failed at something else than closing a file that was made
abbrev pub StopCause : DepotState → DepotState → Status → Type 0
StopCause a b status = ((status ≡ NoMemory) × (b.faults ≡ a.faults) × (b.stops ≡ a.stops))
    ⊎ ((status ≡ DepotFault) × HasRisen a.faults b.faults × HasRisen a.stops b.stops)

-- the outside stopped it
pub record IsStopped (calls : ℕ) (a b : DepotState) (status : Status) : Type 0 where
  pub cause : StopCause a b status
  pub asked : IsAsked calls a b
  pub misses : b.misses ≡ a.misses

-- a step gives what is meant, seen so, or its refusal, or was stopped
abbrev pub StepOutcome : {X Y : Type 0} → (X → Y) → Spec Y → DepotState → DepotState → Result X Status → Type 0
StepOutcome view meant a b (Ok x) = (meant.result ≡ Ok (view x)) × (b ≡ depot_after_calls meant.calls a)
StepOutcome view meant a b (Err status) = IsRefused meant a b status ⊎ IsStopped meant.calls a b status

-- a step that reads the file of this name gives what is meant by what the file gave
pub record FileOutcome {X Y : Type 0} (view : X → Y) (meant : Option (List ℕ) →
    Spec Y) (name : List ℕ) (a b : DepotState) (result : Result X Status) : Type 0 where
  pub got : Option (List ℕ)
  pub is_got : IsReadingOfFile a.files name got
  pub gives : StepOutcome view (meant got) a b result

-- a step that reads files gives what is meant by what the files gave
pub record FilesOutcome {X Y : Type 0} (view : X → Y) (meant : Readings →
    Spec Y) (a b : DepotState) (result : Result X Status) : Type 0
  where
    pub given : Readings
    pub is_given : AreReadingsOfFiles a.files given
    pub gives : StepOutcome view (meant given) a b result

-- a step that asks nothing of the outside gives what is meant, or its refusal, or memory was out
abbrev pub JudgedOutcome : {X Y : Type 0} → (X → Y) → Result Y Status → Result X Status → Type 0
JudgedOutcome view meant (Ok x) = meant ≡ Ok (view x)
JudgedOutcome view meant (Err status) = ((meant ≡ Err status) × IsRefusal status × IsEnding status) ⊎
    (status ≡ NoMemory)

-- a step that asks nothing of the outside, nor of memory, gives what is meant, or its refusal
abbrev pub SureOutcome : {X Y : Type 0} → (X → Y) → Result Y Status → Result X Status → Type 0
SureOutcome view meant (Ok x) = meant ≡ Ok (view x)
SureOutcome view meant (Err status) = (meant ≡ Err status) × IsRefusal status × IsEnding status

-- steps of the generator are taken only where no refusal is meant
abbrev pub TakesFor : {Y : Type 0} → Result Y Status → ℕ → ℕ → Type 0
TakesFor (Ok y) before now = Unit {0}
TakesFor (Err status) before now = now ≡ before
