-- Public meaning: what a command does.
use Rattle.std.specs.Prelude.{◌≡◌, ℕ, ◌+◌, ◌≤◌, Bool, false, List, [], ◌∷◌, Option, Some, None, Result, Ok, Err}
use Rattle.sd_base.specs.Count.{with_added}
use Rattle.sd_ports.specs.Files.{Files, with_bytes}
use Rattle.sd_command_base.specs.declared.status.Status.{Status}
use Rattle.sd_command_base.specs.declared.status.Status.TheVariants.{Done}
use Rattle.sd_command_base.specs.Spec.{Spec}

-- a file to be made: the number of its word, its name, and all its bytes
pub record Out : Type 0 where
  pub word : ℕ
  pub name : List ℕ
  pub bytes : List ℕ

-- an empty file to be made new, beside the file of a word: the number of that word, and the name
pub record Mark : Type 0 where
  pub word : ℕ
  pub name : List ℕ

-- what is said of the steps of the generator that work takes: nothing, that there are none, or at most so many
pub data StepBound : Type 0 where
  Uncounted : StepBound
  NoSteps : StepBound
  UpTo : ℕ → StepBound

pub record Work : Type 0 where
  -- made before OUT
  pub mark : Option Mark
  pub out : Option Out
  -- what is printed, in pieces of whole lines
  pub pieces : List (List ℕ)
  -- the status at the end
  pub ends : Status
  -- the status is a refusal in the midst of a stream, which stands though OUT fails to close after it
  pub breaks : Bool
  -- the pieces are printed while OUT is written: some may be printed while OUT has a prefix of its bytes
  pub live : Bool
  pub steps : StepBound

-- prints a text and makes no file, without a step of the generator
abbrev pub work_of_text : List ℕ → Work
work_of_text text =
    record { mark = None; out = None; pieces = text ∷ []; ends = Done; breaks = false; live = false; steps = NoSteps }

-- the files once the mark is made, if the model knows them
abbrev pub files_marked : Option Mark → Option Files → Option Files
files_marked None files = files
files_marked (Some mark) files = with_bytes files mark.name []

-- the count of the files that were made, once the mark was
abbrev pub made_marked : Option Mark → ℕ → ℕ
made_marked None made = made
made_marked (Some mark) made = with_added made 1

-- the files once OUT has these of its bytes, if the model knows them
abbrev pub files_with : Option Out → Option Files → Option Files
files_with None files = files
files_with (Some out) files = with_bytes files out.name out.bytes

-- the count of the files that were made, once OUT was
abbrev pub made_with : Option Out → ℕ → ℕ
made_with None made = made
made_with (Some out) made = with_added made 1

-- OUT is opened and closed
abbrev pub out_calls : Option Out → ℕ
out_calls None = 0
out_calls (Some out) = 2

-- the mark is opened and closed
abbrev pub mark_calls : Option Mark → ℕ
mark_calls None = 0
mark_calls (Some mark) = 2

-- how many calls of the depot are made for what is meant
abbrev pub work_calls : Result Work Status → ℕ
work_calls (Ok work) = out_calls work.out + mark_calls work.mark
work_calls (Err status) = 0

abbrev pub all_calls : Spec Work → ℕ
all_calls meant = meant.calls + work_calls meant.result

-- the steps that were counted are within the bound
abbrev pub IsWithinSteps : StepBound → ℕ → ℕ → Type 0
IsWithinSteps Uncounted before now = Unit {0}
IsWithinSteps NoSteps before now = now ≡ before
IsWithinSteps (UpTo most) before now = now ≤ before + most

-- a refusal takes no step of the generator, and work at most its own
abbrev pub TakesSteps : Result Work Status → ℕ → ℕ → Type 0
TakesSteps (Ok work) before now = IsWithinSteps work.steps before now
TakesSteps (Err refusal) before now = now ≡ before
