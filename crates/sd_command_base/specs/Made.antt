-- Public meaning: a file that is made whole, and one that must be new.
use Rattle.std.specs.Prelude.{◌≡◌, ℕ, ◌+◌, ◌≤◌, false, List, [], ◌++◌, codes, Option, Some, None, Result, Ok, Err}
use Rattle.sd_ports.specs.Files.{IsNotThere}
use Rattle.sd_ports.specs.declared.file.FileFault.{FileFault}
use Rattle.sd_ports.specs.declared.file.FileFault.TheVariants as file
use Rattle.sd_command_base.specs.declared.status.Status.{Status}
use Rattle.sd_command_base.specs.declared.status.Status.TheVariants.{Done, Missing, DepotFault, NoMemory, BadOut}
use Rattle.sd_command_base.specs.declared.status.Status.TheVariants.{SiteUsed}
use Rattle.sd_command_base.specs.declared.status.OutCause.TheVariants.{There}
use Rattle.sd_command_base.specs.Outside.{DepotState, IoState}
use Rattle.sd_command_base.specs.Spec.{Spec, FileArgument, IsReadingOfFile, value, ◌>>=◌}
use Rattle.sd_command_base.specs.Work.{Out, StepBound, NoSteps, Work}
use Rattle.sd_command_base.specs.Outcome.{IsOutMade, OutcomeWithin}

-- the file that this argument names, with these bytes
abbrev pub out_file : FileArgument → List ℕ → Out
out_file out bytes = record { word = out.number; name = out.text; bytes = bytes }

-- makes a file of these bytes, by so many steps at most
abbrev pub making : StepBound → FileArgument → List ℕ → Work
making steps out bytes = record {
  mark = None;
  out = Some (out_file out bytes);
  pieces = [];
  ends = Done;
  breaks = false;
  live = false;
  steps = steps;
}

-- the answer of making the file that this word names, which is never too big
abbrev pub making_told : ℕ → Result (Unit {0}) FileFault → Result (Unit {0}) Status
making_told word (Ok done) = Ok done
making_told word (Err file.Missing) = Err (Missing word)
making_told word (Err file.TooBig) = Err DepotFault
making_told word (Err file.Failed) = Err DepotFault
making_told word (Err file.NoMemory) = Err NoMemory

-- a file that must be new: its bytes, and what is printed once it is closed, in pieces of whole lines
pub record NewFile : Type 0 where
  pub bytes : List ℕ
  pub pieces : List (List ℕ)

-- makes it under the name that this argument says, and then prints its pieces
abbrev pub new_work : NewFile → FileArgument → Work
new_work made out = record {
  mark = None;
  out = Some (out_file out made.bytes);
  pieces = made.pieces;
  ends = Done;
  breaks = false;
  live = false;
  steps = NoSteps;
}

-- Nothing has the name of OUT, or OUT is refused, by what the file of that name gave. This is learned by making the
-- file: it takes no call of its own if the name is free, and else at most the two of making one.
abbrev pub free : ℕ → Option (List ℕ) → Spec (Unit {0})
free word None = value tt
free word (Some bytes) = record { calls = 2; result = Err (BadOut word There) }

-- the name of the mark of a site: a file that a run of `air` makes before it sends with the site
abbrev pub used_name : List ℕ → List ℕ
used_name name = name ++ codes ".used"

-- Nothing has the name of the mark, or the site is used, by what the file of that name gave. This is learned by making
-- the mark: it takes no call of its own if the name is free, and else at most the two of making one.
abbrev pub unused : Option (List ℕ) → Spec (Unit {0})
unused None = value tt
unused (Some bytes) = record { calls = 2; result = Err SiteUsed }

-- makes a file that must be new, by what has its name
abbrev pub making_new : NewFile → FileArgument → Option (List ℕ) → Spec Work
making_new made out got = free out.number got >>= λ new. value (new_work made out)

-- a file was made with all of its bytes, and nothing had its name before
pub record IsMadeNew (out : Out) (a b : DepotState) : Type 0 where
  pub new : IsNotThere a.files out.name
  pub made : IsOutMade (Some out) a b
  pub faults : b.faults ≡ a.faults
  pub stops : b.stops ≡ a.stops
  pub misses : b.misses ≡ a.misses
  pub ports : b.opened ≡ a.opened
  pub calls : b.calls ≤ a.calls + 2

-- making a file that must be new, and then printing its pieces, does what is meant by what has its name
pub record NewOutcome (made : NewFile) (out : FileArgument) (a b : IoState) (status : Status) : Type 0 where
  -- What has the name: if the model knows the files, it is so. If it doesn't, the answer says it.
  pub got : Option (List ℕ)
  pub is_got : IsReadingOfFile a.place.files out.text got
  pub obeyed : OutcomeWithin (making_new made out got) a b status

-- the file was made, and its pieces are still to be printed; or this is the end, and nothing is printed
abbrev pub NewStep : NewFile → FileArgument → IoState → IoState → Result (Unit {0}) Status → Type 0
NewStep made out a b (Ok done) = IsMadeNew (out_file out made.bytes) a.place b.place
NewStep made out a b (Err status) = NewOutcome made out a b status
