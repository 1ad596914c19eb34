-- Public meaning: a file that goes through a stage into OUT, with a mark that is made first.
use Rattle.std.specs.Prelude.{◌≡◌, ◌⊎◌, ℕ, ◌+◌, ◌^◌, ◌<◌, ◌≤◌, List, [], Option, Some, Result, Ok, Err, None}
use Rattle.sd_base.specs.Count.{HasRisen, with_added}
use Rattle.sd_ports.specs.Causes.{one_more}
use Rattle.sd_ports.specs.Files.{OpensFile, IsFresh, IsNotThere, IsThere, with_bytes}
use Rattle.sd_command_base.specs.declared.status.Status.{Status}
use Rattle.sd_command_base.specs.declared.status.Status.TheVariants.{Missing, DepotFault, NoMemory, SiteUsed}
use Rattle.sd_command_base.specs.Outside.{DepotState}
use Rattle.sd_command_base.specs.Spec.{FileArgument}
use Rattle.sd_command_base.specs.Work.{Mark}
use Rattle.sd_command_base.specs.Outcome.{marked_by}
use Rattle.sd_command_base.specs.Reads.{IsAsked, IsStopped}
use Rattle.sd_command_base.specs.Made.{out_file, IsMadeNew}

-- the mark that is the file of this name
abbrev pub mark_at : FileArgument → Mark
mark_at mark = record { word = mark.number; name = mark.text }

-- the depot once the mark is made
abbrev pub with_mark_made : FileArgument → DepotState → DepotState
with_mark_made mark at = marked_by (Some (mark_at mark)) at

-- memory ran out and no device failed, or a device failed
abbrev pub MarkStopCause : DepotState → DepotState → Status → Type 0
MarkStopCause a b status = ((status ≡ NoMemory) × (b.faults ≡ a.faults) × (b.stops ≡ a.stops))
    ⊎ ((status ≡ DepotFault) × HasRisen a.faults b.faults)

-- why the mark or OUT was not made, by at most so many calls, and two more if the mark was
pub data Unmarked (mark out : FileArgument) (calls : ℕ) (a b : DepotState) (status : Status) : Type 0 where
  -- the mark is there
  used : status ≡ SiteUsed → IsThere a.files mark.text → IsAsked calls a b → b.faults ≡ a.faults →
      b.misses ≡ a.misses → Unmarked mark out calls a b status
  -- there is no folder for the mark, in a depot that doesn't tell its files
  no_mark : status ≡ Missing mark.number → a.files ≡ None → IsAsked calls a b → b.faults ≡ a.faults →
      HasRisen a.misses b.misses → Unmarked mark out calls a b status
  -- the outside stopped it before the mark was made
  stopped_first : MarkStopCause a b status → IsAsked calls a b → b.misses ≡ a.misses →
      Unmarked mark out calls a b status
  -- the mark was made, and there is no folder for OUT, in a depot that doesn't tell its files
  no_folder : status ≡ Missing out.number → a.files ≡ None → IsAsked (calls + 2) (with_mark_made mark a) b →
      b.faults ≡ a.faults → HasRisen a.misses b.misses → Unmarked mark out calls a b status
  -- the mark was made, and the outside stopped it
  stopped_then : IsNotThere a.files mark.text → MarkStopCause a b status →
      IsAsked (calls + 2) (with_mark_made mark a) b →
      b.misses ≡ a.misses → Unmarked mark out calls a b status

-- the mark was made, new and empty; or not
abbrev pub MarkOutcome : FileArgument → DepotState → DepotState → Result (Unit {0}) Status → Type 0
MarkOutcome mark a b (Ok done) = IsMadeNew (out_file mark []) a b
MarkOutcome mark a b (Err status) = (out : FileArgument) → Unmarked mark out 2 a b status

-- the mark was made, new and empty, and then OUT: what its port holds, with the count of its faults
pub record IsCreatedMarked (mark : FileArgument) (a b : DepotState) (out : List ℕ) (held : Option (List ℕ))
    (out_faults : ℕ) : Type 0 where
  pub new : IsNotThere a.files mark.text
  pub empty : IsFresh (with_mark_made mark a).files held
  pub out_fresh : out_faults ≡ 0
  pub files : b.files ≡ with_bytes (with_mark_made mark a).files out []
  pub faults : b.faults ≡ a.faults
  pub stops : b.stops ≡ a.stops
  pub misses : b.misses ≡ a.misses
  pub made : b.made ≡ with_added (with_mark_made mark a).made 1
  pub ports : b.opened ≡ one_more a.opened
  pub calls : b.calls ≤ a.calls + 3

-- the file was opened, the mark was made, new and empty, and then OUT: what is left of the one port, and what the other
-- holds, with the counts of their faults
pub record IsOpenedMarked (mark : FileArgument) (a b : DepotState) (from out : List ℕ) (left held : Option (List ℕ))
    (from_faults out_faults : ℕ) : Type 0 where
  pub opens : OpensFile a.files from left
  pub new : IsNotThere a.files mark.text
  pub empty : IsFresh (with_mark_made mark a).files held
  pub from_fresh : from_faults ≡ 0
  pub out_fresh : out_faults ≡ 0
  pub files : b.files ≡ with_bytes (with_mark_made mark a).files out []
  pub faults : b.faults ≡ a.faults
  pub stops : b.stops ≡ a.stops
  pub misses : b.misses ≡ a.misses
  pub made : b.made ≡ with_added (with_mark_made mark a).made 1
  pub within : a.opened < 2 ^ 64
  pub ports : b.opened ≡ one_more (one_more a.opened)
  pub calls : b.calls ≤ a.calls + 4

-- why they were not, and nothing stays open
pub data NotOpenedMarked (from mark out : FileArgument) (a b : DepotState) (status : Status) : Type 0 where
  -- there is no file to be read
  no_input : status ≡ Missing from.number → IsNotThere a.files from.text → IsAsked 1 a b → b.faults ≡ a.faults →
      HasRisen a.misses b.misses → NotOpenedMarked from mark out a b status
  -- the outside stopped it at this file
  stopped_open : IsStopped 1 a b status → NotOpenedMarked from mark out a b status
  -- the file is there, and the mark or OUT was not made
  unmarked : IsThere a.files from.text → Unmarked mark out 4 a b status → NotOpenedMarked from mark out a b status
