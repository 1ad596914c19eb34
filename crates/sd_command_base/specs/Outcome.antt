-- Public meaning: how a command comes to its status, before the line of the status is told.
use Rattle.std.specs.Prelude.{◌≡◌, ◌≢◌, ℕ, ◌+◌, ◌≤◌, true, List, take, Option, Some, None, Result, Ok, Err}
use Rattle.std.specs.List.{concat}
use Rattle.std.specs.Io.KnownBytes.{Appends}
use Rattle.sd_base.specs.Count.{HasRisen, with_added}
use Rattle.sd_ports.specs.Files.{with_bytes}
use Rattle.sd_ports.specs.Bytes.{IsPrefix, AppendsPrefix}
use Rattle.sd_command_base.specs.declared.status.Status.{Status}
use Rattle.sd_command_base.specs.declared.status.Status.TheVariants.{Done, Usage, Missing, Revoked, DepotFault}
use Rattle.sd_command_base.specs.declared.status.Status.TheVariants.{PrintFault}
use Rattle.sd_command_base.specs.declared.status.Status.TheVariants.{BadSite, BadBook, BadCard, BadClear, BadStream}
use Rattle.sd_command_base.specs.declared.status.Status.TheVariants.{Limit}
use Rattle.sd_command_base.specs.declared.status.Status.TheVariants.{NoMemory, Unheard, Unclosed, Gaps, NoCat}
use Rattle.sd_command_base.specs.declared.status.Status.TheVariants.{BadWord, Clash, BadOut, OtherBook, SiteUsed}
use Rattle.sd_command_base.specs.declared.status.Status.TheVariants.{SiteUsedUp}
use Rattle.sd_command_base.specs.Outside.{DepotState, PageState, IoState}
use Rattle.sd_command_base.specs.Spec.{Spec, Readings, AreReadingsOfFiles}
use Rattle.sd_command_base.specs.Work.{Out, Mark, Work, files_marked, made_marked, files_with, made_with}
use Rattle.sd_command_base.specs.Work.{all_calls, TakesSteps}

-- the status refuses words or files: it isn't that work is done, and it doesn't come of the outside
abbrev pub IsRefusal : Status → Type 0
IsRefusal Done = ⊥
IsRefusal Usage = Unit {0}
IsRefusal (Missing word) = Unit {0}
IsRefusal (Revoked leaf period) = ⊥
IsRefusal DepotFault = ⊥
IsRefusal PrintFault = ⊥
IsRefusal (BadSite word fault text) = Unit {0}
IsRefusal (BadBook word line) = Unit {0}
IsRefusal (BadCard word fault) = Unit {0}
IsRefusal (BadClear refusal) = Unit {0}
IsRefusal (BadStream refusal) = Unit {0}
IsRefusal (Limit kind) = Unit {0}
IsRefusal NoMemory = ⊥
IsRefusal (Unheard leaf period) = ⊥
IsRefusal (Unclosed number) = ⊥
IsRefusal (Gaps packets) = ⊥
IsRefusal NoCat = ⊥
IsRefusal (BadWord word) = Unit {0}
IsRefusal (Clash clash) = Unit {0}
IsRefusal (BadOut word cause) = Unit {0}
IsRefusal SiteUsed = Unit {0}
IsRefusal OtherBook = Unit {0}
IsRefusal (SiteUsedUp packet) = ⊥

-- the status may stand at the end of work
abbrev pub IsEnding : Status → Type 0
IsEnding Done = Unit {0}
IsEnding Usage = ⊥
IsEnding (Missing word) = ⊥
IsEnding (Revoked leaf period) = Unit {0}
IsEnding DepotFault = ⊥
IsEnding PrintFault = ⊥
IsEnding (BadSite word fault text) = Unit {0}
IsEnding (BadBook word line) = Unit {0}
IsEnding (BadCard word fault) = Unit {0}
IsEnding (BadClear refusal) = Unit {0}
IsEnding (BadStream refusal) = Unit {0}
IsEnding (Limit kind) = Unit {0}
IsEnding NoMemory = ⊥
IsEnding (Unheard leaf period) = Unit {0}
IsEnding (Unclosed number) = Unit {0}
IsEnding (Gaps packets) = Unit {0}
IsEnding NoCat = Unit {0}
IsEnding (BadWord word) = Unit {0}
IsEnding (Clash clash) = Unit {0}
IsEnding (BadOut word cause) = Unit {0}
IsEnding SiteUsed = Unit {0}
IsEnding OtherBook = Unit {0}
IsEnding (SiteUsedUp packet) = Unit {0}

-- no I/O error occurred
pub record IsFaultless (a b : IoState) : Type 0 where
  pub depot : b.place.faults ≡ a.place.faults
  pub print : b.page.faults ≡ a.page.faults

-- the depot's misses rose at Missing, and only there
pub record HasMiss (status : Status) (before now : ℕ) : Type 0 where
  pub missing : (word : ℕ) → status ≡ Missing word → HasRisen before now
  pub there : ((word : ℕ) → status ≢ Missing word) → now ≡ before

-- no file was made
pub record IsNoOutMade (a b : DepotState) : Type 0 where
  pub files : b.files ≡ a.files
  pub made : b.made ≡ a.made

-- the depot once the mark is made, where there is one: an empty file, and the other files stay
abbrev pub marked_by : Option Mark → DepotState → DepotState
marked_by mark at = record {
  files = files_marked mark at.files;
  faults = at.faults;
  stops = at.stops;
  misses = at.misses;
  made = made_marked mark at.made;
  opened = at.opened;
  calls = at.calls;
}

-- OUT was made with all of its bytes, where there is one, and the other files stay
pub record IsOutMade (out : Option Out) (a b : DepotState) : Type 0 where
  pub files : b.files ≡ files_with out a.files
  pub made : b.made ≡ made_with out a.made

-- OUT was made with a prefix of its bytes, and the other files stay
pub record IsOutMadeShort (out : Out) (a b : DepotState) : Type 0 where
  pub prefix : List ℕ
  pub short : IsPrefix prefix out.bytes
  pub files : b.files ≡ with_bytes a.files out.name prefix
  pub made : b.made ≡ with_added a.made 1

-- all that the work prints was printed
abbrev pub PrintsAll : Work → PageState → PageState → Type 0
PrintsAll work a b = Appends a.printed b.printed (concat work.pieces)

-- some first pieces of it were printed
abbrev pub PrintsSome : Work → PageState → PageState → Type 0
PrintsSome work a b = (count : ℕ) × Appends a.printed b.printed (concat (take count work.pieces))

-- a prefix of it was printed
abbrev pub PrintsPrefix : Work → PageState → PageState → Type 0
PrintsPrefix work a b = AppendsPrefix a.printed b.printed (concat work.pieces)

-- How far work came: nothing was done; or the mark was made, where there is one, and then: nothing more was done; or
-- OUT
-- has a prefix of its bytes and nothing was printed, or of live work some first pieces; or OUT is whole, where there is
-- one, and some first pieces were printed.
pub data Progress (meant : Result Work Status) (a b : IoState) : Type 0 where
  untouched : IsNoOutMade a.place b.place → b.page.printed ≡ a.page.printed → Progress meant a b
  marking : (work : Work) → meant ≡ Ok work → IsNoOutMade (marked_by work.mark a.place) b.place →
      b.page.printed ≡ a.page.printed → Progress meant a b
  writing : (work : Work) → meant ≡ Ok work → (out : Out) → work.out ≡ Some out →
      IsOutMadeShort out (marked_by work.mark a.place) b.place → b.page.printed ≡ a.page.printed → Progress meant a b
  telling : (work : Work) → meant ≡ Ok work → work.live ≡ true → (out : Out) → work.out ≡ Some out →
      IsOutMadeShort out (marked_by work.mark a.place) b.place → PrintsSome work a.page b.page → Progress meant a b
  printing : (work : Work) → meant ≡ Ok work → IsOutMade work.out (marked_by work.mark a.place) b.place →
      PrintsSome work a.page b.page → Progress meant a b

-- if the work is a stream that is refused, the device failed before that was known: not only at closing OUT
abbrev pub StopsFirst : Result Work Status → DepotState → DepotState → Type 0
StopsFirst (Ok work) a b = work.breaks ≡ true → HasRisen a.stops b.stops
StopsFirst (Err refusal) a b = Unit {0}

pub data Outcome (meant : Result Work Status) (a b : IoState) (status : Status) : Type 0 where
  -- the words or the files are refused, and nothing was made or printed
  refused : meant ≡ Err status → IsRefusal status → IsNoOutMade a.place b.place → b.page.printed ≡ a.page.printed →
      IsFaultless a b → HasMiss status a.place.misses b.place.misses → Outcome meant a b status
  -- the work came to its end: the mark is made, OUT is whole, and all is printed
  ended : (work : Work) → meant ≡ Ok work → status ≡ work.ends → IsEnding status →
      IsOutMade work.out (marked_by work.mark a.place) b.place → PrintsAll work a.page b.page → IsFaultless a b →
      b.place.misses ≡ a.place.misses →
      Outcome meant a b status
  -- a refusal in the midst of a stream stands, though OUT failed to close after it; all is printed
  unclosed : (work : Work) → meant ≡ Ok work → status ≡ work.ends → IsEnding status → IsRefusal status →
      work.breaks ≡ true → (out : Out) → work.out ≡ Some out →
      IsOutMadeShort out (marked_by work.mark a.place) b.place →
      PrintsAll work a.page b.page →
      HasRisen a.place.faults b.place.faults → b.place.stops ≡ a.place.stops → b.page.faults ≡ a.page.faults →
      b.place.misses ≡ a.place.misses → Outcome meant a b status
  -- out of memory, which stands though OUT failed to close after it
  exhausted : status ≡ NoMemory → Progress meant a b → b.place.stops ≡ a.place.stops →
      b.page.faults ≡ a.page.faults → b.place.misses ≡ a.place.misses → Outcome meant a b status
  -- the device failed at a file: not at closing OUT alone, if the stream is refused
  failed : status ≡ DepotFault → Progress meant a b → HasRisen a.place.faults b.place.faults →
      StopsFirst meant a.place b.place → b.page.faults ≡ a.page.faults → b.place.misses ≡ a.place.misses →
      Outcome meant a b status
  -- there is no folder for the mark, in a depot that doesn't tell its files: nothing is made
  unmarked : (work : Work) → meant ≡ Ok work → (mark : Mark) → work.mark ≡ Some mark → status ≡ Missing mark.word →
      a.place.files ≡ None → IsNoOutMade a.place b.place → b.page.printed ≡ a.page.printed → IsFaultless a b →
      HasRisen a.place.misses b.place.misses → Outcome meant a b status
  -- there is no folder for OUT, in a depot that doesn't tell its files: the mark alone is made
  nowhere : (work : Work) → meant ≡ Ok work → (out : Out) → work.out ≡ Some out → status ≡ Missing out.word →
      a.place.files ≡ None → IsNoOutMade (marked_by work.mark a.place) b.place → b.page.printed ≡ a.page.printed →
      IsFaultless a b → HasRisen a.place.misses b.place.misses → Outcome meant a b status
  -- printing failed at the text of the work
  cut_off : (work : Work) → meant ≡ Ok work → status ≡ PrintFault →
      IsOutMade work.out (marked_by work.mark a.place) b.place → PrintsPrefix work a.page b.page →
      HasRisen a.page.faults b.page.faults → b.place.faults ≡ a.place.faults → b.place.misses ≡ a.place.misses →
      Outcome meant a b status
  -- printing failed at the text of live work, while OUT was written or after it failed to close
  cut_short : (work : Work) → meant ≡ Ok work → work.live ≡ true → status ≡ PrintFault → (out : Out) →
      work.out ≡ Some out → IsOutMadeShort out (marked_by work.mark a.place) b.place → PrintsPrefix work a.page b.page →
      HasRisen a.page.faults b.page.faults → b.place.misses ≡ a.place.misses → Outcome meant a b status

-- what a command left after it, before the line of its status is told
pub record OutcomeWithin (meant : Spec Work) (a b : IoState) (status : Status) : Type 0 where
  pub comes : Outcome meant.result a b status
  -- each port that was opened is closed
  pub ports : b.place.opened ≡ a.place.opened
  -- no more calls were made than what is meant takes
  pub calls : b.place.calls ≤ a.place.calls + all_calls meant
  pub steps : TakesSteps meant.result a.steps b.steps

-- a command did what is meant by what the files gave
pub record Implements (meant : Readings → Spec Work) (a b : IoState) (status : Status) : Type 0 where
  -- what the files of the arguments gave: files that the model knows give their bytes
  pub given : Readings
  pub is_given : AreReadingsOfFiles a.place.files given
  pub obeyed : OutcomeWithin (meant given) a b status

-- the status of a command's result
abbrev pub status_of : Result (Unit {0}) Status → Status
status_of (Ok done) = Done
status_of (Err status) = status
