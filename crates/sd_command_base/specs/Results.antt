-- Public meaning: what a run answers, and what it leaves after it.
use Rattle.std.specs.Prelude.{◌≡◌, ◌≢◌, ◌⊎◌, ℕ, Result, Ok, Err}
use Rattle.std.specs.Io.KnownBytes.{Appends}
use Rattle.sd_base.specs.Count.{HasRisen}
use Rattle.sd_ports.specs.Bytes.{AppendsPrefix}
use Rattle.sd_command_base.specs.declared.status.Status.{Status}
use Rattle.sd_command_base.specs.declared.status.Status.TheVariants.{Done, Usage, Missing, Revoked, DepotFault}
use Rattle.sd_command_base.specs.declared.status.Status.TheVariants.{PrintFault}
use Rattle.sd_command_base.specs.declared.status.Status.TheVariants.{BadSite, BadBook, BadCard, BadClear, BadStream}
use Rattle.sd_command_base.specs.declared.status.Status.TheVariants.{Limit}
use Rattle.sd_command_base.specs.declared.status.Status.TheVariants.{NoMemory, Unheard, Unclosed, Gaps, NoCat}
use Rattle.sd_command_base.specs.declared.status.Status.TheVariants.{BadWord, Clash, BadOut, OtherBook, SiteUsed}
use Rattle.sd_command_base.specs.declared.status.Status.TheVariants.{SiteUsedUp}
use Rattle.sd_command_base.specs.Texts.{line_of_status}
use Rattle.sd_command_base.specs.Outside.{PageState, IoState}
use Rattle.sd_command_base.specs.Spec.{Spec, Readings}
use Rattle.sd_command_base.specs.Work.{Work}
use Rattle.sd_command_base.specs.Outcome.{Implements}

-- the line of a status is made in memory: it has a number
abbrev pub IsLineInMemory : Status → Type 0
IsLineInMemory Done = ⊥
IsLineInMemory Usage = ⊥
IsLineInMemory (Missing word) = Unit {0}
IsLineInMemory (Revoked leaf period) = Unit {0}
IsLineInMemory DepotFault = ⊥
IsLineInMemory PrintFault = ⊥
IsLineInMemory (BadSite word fault text) = Unit {0}
IsLineInMemory (BadBook word line) = Unit {0}
IsLineInMemory (BadCard word fault) = Unit {0}
IsLineInMemory (BadClear refusal) = Unit {0}
IsLineInMemory (BadStream refusal) = Unit {0}
IsLineInMemory (Limit kind) = Unit {0}
IsLineInMemory NoMemory = ⊥
IsLineInMemory (Unheard leaf period) = Unit {0}
IsLineInMemory (Unclosed number) = Unit {0}
IsLineInMemory (Gaps packets) = Unit {0}
IsLineInMemory NoCat = ⊥
IsLineInMemory (BadWord word) = Unit {0}
IsLineInMemory (Clash clash) = Unit {0}
IsLineInMemory (BadOut word cause) = Unit {0}
IsLineInMemory SiteUsed = ⊥
IsLineInMemory OtherBook = ⊥
IsLineInMemory (SiteUsedUp packet) = Unit {0}

-- the line of a status was printed and is answered, or printing failed at it
abbrev pub PrintsLine : PageState → PageState → Status → Status → Type 0
PrintsLine a b line answer =
    ((answer ≡ line) × Appends a.printed b.printed (line_of_status line) × (b.faults ≡ a.faults))
    ⊎ ((answer ≡ PrintFault) × AppendsPrefix a.printed b.printed (line_of_status line) × HasRisen a.faults b.faults)

-- the line of a status is told: its own, or where memory is out for it the line of that
pub record PrintsStatusLine (a b : PageState) (status answer : Status) : Type 0 where
  pub line : Status
  pub of : (line ≡ status) ⊎ (IsLineInMemory status × (line ≡ NoMemory))
  pub says : PrintsLine a b line answer

-- the status is answered, or printing failed at its line, or memory was out for its line
abbrev pub IsToldAs : Status → Status → Type 0
IsToldAs status answer =
    (answer ≡ status) ⊎ ((answer ≡ PrintFault) ⊎ (IsLineInMemory status × (answer ≡ NoMemory)))

-- the outside with another page
abbrev pub with_page : IoState → PageState → IoState
with_page at page = record { place = at.place; page = page; steps = at.steps }

-- A run that leaves b where a stood answers this: a command that is obeyed came to a status, and its line was told.
pub record RunResult (meant : Readings → Spec Work) (a b : IoState) (answer : Status) : Type 0 where
  -- the status of the command, and the page as the command left it
  pub status : Status
  pub page : PageState
  pub obeyed : Implements meant a (with_page b page) status
  pub told : PrintsStatusLine page b.page status answer

-- what an answer of the outside is caused by, and what stands as before without it
pub record HasAnswerCause (a b : IoState) (answer : Status) : Type 0 where
  pub missing : (word : ℕ) → answer ≡ Missing word → HasRisen a.place.misses b.place.misses
  pub depot : answer ≡ DepotFault → HasRisen a.place.faults b.place.faults
  pub print : answer ≡ PrintFault → HasRisen a.page.faults b.page.faults
  pub print_calm : answer ≢ PrintFault → b.page.faults ≡ a.page.faults
  pub done : answer ≡ Done → b.place.faults ≡ a.place.faults

-- the answer is the one that is meant, or out of memory
abbrev pub IsMeant : Result Work Status → Status → Type 0
IsMeant (Ok work) answer = (answer ≡ work.ends) ⊎ (answer ≡ NoMemory)
IsMeant (Err status) answer = (answer ≡ status) ⊎ (answer ≡ NoMemory)
