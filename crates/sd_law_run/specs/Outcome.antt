-- Public meaning: what a caller may rely on after every run, whatever its arguments.
use Rattle.std.specs.Prelude.{◌≡◌, ◌≢◌, List, [], ◌∷◌, Option, Some, None, IsSome, Result, Ok}
use Rattle.sd_base.specs.Count.{with_added}
use Rattle.sd_base.specs.Types.{Bytes, FileName}
use Rattle.sd_command_line.specs.declared.command.Command.{Command}
use Rattle.sd_command_line.specs.declared.command.Command.TheVariants.{Air}
use Rattle.sd_command_line.specs.Commands.{command_named, operands_of}
use Rattle.sd_command_line.specs.Words.{out_text}
use Rattle.sd_command_base.specs.declared.status.Status.{Status}
use Rattle.sd_command_base.specs.declared.status.Status.TheVariants.{Done, Missing}
use Rattle.sd_command_base.specs.Made.{used_name}
use Rattle.sd_command_base.specs.Outside.{DepotState, IoState}
use Rattle.sd_command_base.specs.Work.{Work}
use Rattle.sd_command_base.specs.Outcome.{IsOutMade, IsFaultless, PrintsAll, marked_by}
use Rattle.sd_law_run.specs.Headline.{file_in}

-- the word at the place of OUT in the row of a command
abbrev pub out_in_row : Option Command → List Bytes → Option Bytes
out_in_row None texts = None
out_in_row (Some command) texts = out_text (operands_of command) texts

-- the name of OUT, if the command makes a file [this project, docs/FORMATS.md, Commands]
abbrev pub out_name : List Bytes → Option FileName
out_name [] = None
out_name (name ∷ texts) = out_in_row (command_named name) texts

-- the name of the mark of SITE, which is the first of these four arguments
abbrev pub mark_of_site : List Bytes → Option FileName
mark_of_site (site ∷ book ∷ clear ∷ out ∷ []) = Some (used_name site)
mark_of_site texts = None

-- the mark in the row of a command: only `air` makes one
abbrev pub mark_in_row : Option Command → List Bytes → Option FileName
mark_in_row None texts = None
mark_in_row (Some Air) texts = mark_of_site texts
mark_in_row (Some command) texts = None

-- the name of the mark of its site, which `air` makes before OUT [this project, docs/FORMATS.md, On air]
abbrev pub used_by : List Bytes → Option FileName
used_by [] = None
used_by (name ∷ texts) = mark_in_row (command_named name) texts

-- How many files a run made: none; OUT, if the command makes it and no mark; or of `air` the mark alone, and no other
-- file changed; or of `air` the mark and OUT.
pub data FilesMade (words : List Bytes) (a b : IoState) : Type 0 where
  made_none : b.place.made ≡ a.place.made → FilesMade words a b
  made_out : b.place.made ≡ with_added a.place.made 1 → IsSome (out_name words) → used_by words ≡ None →
      FilesMade words a b
  made_mark : b.place.made ≡ with_added a.place.made 1 → IsSome (used_by words) →
      ((name : FileName) → used_by words ≢ Some name → file_in b name ≡ file_in a name) → FilesMade words a b
  made_both : b.place.made ≡ with_added a.place.made 2 → IsSome (used_by words) → FilesMade words a b

-- `air` made the mark of its site and nothing else: there is no folder for OUT, the fourth argument, in a file system
-- whose contents the model doesn't know
pub record IsMarkedAlone (words : List Bytes) (a b : DepotState) (answer : Status) : Type 0 where
  pub airs : IsSome (used_by words)
  pub unknown : a.files ≡ None
  pub missing : answer ≡ Missing 4
  pub files : b.files ≡ a.files
  pub made : b.made ≡ with_added a.made 1

-- the work that is meant was done: its mark is made, OUT is whole, all is printed, and no I/O error occurred
pub record IsDone (meant : Result Work Status) (a b : IoState) : Type 0 where
  pub work : Work
  pub is_meant : meant ≡ Ok work
  pub ends : work.ends ≡ Done
  pub made : IsOutMade work.out (marked_by work.mark a.place) b.place
  pub printed : PrintsAll work a.page b.page
  pub calm : IsFaultless a b
