-- Public meaning: what a run leaves in the files, whatever it answers [this project, docs/FORMATS.md, What OUT holds].
use Rattle.std.specs.Prelude.{◌≡◌, [], Option, Some, None, Result, Ok}
use Rattle.std.specs.FinMap.{get, insert}
use Rattle.sd_base.specs.Types.{Bytes}
use Rattle.sd_base.specs.Count.{with_added}
use Rattle.sd_ports.specs.Files.{Files}
use Rattle.sd_ports.specs.Bytes.{IsPrefix}
use Rattle.sd_command_base.specs.declared.status.Status.{Status}
use Rattle.sd_command_base.specs.Outside.{DepotState}
use Rattle.sd_command_base.specs.Work.{Mark, Out, Work, made_marked}

-- all files are as they were, and none was made
pub record IsAsBefore (files : Files) (a b : DepotState) : Type 0 where
  pub left : b.files ≡ Some files
  pub made : b.made ≡ a.made

-- the files once the mark is made, if there is one: an empty file
abbrev pub with_mark_file : Option Mark → Files → Files
with_mark_file None files = files
with_mark_file (Some mark) files = insert files mark.name []

-- the mark of the work was made, new and empty, and all other files are as they were
pub record HasMark (files : Files) (meant : Result Work Status) (a b : DepotState) : Type 0 where
  pub work : Work
  pub is_meant : meant ≡ Ok work
  pub mark : Mark
  pub marks : work.mark ≡ Some mark
  pub new : get files mark.name ≡ None
  pub left : b.files ≡ Some (insert files mark.name [])
  pub made : b.made ≡ with_added a.made 1

-- OUT of the work was made, with a prefix of its due contents, after the mark of the work, if it has one, was made new
-- and empty; and all other files are as they were
pub record HasOut (files : Files) (meant : Result Work Status) (a b : DepotState) : Type 0 where
  pub work : Work
  pub is_meant : meant ≡ Ok work
  pub out : Out
  pub makes : work.out ≡ Some out
  pub prefix : Bytes
  pub is_prefix : IsPrefix prefix out.bytes
  pub new : (mark : Mark) → work.mark ≡ Some mark → get files mark.name ≡ None
  pub left : b.files ≡ Some (insert (with_mark_file work.mark files) out.name prefix)
  pub made : b.made ≡ with_added (made_marked work.mark a.made) 1
