-- Public meaning: what it says of the files of `apart` that it is done [this project, docs/FORMATS.md, Apart].
use Rattle.std.specs.Prelude.{List, [], ◌∷◌, All}
use Rattle.std.specs.Io.KnownBytes.{Appends}
use Rattle.sd_base.specs.Types.{Bytes, Height, Key, Packets}
use Rattle.sd_ports.specs.Files.{Files}
use Rattle.sd_spec.specs.Plan.{Plan}
use Rattle.sd_spec.specs.Refused.{IsClear}
use Rattle.sd_law_broadcast.specs.Runs.{Run, IsRun, HaveOwnWords, AllAgree}
use Rattle.sd_law_broadcast.specs.Known.{AreOneTree}
use Rattle.sd_command_base.specs.Outside.{IoState}
use Rattle.sd_command_base.specs.Spec.{Readings, contents_of}
use Rattle.sd_run_books.specs.Apart.{apart_text}
use Rattle.sd_law_run.specs.Good.{IsGoodApart}

-- the premises of the laws on several broadcasts, for broadcasts of this master and trees of this height
pub record ArePremisesMet (master : Key) (h : Height) (runs : List Run) : Type 0 where
  pub each : All (IsRun master) runs
  pub words : HaveOwnWords runs
  pub agree : AllAgree runs
  pub tree : AreOneTree h runs

-- the site and the book that the first two files say, and the last two
abbrev pub first_told : {words : List Bytes} {given : Readings} → IsGoodApart words given → Plan
first_told good = record { site = good.fields; commands = good.commands }

abbrev pub second_told : {words : List Bytes} {given : Readings} → IsGoodApart words given → Plan
second_told good = record { site = good.other_fields; commands = good.more_commands }

-- their broadcasts of two clear streams
abbrev pub runs_told : {words : List Bytes} {given : Readings} → IsGoodApart words given → Packets → Packets → List Run
runs_told good clear more =
    record { plan = first_told good; clear = clear } ∷ record { plan = second_told good; clear = more } ∷ []

-- What an `apart` that is done says: its files were two sites and their books. Whatever clear streams the two
-- broadcast, the premises of the laws on several broadcasts are met. Exactly both lines were printed.
pub record IsApart (words : List Bytes) (files : Files) (a b : IoState) : Type 0 where
  pub good : IsGoodApart words (contents_of files)
  pub apart : (clear more : Packets) → IsClear good.fields clear → IsClear good.other_fields more →
      ArePremisesMet good.fields.master good.fields.height (runs_told good clear more)
  pub printed : Appends a.page.printed b.page.printed (apart_text (first_told good) (second_told good))
