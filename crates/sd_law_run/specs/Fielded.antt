-- Public meaning: arguments and files that mean a field, and what it says of them that `field` is done.
use Rattle.std.specs.Prelude.{◌≡◌, List, Some, None, Ok, ◌≤◌, ◌^◌, length}
use Rattle.std.specs.Io.KnownBytes.{Appends}
use Rattle.sd_base.specs.Types.{Bytes}
use Rattle.sd_engine.specs.Stream.{packets_of, break_of}
use Rattle.sd_ports.specs.Files.{Files}
use Rattle.sd_site_cards.specs.SiteFields.{SiteFields}
use Rattle.sd_spec.specs.Refused.{IsClear}
use Rattle.sd_law_broadcast.specs.Synced.{AreBytes}
use Rattle.sd_spec.specs.declared.event.Event.{Event}
use Rattle.sd_field.specs.Script.{script_of}
use Rattle.sd_command_base.specs.Outside.{IoState}
use Rattle.sd_command_base.specs.Spec.{FileArgument, Readings, contents_of}
use Rattle.sd_law_field.specs.Fielded.{confirmed_lines, sent_for}
use Rattle.sd_command_line.specs.Words.{FieldOf, order_of}
use Rattle.sd_law_run.specs.Good.{IsGoodSite}

-- The arguments are `field SITE CLEAR SCRIPT`, and the files are there: a site whose tree is at most 6 high, at most
-- 16,384 packets and nothing else, and a script for the tree. No packet that the script sends is refused [this project,
-- docs/FORMATS.md, Field].
pub record IsGoodFieldRun (words : List Bytes) (given : Readings) : Type 0 where
  pub site : FileArgument
  pub clear : FileArgument
  pub script : FileArgument
  pub order : order_of words ≡ Ok (FieldOf site clear script)
  pub fields : SiteFields
  pub good_site : IsGoodSite (given site) fields
  pub low : fields.height ≤ 6
  pub bytes : Bytes
  pub there : given clear ≡ Some bytes
  pub short : length bytes ≤ 3080192
  pub unbroken : break_of bytes ≡ None
  pub text : Bytes
  pub script_there : given script ≡ Some text
  pub script_short : length text ≤ 33554432
  pub events : List Event
  pub says : script_of fields.height text ≡ Ok events
  pub is_clear : IsClear fields (sent_for (packets_of bytes) events)

-- What a `field` that is done says: its files were good. If each number of the clear stream is a byte's, exactly the
-- lines of what is confirmed to each receiver were printed.
pub record IsFielded (words : List Bytes) (files : Files) (a b : IoState) : Type 0 where
  pub good : IsGoodFieldRun words (contents_of files)
  pub printed : AreBytes good.bytes → Appends a.page.printed b.page.printed
      (confirmed_lines good.fields (packets_of good.bytes) good.events (2 ^ good.fields.height))
