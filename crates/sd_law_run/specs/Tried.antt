-- Public meaning: arguments and files that mean a trial, and what a trial leaves.
use Rattle.std.specs.Prelude.{◌≡◌, List, Some, None, Ok, ◌≤◌, ◌^◌, length}
use Rattle.std.specs.FinMap.{get}
use Rattle.std.specs.Io.KnownBytes.{Appends}
use Rattle.sd_base.specs.Types.{Bytes}
use Rattle.sd_ports.specs.Files.{Files}
use Rattle.sd_engine.specs.Taken.{Whole, packets_taken, end_of}
use Rattle.sd_site_cards.specs.SiteFields.{SiteFields}
use Rattle.sd_book.specs.declared.command.Command.{Command}
use Rattle.sd_spec.specs.Plan.{Plan, IsPlan}
use Rattle.sd_spec.specs.Refused.{whole_refusal}
use Rattle.sd_law_broadcast.specs.Synced.{AreBytes}
use Rattle.sd_command_base.specs.Spec.{FileArgument, Readings, contents_of}
use Rattle.sd_command_base.specs.Outside.{IoState}
use Rattle.sd_command_line.specs.Words.{TrialOf, order_of}
use Rattle.sd_run_broadcasts.specs.Trial.{trial_clear_bytes}
use Rattle.sd_run_broadcasts.specs.Trial.{most_trial_height}
use Rattle.sd_run_broadcasts.specs.Trial.{trial_plan_meaning}
use Rattle.sd_law_field.specs.Trials.{opened_lines}
use Rattle.sd_law_run.specs.Good.{IsGoodSite, IsGoodBook}

-- the arguments are `trial SITE BOOK CLEAR`, and the files are there: a site whose tree is low enough, a book of its
-- tree, and a stream within the limit of which no packet is refused
pub record IsGoodTrial (words : List Bytes) (given : Readings) : Type 0 where
  pub site : FileArgument
  pub book : FileArgument
  pub clear : FileArgument
  pub order : order_of words ≡ Ok (TrialOf site book clear)
  pub fields : SiteFields
  pub good_site : IsGoodSite (given site) fields
  pub low : fields.height ≤ most_trial_height
  pub commands : List Command
  pub good_book : IsGoodBook (given book) fields.height commands
  pub bytes : Bytes
  pub there : given clear ≡ Some bytes
  pub short : length bytes ≤ trial_clear_bytes
  pub are_bytes : AreBytes bytes
  pub whole : end_of bytes ≡ Whole
  pub is_clear : whole_refusal fields (packets_taken bytes) ≡ None

-- the plan that they say
abbrev pub plan_tried : {words : List Bytes} {given : Readings} → IsGoodTrial words given → Plan
plan_tried good = record { site = good.fields; commands = good.commands }

-- What a trial that is done leaves: its files were good, and exactly their lines were printed.
pub record IsTried (site book clear : FileArgument) (files : Files) (a b : IoState) : Type 0 where
  -- the site and the book that their files say, within their limits
  pub plan : Plan
  pub said : (trial_plan_meaning site book (contents_of files)).result ≡ Ok plan
  pub is_plan : IsPlan plan
  pub low : plan.site.height ≤ most_trial_height
  -- the clear stream, which is not refused
  pub bytes : Bytes
  pub there : get files clear.text ≡ Some bytes
  pub short : length bytes ≤ trial_clear_bytes
  pub whole : end_of bytes ≡ Whole
  pub is_clear : whole_refusal plan.site (packets_taken bytes) ≡ None
  -- what each receiver writes of the broadcast
  pub printed : AreBytes bytes →
      Appends a.page.printed b.page.printed (opened_lines plan (packets_taken bytes) (2 ^ plan.site.height))
