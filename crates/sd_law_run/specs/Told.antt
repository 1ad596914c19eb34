-- Public meaning: what `status` prints of a site, its book and a leaf, and `show` of the leaf's card [this project,
-- docs/FORMATS.md, Status and Card].
use Rattle.std.specs.Prelude.{◌≡◌, ℕ, ◌-◌, ◌<◌, ◌^◌, ◌≤◌, ◌⊎◌, not, List, ◌++◌, flat_map, Contains, Ok}
use Rattle.std.specs.List.Sorted.{IsStrictlyIncreasing}
use Rattle.std.specs.Io.KnownBytes.{Appends}
use Rattle.sd_base.specs.Types.{Bytes, FileName, LeafNumber, PeriodNumber}
use Rattle.sd_book.specs.declared.command.Command.{Command}
use Rattle.sd_site_cards.specs.Files.{check_in}
use Rattle.sd_site_cards.specs.SiteFields.{SiteFields}
use Rattle.sd_spec.specs.Plan.{Plan}
use Rattle.sd_law_losses.specs.Confirmed.{is_revoked_in}
use Rattle.sd_command_base.specs.declared.status.Status.{Status}
use Rattle.sd_command_base.specs.declared.status.Status.TheVariants.{Done}
use Rattle.sd_command_base.specs.Outside.{IoState}
use Rattle.sd_command_base.specs.Shown.{NumberArgument}
use Rattle.sd_command_base.specs.Spec.{FileArgument, Readings}
use Rattle.sd_command_line.specs.Words.{StatusOf, order_of}
use Rattle.sd_run_books.specs.Fingerprint.{fingerprint_of}
use Rattle.sd_run_books.specs.Show.{shown_line}
use Rattle.sd_run_books.specs.Status.{entitled_line, fingerprint_line}
use Rattle.sd_law_run.specs.Good.{IsGoodBook, IsGoodSite}
use Rattle.sd_law_run.specs.Headline.{card_file_for, file_in}

-- the arguments are `status SITE BOOK LEAF`, the two files are good, and the site's tree has the leaf
pub record IsGoodStatus (words : List Bytes) (given : Readings) : Type 0 where
  pub site : FileArgument
  pub book : FileArgument
  pub leaf : NumberArgument
  pub order : order_of words ≡ Ok (StatusOf site book leaf)
  pub fields : SiteFields
  pub good_site : IsGoodSite (given site) fields
  pub of_tree : leaf.value < 2 ^ fields.height
  pub commands : List Command
  pub good_book : IsGoodBook (given book) fields.height commands

-- the plan that they say
abbrev pub plan_asked : {words : List Bytes} {given : Readings} → IsGoodStatus words given → Plan
plan_asked good = record { site = good.fields; commands = good.commands }

-- These periods ascend from the plan's first one on. In each later one of them leaf u is revoked or entitled as it is
-- not in the period before. Between two of them, and after the last, nothing changes.
pub record AreChanges (plan : Plan) (u : LeafNumber) (periods : List PeriodNumber) : Type 0 where
  pub ascending : IsStrictlyIncreasing periods
  pub first : Contains periods plan.site.first_period
  pub changed : (q : PeriodNumber) → Contains periods q → (q ≡ plan.site.first_period)
      ⊎ ((plan.site.first_period < q) × (is_revoked_in plan u (q - 1) ≡ not (is_revoked_in plan u q)))
  pub between : (p q : PeriodNumber) → plan.site.first_period ≤ p → p ≤ q →
      ((r : PeriodNumber) → p < r → r ≤ q → ¬ Contains periods r) → is_revoked_in plan u q ≡ is_revoked_in plan u p

-- The result of `status SITE BOOK LEAF`, if SITE and BOOK say this plan and LEAF is u.
pub record StatusResult (plan : Plan) (u : LeafNumber) (a b : IoState) (answer : Status) : Type 0 where
  pub done : answer ≡ Done
  pub periods : List PeriodNumber
  pub changes : AreChanges plan u periods
  -- the line of the fingerprint of the site's master is printed, and of each of these periods the line that says
  -- whether the leaf is entitled in it: it is, unless it is revoked
  pub told : Appends a.page.printed b.page.printed
      (fingerprint_line plan.site.master ++ flat_map (λ q. entitled_line u (not (is_revoked_in plan u q)) q) periods)
  -- all files are as they were
  pub others : (name : FileName) → file_in b name ≡ file_in a name

-- The result of `show CARD`, if CARD is the card of leaf u of a site.
pub record ShowResult (site : SiteFields) (u : LeafNumber) (a b : IoState) (answer : Status) : Type 0 where
  pub done : answer ≡ Done
  -- the card's line is printed: it has the fingerprint of the site's master, as the first line of `status` has it
  pub told : Appends a.page.printed b.page.printed
      (shown_line site.height u site.ca (check_in (card_file_for site u)) (fingerprint_of site.master))
  pub others : (name : FileName) → file_in b name ≡ file_in a name
