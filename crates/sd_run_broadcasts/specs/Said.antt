-- Public meaning: what `head` and `air` say on the standard error while they run [this project, docs/FORMATS.md,
-- Broadcast
-- and On air].
use Rattle.std.specs.Prelude.{◌≡◌, ℕ, ◌==◌, nat_lt, not, Bool, List, [], ◌++◌, codes, length}
use Rattle.std.specs.Prelude.{if◌then◌else◌, Option, Some, None, Result, Ok, Err}
use Rattle.std.specs.Fmt.{decimal}
use Rattle.std.specs.Io.KnownBytes.{Appends}
use Rattle.sd_base.specs.Types.{Packets}
use Rattle.sd_ports.specs.Files.{Files}
use Rattle.sd_ports.specs.Bytes.{IsPrefix}
use Rattle.sd_site_cards.specs.SiteFields.{SiteFields}
use Rattle.sd_site_cards.specs.Text.{site_of}
use Rattle.sd_site_cards.specs.declared.site_fault.SiteFault.{SiteFault}
use Rattle.sd_spec.specs.Plan.{Plan}
use Rattle.sd_command_base.specs.declared.status.Status.{Status}
use Rattle.sd_command_base.specs.BadLines.{line_numbered}
use Rattle.sd_command_base.specs.Escaped.{escaped}
use Rattle.sd_command_base.specs.Spec.{FileArgument, Readings, AreReadingsOfFiles, IsReadingOfFile}
use Rattle.sd_run_broadcasts.specs.Air.{air_line, air_plan_meaning}
use Rattle.sd_run_broadcasts.specs.OnAir.{report_after}

-- a line about the site of this name
abbrev pub warned : List ℕ → List ℕ → List ℕ
warned name text = codes "sdca: warning: SITE " ++ (escaped name ++ text)

abbrev pub no_first_word : List ℕ
no_first_word = codes ": it has no line first-word; sent twice, it repeats its control words; make sites by next\n"

abbrev pub old_messages : ℕ → List ℕ
old_messages version = codes ": its messages are of version " ++ (decimal version
    ++ codes "; a box that stays on loses the next broadcast; take messages 3\n")

-- the warning of a site of this name that has a line `first-word`, or hasn't, and messages of this version
unfoldable pub warning_by : List ℕ → Bool → ℕ → List ℕ
warning_by name has_word version =
    if not has_word then warned name no_first_word
    else if nat_lt version 3 then warned name (old_messages version)
    else []

-- `first-word` is line 10 of a site; no line of a site is empty
unfoldable pub has_first_word : List ℕ → Bool
has_first_word bytes = not (length (line_numbered 10 bytes) == 0)

-- what `head` warns of in a site of this name and these bytes: one line, or none; nothing if they are no site
abbrev pub warning_for : List ℕ → List ℕ → Result SiteFields SiteFault → List ℕ
warning_for name bytes (Ok site) = warning_by name (has_first_word bytes) site.messages
warning_for name bytes (Err fault) = []

abbrev pub warning_of : List ℕ → List ℕ → List ℕ
warning_of name bytes = warning_for name bytes (site_of bytes)

-- the same of what the file of this name gave
abbrev pub warning_in : List ℕ → Option (List ℕ) → List ℕ
warning_in name None = []
warning_in name (Some bytes) = warning_of name bytes

-- the bytes are the warning of `head` about this site, or first bytes of it
abbrev pub HeadSays : FileArgument → Readings → List ℕ → Type 0
HeadSays site given bytes = IsPrefix bytes (warning_in site.text (given site))

-- the bytes are lines, one after another, or first bytes of a line: each is the report on some packets of a live stream
-- that is sent so, and on so many bytes that are in none
pub data AreReports (plan : Plan) : List ℕ → Type 0 where
  no_report : AreReports plan []
  one_more : (bytes : List ℕ) → AreReports plan bytes → (past : Packets) → (skipped : ℕ) → (piece : List ℕ) →
      IsPrefix piece (air_line (report_after plan past skipped)) → AreReports plan (bytes ++ piece)

-- the bytes are reports of a live stream that is sent by this plan, if there is one
abbrev pub AreReportsOf : Result Plan Status → List ℕ → Type 0
AreReportsOf (Ok plan) bytes = AreReports plan bytes
AreReportsOf (Err status) bytes = bytes ≡ []

-- the bytes are reports of `air` with this site and book
abbrev pub AirSays : FileArgument → FileArgument → Readings → List ℕ → Type 0
AirSays site book given bytes = AreReportsOf (air_plan_meaning site book given).result bytes

-- a command that says this, by what its files gave, wrote no more than that to its notes
pub record IsSaid (says : Readings → List ℕ → Type 0) (files : Option Files) (before now : Option (List ℕ)) : Type 0
  where
    pub given : Readings
    pub is_given : AreReadingsOfFiles files given
    pub bytes : List ℕ
    pub said : says given bytes
    pub wrote : Appends before now bytes

-- reports were written
pub record NotesOn (plan : Plan) (before now : Option (List ℕ)) : Type 0 where
  pub bytes : List ℕ
  pub reports : AreReports plan bytes
  pub wrote : Appends before now bytes

-- the file of this word gave a site with messages of this version, which has a line `first-word` or hasn't
pub record HasSite (word : FileArgument) (files : Option Files) (version : ℕ) (has_word : Bool) : Type 0 where
  pub bytes : List ℕ
  pub site : SiteFields
  pub is_got : IsReadingOfFile files word.text (Some bytes)
  pub is_site : site_of bytes ≡ Ok site
  pub messages : site.messages ≡ version
  pub line : has_first_word bytes ≡ has_word
