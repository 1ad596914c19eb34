-- Public meaning: the exit status of the program [this project, docs/FORMATS.md, Exits].
use Rattle.std.specs.Prelude.{ℕ}
use Rattle.sd_command_base.specs.declared.status.Status.{Status}
use Rattle.sd_command_base.specs.declared.status.Status.TheVariants.{Done, Usage, Missing, Revoked, DepotFault}
use Rattle.sd_command_base.specs.declared.status.Status.TheVariants.{PrintFault}
use Rattle.sd_command_base.specs.declared.status.Status.TheVariants.{BadSite, BadBook, BadCard, BadClear, BadStream}
use Rattle.sd_command_base.specs.declared.status.Status.TheVariants.{Limit, NoMemory, Unheard, Unclosed, Gaps, NoCat}
use Rattle.sd_command_base.specs.declared.status.Status.TheVariants.{BadWord}
use Rattle.sd_command_base.specs.declared.status.Status.TheVariants.{Clash, BadOut, OtherBook, SiteUsed, SiteUsedUp}

-- the exit status of the program [this project, docs/FORMATS.md, Exits]
abbrev pub code_of : Status → ℕ
code_of Done = 0
code_of Usage = 1
code_of (Missing word) = 2
code_of (Revoked leaf period) = 3
code_of DepotFault = 4
code_of PrintFault = 5
code_of (BadSite word fault text) = 6
code_of (BadBook word line) = 7
code_of (BadCard word fault) = 8
code_of (BadClear refusal) = 9
code_of (BadStream refusal) = 10
code_of (Limit kind) = 11
code_of NoMemory = 12
code_of (Unheard leaf period) = 13
code_of (Unclosed number) = 14
code_of (Gaps packets) = 15
code_of NoCat = 16
code_of (BadWord word) = 17
code_of (Clash clash) = 18
code_of (BadOut word cause) = 19
code_of SiteUsed = 20
code_of OtherBook = 21
code_of (SiteUsedUp packet) = 22
