-- Public meaning: which answers are refusals of arguments or files.
use Rattle.sd_command_base.specs.declared.status.Status.{Status}
use Rattle.sd_command_base.specs.declared.status.Status.TheVariants.{Done, Usage, Missing, Revoked, DepotFault}
use Rattle.sd_command_base.specs.declared.status.Status.TheVariants.{PrintFault}
use Rattle.sd_command_base.specs.declared.status.Status.TheVariants.{BadSite, BadBook, BadCard, BadClear, BadStream}
use Rattle.sd_command_base.specs.declared.status.Status.TheVariants.{Limit}
use Rattle.sd_command_base.specs.declared.status.Status.TheVariants.{NoMemory, Unheard, Unclosed, Gaps, NoCat}
use Rattle.sd_command_base.specs.declared.status.Status.TheVariants.{BadWord, Clash, BadOut, OtherBook, SiteUsed}
use Rattle.sd_command_base.specs.declared.status.Status.TheVariants.{SiteUsedUp}

-- Arguments or files are refused before a file is made or a text is printed. Each status has its row, so that a new one
-- must be decided.
abbrev pub RefusesFirst : Status → Type 0
RefusesFirst Done = ⊥
RefusesFirst Usage = Unit {0}
RefusesFirst (Missing word) = Unit {0}
RefusesFirst (Revoked leaf period) = ⊥
RefusesFirst DepotFault = ⊥
RefusesFirst PrintFault = ⊥
RefusesFirst (BadSite word fault text) = Unit {0}
RefusesFirst (BadBook word line) = Unit {0}
RefusesFirst (BadCard word fault) = Unit {0}
RefusesFirst (BadClear refusal) = ⊥
RefusesFirst (BadStream refusal) = ⊥
RefusesFirst (Limit limit) = Unit {0}
RefusesFirst NoMemory = ⊥
RefusesFirst (Unheard leaf period) = ⊥
RefusesFirst (Unclosed number) = ⊥
RefusesFirst (Gaps packets) = ⊥
RefusesFirst NoCat = ⊥
RefusesFirst (BadWord word) = Unit {0}
RefusesFirst (Clash clash) = Unit {0}
RefusesFirst (BadOut word cause) = Unit {0}
RefusesFirst SiteUsed = Unit {0}
RefusesFirst OtherBook = Unit {0}
RefusesFirst (SiteUsedUp packet) = ⊥
