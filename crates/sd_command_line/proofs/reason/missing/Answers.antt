use Rattle.std.proofs.Common.{rules}
use Rattle.sd_command_line.specs.Reasons.{missing_reason}
use Rattle.sd_command_line.proofs.reason.missing.Goals as goal

pub returns-in-NewSite : goal.returns-in-NewSite
unfolding missing_reason
returns-in-NewSite c = search rules
