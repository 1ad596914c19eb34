use Rattle.std.proofs.Common.{rules}
use Rattle.sd_command_base.proofs.reading.is_above.Goals as goal

pub returns-in-Some : goal.returns-in-Some
returns-in-Some c = search rules
