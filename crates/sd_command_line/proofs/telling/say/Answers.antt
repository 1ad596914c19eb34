use Rattle.std.proofs.Common.{rules}
use Rattle.sd_command_line.proofs.telling.say.Goals as goal

pub returns-in-Err : goal.returns-in-Err
returns-in-Err g c = search rules
