use Rattle.std.proofs.Common.{rules}
use Rattle.sd_command_base.proofs.turn.unclosed.Goals as goal

pub returns-in-Err-BadClear : goal.returns-in-Err-BadClear
returns-in-Err-BadClear c = search rules

pub returns-in_default : goal.returns-in_default
returns-in_default c = search rules

pub returns-in_default-2 : goal.returns-in_default-2
returns-in_default-2 c = search rules
