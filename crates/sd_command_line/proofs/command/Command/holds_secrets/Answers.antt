use Rattle.std.proofs.Common.{rules}
use Rattle.sd_command_line.proofs.command.Command.holds_secrets.Goals as goal

pub returns-in_default : goal.returns-in_default
returns-in_default c = search rules
