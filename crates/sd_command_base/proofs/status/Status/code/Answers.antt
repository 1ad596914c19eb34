use Rattle.std.proofs.Common.{rules}
use Rattle.sd_command_base.proofs.status.Status.code.Goals as goal

pub returns-in-BadWord : goal.returns-in-BadWord
returns-in-BadWord c = search rules
