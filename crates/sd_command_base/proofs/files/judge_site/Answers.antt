use Rattle.std.proofs.Common.{rules}
use Rattle.sd_command_base.proofs.files.judge_site.Goals as goal

pub returns-in-Err : goal.returns-in-Err
returns-in-Err c = search rules
