use Rattle.std.proofs.Common.{rules}
use Rattle.sd_receive.proofs.filter.channel_of.Goals as goal

pub returns-in_default-2-clause-emm : goal.returns-in_default-2-clause-emm
returns-in_default-2-clause-emm c = search rules
