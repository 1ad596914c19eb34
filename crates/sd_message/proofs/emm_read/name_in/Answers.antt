use Rattle.std.proofs.Common.{rules}
use Rattle.sd_message.proofs.emm_read.name_in.Goals as goal

pub returns-clause-set : goal.returns-clause-set
returns-clause-set c = search rules
