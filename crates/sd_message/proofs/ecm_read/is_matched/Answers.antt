use Rattle.std.proofs.Common.{rules}
use Rattle.sd_message.proofs.ecm_read.is_matched.Goals as goal

pub returns-then-part : goal.returns-then-part
returns-then-part c = search rules

pub returns-then-part-eq0 : goal.returns-then-part-eq0
returns-then-part-eq0 c = search rules
