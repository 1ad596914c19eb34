use Rattle.std.proofs.Common.{rules}
use Rattle.sd_message.proofs.ecm_order.is_before.Goals as goal

pub returns : goal.returns
returns c = search rules
