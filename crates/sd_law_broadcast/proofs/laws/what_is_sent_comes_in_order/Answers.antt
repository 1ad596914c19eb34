use Rattle.sd_law_broadcast.proofs.Coming.{what_comes}
use Rattle.sd_law_broadcast.proofs.laws.what_is_sent_comes_in_order.Goals as goal

pub returns : goal.returns
returns c = what_comes
