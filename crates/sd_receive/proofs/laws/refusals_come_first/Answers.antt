use Rattle.sd_receive.proofs.Chained.{broke_at}
use Rattle.sd_receive.proofs.laws.refusals_come_first.Goals as goal

pub returns : goal.returns
returns c = broke_at
