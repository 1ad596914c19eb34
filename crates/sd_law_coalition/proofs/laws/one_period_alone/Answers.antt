use Rattle.sd_law_coalition.proofs.Known.{one_period_alone}
use Rattle.sd_law_coalition.proofs.laws.one_period_alone.Goals as goal

pub returns : goal.returns
returns c = one_period_alone
