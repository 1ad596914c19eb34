use Rattle.sd_law_broadcast.proofs.Reached.{period_reached}
use Rattle.sd_law_broadcast.proofs.laws.periods_are_reached.Goals as goal

pub returns : goal.returns
returns c = period_reached
