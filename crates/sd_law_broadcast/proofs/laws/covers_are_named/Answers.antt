use Rattle.sd_law_broadcast.proofs.Covering.{period_named}
use Rattle.sd_law_broadcast.proofs.laws.covers_are_named.Goals as goal

pub returns : goal.returns
returns c = period_named
