use Rattle.sd_head.proofs.Placing.{positioned, ascending, short}
use Rattle.sd_head.proofs.laws.places_may_be_told.Goals as goal

pub returns : goal.returns
returns c = record { positioned = positioned; ascending = ascending; short = short }
