use Rattle.sd_law_broadcast.proofs.Using.{later_periods_are_new}
use Rattle.sd_law_broadcast.proofs.practice.later_periods_are_new.Goals as goal

pub returns : goal.returns
returns c = later_periods_are_new
