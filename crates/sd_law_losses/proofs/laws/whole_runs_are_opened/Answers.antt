use Rattle.sd_law_losses.proofs.WholeEnds.{whole_end}
use Rattle.sd_law_losses.proofs.laws.whole_runs_are_opened.Goals as goal

pub returns-clause-ending : goal.returns-clause-ending
returns-clause-ending c = whole_end
