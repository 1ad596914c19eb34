use Rattle.sd_law_losses.proofs.Whole.{runs_part}
use Rattle.sd_law_losses.proofs.Finishing.{runs_end}
use Rattle.sd_law_losses.proofs.laws.losses_of_runs_are_confirmed.Goals as goal

pub returns-clause-part : goal.returns-clause-part
returns-clause-part c = runs_part

pub returns-clause-ending : goal.returns-clause-ending
returns-clause-ending c = runs_end
