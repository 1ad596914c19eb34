use Rattle.sd_law_losses.proofs.Finishing.{pieces_end}
use Rattle.sd_law_losses.proofs.laws.switches_are_followed.Goals as goal

pub returns-clause-ending : goal.returns-clause-ending
returns-clause-ending c = pieces_end
