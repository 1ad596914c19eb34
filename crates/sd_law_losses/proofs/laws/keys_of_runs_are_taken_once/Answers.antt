use Rattle.sd_law_losses.proofs.Finishing.{pieces_taken}
use Rattle.sd_law_losses.proofs.laws.keys_of_runs_are_taken_once.Goals as goal

pub returns-clause-switched : goal.returns-clause-switched
returns-clause-switched c = pieces_taken
