use Rattle.sd_law_losses.proofs.Residual.{near_shows_exact}
use Rattle.sd_law_losses.proofs.laws.positions_are_confirmed.Goals as goal

pub returns-clause-exact : goal.returns-clause-exact
returns-clause-exact c = near_shows_exact
