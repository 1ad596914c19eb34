use Rattle.sd_law_losses.proofs.Keys.{taken_is}
use Rattle.sd_law_losses.proofs.laws.streams_are_their_pieces.Goals as goal

pub returns-clause-keys : goal.returns-clause-keys
returns-clause-keys c = taken_is
