use Rattle.sd_law_broadcast.proofs.Knowing.{held_is_known, next_is_known, known_passes}
use Rattle.sd_law_broadcast.proofs.known.least_known.Goals as goal

pub returns : goal.returns
returns c = record { held = held_is_known; closed = next_is_known; least = known_passes }
