use Rattle.sd_law_coalition.proofs.Known.{held_is_known, next_is_known, known_passes}
use Rattle.sd_law_coalition.proofs.laws.least_known.Goals as goal

pub returns : goal.returns
returns c = record { held = held_is_known; closed = next_is_known; least = known_passes }
