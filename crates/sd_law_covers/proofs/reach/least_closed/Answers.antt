use Rattle.sd_cover_tracing.proofs.Reached.{held_is_reached, next_is_reached, reached_passes}
use Rattle.sd_law_covers.proofs.reach.least_closed.Goals as goal

pub returns : goal.returns
returns c = record { held = held_is_reached; closed = next_is_reached; least = reached_passes }
