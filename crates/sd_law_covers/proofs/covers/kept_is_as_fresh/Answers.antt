use Rattle.sd_cover_tracing.proofs.Changed.{sets_as_fresh}
use Rattle.sd_law_covers.proofs.covers.kept_is_as_fresh.Goals as goal

pub returns : goal.returns
returns c = sets_as_fresh
