use Rattle.sd_cover_tracing.proofs.There.{same_leaves}
use Rattle.sd_law_covers.proofs.covers.same_leaves_same_cover.Goals as goal

pub returns : goal.returns
returns c = same_leaves
