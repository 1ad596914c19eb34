use Rattle.sd_cover_tracing.proofs.There.{covers_agree}
use Rattle.sd_law_covers.proofs.covers.same_nodes_same_cover.Goals as goal

pub returns : goal.returns
returns c = covers_agree
