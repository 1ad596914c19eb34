use Rattle.sd_cover_tracing.proofs.Names.{one_cover}
use Rattle.sd_law_covers.proofs.covers.one_cover.Goals as goal

pub returns : goal.returns
returns c = one_cover
