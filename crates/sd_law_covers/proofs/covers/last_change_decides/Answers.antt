use Rattle.sd_cover_tracing.proofs.Changed.{last_change_decides}
use Rattle.sd_law_covers.proofs.covers.last_change_decides.Goals as goal

pub returns : goal.returns
returns c = last_change_decides
