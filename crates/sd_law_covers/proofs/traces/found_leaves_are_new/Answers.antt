use Rattle.sd_cover_tracing.proofs.Anyway.{found_new, found_once, found_cheap}
use Rattle.sd_law_covers.proofs.traces.found_leaves_are_new.Goals as goal

pub returns : goal.returns
returns c = record { leaves = found_new; once = found_once; cheap = found_cheap }
