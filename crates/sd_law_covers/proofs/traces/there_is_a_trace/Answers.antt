use Rattle.sd_cover_tracing.proofs.Listed.{there_is_a_trace}
use Rattle.sd_law_covers.proofs.traces.there_is_a_trace.Goals as goal

pub returns : goal.returns
returns c = there_is_a_trace
