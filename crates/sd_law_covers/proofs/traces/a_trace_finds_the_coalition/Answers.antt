use Rattle.sd_cover_tracing.proofs.Inside.{trace_is_coalition}
use Rattle.sd_cover_tracing.proofs.Listed.{trace_new, trace_once}
use Rattle.sd_law_covers.proofs.traces.a_trace_finds_the_coalition.Goals as goal

pub returns : goal.returns
returns c = record { members = trace_is_coalition; leaves = trace_new; once = trace_once }
