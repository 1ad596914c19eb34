use Rattle.std.proofs.Common.{rules}
use Rattle.sd_cover_tracing.proofs.sets.push_chain.Goals as goal

pub returns-else-head-end : goal.returns-else-head-end
returns-else-head-end c = search rules
