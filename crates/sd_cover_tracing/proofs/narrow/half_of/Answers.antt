use Rattle.std.proofs.Common.{rules}
use Rattle.sd_cover_tracing.proofs.narrow.half_of.Goals as goal

pub returns-then-opened-clause-value : goal.returns-then-opened-clause-value
returns-then-opened-clause-value c = search rules

pub returns-else-opened-clause-value : goal.returns-else-opened-clause-value
returns-else-opened-clause-value c = search rules
