use Rattle.std.proofs.Common.{refl}
use Rattle.sd_cover_tracing.proofs.Indexes.{revoked_none, index_none}
use Rattle.sd_cover_tracing.proofs.index.CoverIndex.new.Goals as goal

pub invariant_of-result : goal.invariant_of-result
invariant_of-result c = rw c.new.ensures.value (index_none c.args.h)

pub returns-clause-value : goal.returns-clause-value
returns-clause-value c = (refl, rw c.new.ensures.value (revoked_none c.args.h))
