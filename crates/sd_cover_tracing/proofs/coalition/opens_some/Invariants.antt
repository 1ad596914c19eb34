use Rattle.std.proofs.Common.{◌≡◌, drop}
use Rattle.sd_cover_tracing.specs.Search.{opens_some}
use Rattle.sd_cover_tracing.proofs.coalition.opens_some.Given as goal

abbrev pub invariant-loop-at : goal.invariant-loop-at
invariant-loop-at l = opens_some l.fn.h l.fn.leaves (drop l.at l.fn.sets) (drop l.at l.fn.right)
    ≡ opens_some l.fn.h l.fn.leaves l.fn.sets l.fn.right
