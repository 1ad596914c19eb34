use Rattle.std.proofs.Common.{◌≡◌, ◌++◌}
use Rattle.sd_law_covers.proofs.Given.{first_pairs}
use Rattle.sd_law_covers.proofs.names.give.Given as goal

abbrev pub invariant-loop-below : goal.invariant-loop-below
invariant-loop-below l = l.names.items ≡ l.fn.names.items ++ first_pairs l.fn.h l.fn.u l.fn.depth l.below
