use Rattle.std.proofs.Common.{◌≡◌}
use Rattle.sd_law_covers.proofs.Given.{first_given}
use Rattle.sd_law_covers.proofs.names.given_names.Given as goal

abbrev pub invariant-loop-depth : goal.invariant-loop-depth
invariant-loop-depth l = l.names.items ≡ first_given l.h l.u l.depth
