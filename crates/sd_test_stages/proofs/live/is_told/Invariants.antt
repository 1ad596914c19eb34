use Rattle.sd_head.specs.Live.{IsOnAir}
use Rattle.sd_test_stages.proofs.live.is_told.Given as goal

abbrev pub invariant-loop-row : goal.invariant-loop-row
invariant-loop-row g l = IsOnAir l.live
