use Rattle.std.proofs.Common.{[], take}
use Rattle.sd_receive.specs.Tracking.{IsTracked}
use Rattle.sd_receive.proofs.buffer.tracked.start.Given as goal

-- the places so far are in the table
abbrev pub invariant-loop-place : goal.invariant-loop-place
invariant-loop-place l = IsTracked (take l.place-index l.places) [] l.table
