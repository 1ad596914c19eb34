use Rattle.std.proofs.Common.{◌-◌, length}
use Rattle.sd_run_broadcasts.proofs.Playing.{IsAlong}
use Rattle.sd_run_broadcasts.proofs.field_play.play.Given as goal

-- some events are done, and none sent a clear packet that is refused
abbrev pub invariant-loop : goal.invariant-loop
invariant-loop g l = IsAlong l.fn.field l.field

abbrev pub decreases-loop : goal.decreases-loop
decreases-loop g l = length l.field.events - l.field.done
