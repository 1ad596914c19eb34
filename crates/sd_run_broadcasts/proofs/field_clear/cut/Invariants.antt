use Rattle.std.proofs.Common.{length}
use Rattle.sd_run_broadcasts.proofs.Cutting.{IsCut}
use Rattle.sd_run_broadcasts.proofs.field_clear.cut.Given as goal

-- the packets so far stand before the rest
abbrev pub invariant-loop-rest : goal.invariant-loop-rest
invariant-loop-rest l = IsCut l.bytes l.packets.items l.rest

abbrev pub decreases-loop-rest : goal.decreases-loop-rest
decreases-loop-rest l = length l.rest
