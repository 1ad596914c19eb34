use Rattle.std.proofs.Common.{◌-◌, ◌≤◌, ◌≡◌, length, drop}
use Rattle.sd_psi.specs.Tables.{are_streams}
use Rattle.sd_psi.proofs.pmt.are_streams.Given as goal

abbrev pub invariant-loop-at : goal.invariant-loop-at
invariant-loop-at l = (l.at ≤ length l.bytes) × (are_streams l.bytes ≡ are_streams (drop l.at l.bytes))

abbrev pub decreases-loop-at : goal.decreases-loop-at
decreases-loop-at l = length l.bytes - l.at
