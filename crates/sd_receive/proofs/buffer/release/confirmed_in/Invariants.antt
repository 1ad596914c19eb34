use Rattle.std.proofs.Common.{drop}
use Rattle.sd_receive.specs.Writing.{AreNearPids}
use Rattle.sd_receive.proofs.buffer.release.confirmed_in.Given as goal

-- the places from here on are in the table
abbrev pub invariant-loop-i : goal.invariant-loop-i
invariant-loop-i l = AreNearPids l.tracked (drop l.i l.places) l.confirmed
