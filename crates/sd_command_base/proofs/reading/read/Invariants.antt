use Rattle.std.proofs.Common.{◌^◌, ◌<◌, All, length}
use Rattle.std.specs.List.Sorted.{IsStrictlyIncreasing}
use Rattle.sd_command_base.proofs.Lines.{AreRead}
use Rattle.sd_command_base.proofs.reading.read.Given as goal

abbrev pub invariant-loop-line : goal.invariant-loop-line
invariant-loop-line l = record {
  read : AreRead l.fn.h l.fn.bytes l.rest l.leaves.items;
  fits : All (λ u. u < 2 ^ l.fn.h) l.leaves.items;
  ascending : IsStrictlyIncreasing l.leaves.items;
}

abbrev pub decreases-loop-line : goal.decreases-loop-line
decreases-loop-line l = length l.rest
