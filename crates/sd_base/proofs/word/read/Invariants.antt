use Rattle.std.proofs.Common.{◌≡◌, ◌*◌}
use Rattle.sd_base.specs.Bits.{field}
use Rattle.sd_base.proofs.word.read.Given as goal

abbrev pub invariant-loop-i : goal.invariant-loop-i
invariant-loop-i l = l.word ≡ field l.bytes (8 * l.first) (8 * l.i)
