use Rattle.std.proofs.Common.{◌≡◌, ◌-◌, ◌*◌, ◌/◌, ◌^◌, length}
use Rattle.sd_base.specs.Bits.{field, KeepsOthers}
use Rattle.sd_base.proofs.word.write.Given as goal

abbrev pub invariant-loop-i : goal.invariant-loop-i
invariant-loop-i l = record {
  value : field l.bytes (8 * l.first) (8 * l.i) ≡ l.word / 2 ^ (8 * (l.count - l.i));
  unchanged : KeepsOthers (8 * l.first) (8 * l.i) l.fn.bytes l.bytes;
  length : length l.bytes ≡ length l.fn.bytes;
}
