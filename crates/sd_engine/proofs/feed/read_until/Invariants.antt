use Rattle.std.proofs.Common.{◌≡◌, ◌-◌, ◌≤◌, length}
use Rattle.sd_engine.specs.Feeding.{waiting, ReadsMore}
use Rattle.sd_engine.proofs.feed.read_until.Given as goal

-- what waits at the beginning of the piece is what waited, and the bytes that were read
abbrev pub invariant-loop-filled : goal.invariant-loop-filled
invariant-loop-filled g l = record {
  within : l.filled ≤ length l.piece;
  long : length l.piece ≡ length l.fn.piece;
  read : ReadsMore (g.S.Source.left l.fn.source) (g.S.Source.left l.source) (waiting l.fn.piece 0 l.fn.count)
      (waiting l.piece 0 l.filled);
  calm : g.S.Source.faults l.source ≡ g.S.Source.faults l.fn.source;
}

abbrev pub decreases-loop-filled : goal.decreases-loop-filled
decreases-loop-filled g l = l.fn.least - l.filled
