use Rattle.std.proofs.Common.{◌≡◌, ◌≤◌, length}
use Rattle.sd_test_ports.proofs.seeking.found.Given as goal

-- what waits is within the piece
abbrev pub invariant-loop-turn : goal.invariant-loop-turn
invariant-loop-turn l = record {
  begun : l.ahead.at ≤ l.ahead.filled;
  within : l.ahead.filled ≤ 400;
  long : length l.piece ≡ 400;
}
