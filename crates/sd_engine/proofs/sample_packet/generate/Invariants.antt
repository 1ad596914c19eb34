use Rattle.std.proofs.Common.{◌≡◌, ◌≤◌, ◌-◌, ◌++◌, length, take}
use Rattle.sd_engine.specs.Sample.{state_at, generated}
use Rattle.sd_engine.proofs.sample_packet.generate.Given as goal

-- the bytes before i are filled
abbrev pub invariant-loop-i : goal.invariant-loop-i
invariant-loop-i l = record {
  long : length l.bytes ≡ 188;
  from : l.start ≤ l.i;
  state : l.state ≡ state_at l.fn.state (l.i - l.start);
  bytes : take l.i l.bytes ≡ take l.start l.fn.bytes ++ generated l.fn.state (l.i - l.start);
}
