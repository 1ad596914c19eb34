use Rattle.std.proofs.Common.{◌≡◌, ◌≤◌, length}
use Rattle.std.specs.Io.KnownBytes.{Consumes}
use Rattle.sd_ports.proofs.prefix.fill.Given as goal

-- what was read is what is gone, a byte or more each turn, and nothing failed
abbrev pub invariant-loop-turn : goal.invariant-loop-turn
invariant-loop-turn g l = record {
  turns : l._turn ≤ length l.bytes.items;
  within : length l.bytes.items ≤ l.most;
  gone : Consumes (g.S.Source.left l.fn.source) (g.S.Source.left l.source) l.bytes.items;
  calm : g.S.Source.faults l.source ≡ g.S.Source.faults l.fn.source;
}
