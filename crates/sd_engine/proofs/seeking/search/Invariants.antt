use Rattle.std.proofs.Common.{◌≡◌, ◌-◌, ◌^◌, ◌≤◌, length}
use Rattle.sd_engine.specs.Feeding.{waiting}
use Rattle.sd_engine.specs.Stage.{sink_state_of}
use Rattle.sd_engine.specs.Seeking.{IsSearching}
use Rattle.sd_engine.proofs.seeking.search.Given as goal

-- bytes were read and passed, and no packet is in these
abbrev pub invariant-loop-ahead : goal.invariant-loop-ahead
invariant-loop-ahead g l = record {
  begun : l.ahead.at ≤ l.ahead.filled;
  within : l.ahead.filled ≤ length l.piece;
  long : length l.piece ≡ length l.fn.piece;
  so : IsSearching (g.S.Source.left l.fn.source) (g.S.Source.left l.source)
      (waiting l.fn.piece l.fn.ahead.at l.fn.ahead.filled) (waiting l.piece l.ahead.at l.ahead.filled)
      l.fn.ahead.ended l.ahead.ended l.fn.skipped l.skipped;
  read : g.S.Source.faults l.source ≡ g.S.Source.faults l.fn.source;
  same : sink_state_of g.K.Sink l.sink ≡ sink_state_of g.K.Sink l.fn.sink;
  written : g.K.Sink.faults l.sink ≡ g.K.Sink.faults l.fn.sink;
}

abbrev pub decreases-loop-ahead : goal.decreases-loop-ahead
decreases-loop-ahead g l = 2 ^ 64 - 1 - l.skipped
