use Rattle.std.proofs.Common.{◌≡◌, ◌≤◌, length}
use Rattle.sd_engine.specs.Stage.{sink_state_of}
use Rattle.sd_engine.specs.Feeding.{waiting}
use Rattle.sd_engine.specs.Driving.{drive_state_of, IsUnderWay}
use Rattle.sd_engine.proofs.driver.drive.Given as goal

-- so many packets went through, and nothing failed
abbrev pub invariant-loop-count : goal.invariant-loop-count
invariant-loop-count g l = record {
  live : g.G.Stage.live l.stage;
  begun : l.span.at ≤ l.span.filled;
  within : l.span.filled ≤ 66176;
  long : length l.piece ≡ 66176;
  way : IsUnderWay g.G.Stage.does
      (drive_state_of (g.S.Source.left l.fn.source) (sink_state_of g.K.Sink l.fn.sink) l.fn.stage l.fn.steps)
      (drive_state_of (g.S.Source.left l.source) (sink_state_of g.K.Sink l.sink) l.stage l.steps)
      l.count (waiting l.piece l.span.at l.span.filled);
  read : g.S.Source.faults l.source ≡ g.S.Source.faults l.fn.source;
  written : g.K.Sink.faults l.sink ≡ g.K.Sink.faults l.fn.sink;
}
