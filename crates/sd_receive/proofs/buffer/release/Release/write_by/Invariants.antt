use Rattle.std.proofs.Common.{◌≡◌, ◌≤◌}
use Rattle.sd_engine.specs.Stage.{sink_state_of}
use Rattle.sd_receive.specs.Writing.{ArePacketsWritten}
use Rattle.sd_receive.proofs.buffer.release.Release.write_by.Given as goal

-- what the packets so far come to was written, and nothing failed
abbrev pub invariant-loop-held : goal.invariant-loop-held
invariant-loop-held g l = record {
  written : ArePacketsWritten l.self l.held-index (sink_state_of g.K.Sink l.fn.out) (sink_state_of g.K.Sink l.out)
      l.count;
  few : l.count ≤ l.held-index;
  calm : g.K.Sink.faults l.out ≡ g.K.Sink.faults l.fn.out;
}
