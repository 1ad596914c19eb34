use Rattle.std.proofs.Common.{◌≡◌, ◌≤◌, ◌-◌, length}
use Rattle.std.specs.Io.KnownBytes.{Appends}
use Rattle.sd_engine.specs.Sample.{state_at, generated_before, sample_of}
use Rattle.sd_engine.proofs.sample_stream.sample.Given as goal

-- the packets before `done` were written, and nothing failed
abbrev pub invariant-loop-done : goal.invariant-loop-done
invariant-loop-done g l = record {
  room : length l.piece ≡ 64;
  within : l.done ≤ l.packets;
  state : l.state ≡ state_at l.number (generated_before l.done);
  written : Appends (g.K.Sink.held l.fn.out) (g.K.Sink.held l.out) (sample_of l.number l.done);
  calm : g.K.Sink.faults l.out ≡ g.K.Sink.faults l.fn.out;
}

abbrev pub decreases-loop-done : goal.decreases-loop-done
decreases-loop-done g l = l.packets - l.done
