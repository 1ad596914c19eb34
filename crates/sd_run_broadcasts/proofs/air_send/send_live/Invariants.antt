use Rattle.std.proofs.Common.{◌≡◌, ◌≤◌, [], length}
use Rattle.sd_engine.specs.Feeding.{waiting}
use Rattle.sd_spec.specs.Plan.{Plan}
use Rattle.sd_head.specs.Live.{IsLiveAfter, IsOnAir}
use Rattle.sd_run_broadcasts.specs.OnAir.{IsSending}
use Rattle.sd_run_broadcasts.specs.Said.{NotesOn}
use Rattle.sd_run_broadcasts.proofs.air_send.send_live.Given as goal

-- so many packets were taken, and nothing failed
abbrev pub invariant-loop-count : goal.invariant-loop-count
invariant-loop-count g l = record {
  on : IsOnAir l.live;
  begun : l.ahead.at ≤ l.ahead.filled;
  within : l.ahead.filled ≤ 66176;
  long : length l.piece ≡ 66176;
  way : (plan : Plan) → IsLiveAfter plan [] l.fn.live →
      IsSending plan (g.S.Source.left l.fn.source) (g.S.Source.left l.source) (g.K.Sink.held l.fn.sink)
      (g.K.Sink.held l.sink) l.live (waiting l.piece l.ahead.at l.ahead.filled) l.ahead.ended l.skipped l.count;
  noted : (plan : Plan) → IsLiveAfter plan [] l.fn.live →
      NotesOn plan (g.N.Sink.held l.fn.notes) (g.N.Sink.held l.notes);
  read : g.S.Source.faults l.source ≡ g.S.Source.faults l.fn.source;
  written : g.K.Sink.faults l.sink ≡ g.K.Sink.faults l.fn.sink;
}
