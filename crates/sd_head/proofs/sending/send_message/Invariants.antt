use Rattle.std.proofs.Common.{◌≡◌, take}
use Rattle.std.specs.List.{concat}
use Rattle.sd_engine.specs.Stage.{sink_state_of, TookBytes}
use Rattle.sd_message.specs.EcmParts.{message_of, parts_of}
use Rattle.sd_head.specs.Sending.{counter_after, with_counters, packed_part}
use Rattle.sd_head.proofs.sending.send_message.Given as goal

-- the parts so far are sent
abbrev pub invariant-loop-number : goal.invariant-loop-number
invariant-loop-number g l = record {
  value : TookBytes (sink_state_of g.K.Sink l.fn.out) (sink_state_of g.K.Sink l.out)
      (concat (with_counters (packed_part l.fn.pid) l.fn.counter
      (take l.number (parts_of (message_of l.fn.head l.fn.places)))));
  next : l.counter ≡ counter_after l.fn.counter l.number;
  cause : g.K.Sink.faults l.out ≡ g.K.Sink.faults l.fn.out;
}
