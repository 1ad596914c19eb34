use Rattle.std.proofs.Common.{◌∙◌, ap, subst, arith}
use Rattle.sd_engine.specs.Stage.{sink_state_of, TookBytes}
use Rattle.sd_message.specs.EcmParts.{message_of, parts_of}
use Rattle.sd_message.proofs.EcmSharing.{as_many}
use Rattle.sd_head.proofs.Packing.{taken_at}
use Rattle.sd_head.specs.Sending.{FailsWithin, packed_part, counter_after}
use Rattle.sd_head.proofs.Sends.{one_more, one_cut, all_sent, sends_err, counter_next}
use Rattle.sd_head.proofs.sending.send_message.Goals as goal

pub returns-in_err-send-clause-value : goal.returns-in_err-send-clause-value
returns-in_err-send-clause-value g c =
    let message = message_of c.args.head.now c.args.places.now in
    let n = c.loop-number.number in
    sends_err c.from_residual.result _ _ _ c.from_residual.ensures.0
    (one_cut (packed_part c.args.pid) c.args.counter.now c.loop-number.counter n
    (parts_of message) c.of_message-part.result
    _ (sink_state_of g.K.Sink c.loop-number.out) _
    (omega (arith, c.loop-number-test.true, c.part_count-number-end.ensures, as_many message))
    (taken_at (parts_of message) n c.of_message-part.result c.of_message-part.ensures.value)
    c.loop-number.invariant.next
    c.loop-number.invariant.value
    (subst (FailsWithin (sink_state_of g.K.Sink c.loop-number.out) (sink_state_of g.K.Sink c.send.new.out))
    (c.write_ecm.ensures.value ∙ ap (packed_part c.args.pid c.of_message-part.result) c.take.ensures.value)
    c.in_err-send.ensures.value))

pub loop-number-preserved : goal.loop-number-preserved
loop-number-preserved g c =
    let message = message_of c.args.head.now c.args.places.now in
    let n = c.loop-number.number in
    record {
      value = one_more (packed_part c.args.pid) c.args.counter.now c.loop-number.counter n
          (parts_of message) c.of_message-part.result
          _ (sink_state_of g.K.Sink c.loop-number.out) _
          (omega (arith, c.loop-number-test.true, c.part_count-number-end.ensures, as_many message))
          (taken_at (parts_of message) n c.of_message-part.result c.of_message-part.ensures.value)
          c.loop-number.invariant.next
          c.loop-number.invariant.value
          (subst (TookBytes (sink_state_of g.K.Sink c.loop-number.out) (sink_state_of g.K.Sink c.send.new.out))
          (c.write_ecm.ensures.value ∙ ap (packed_part c.args.pid c.of_message-part.result) c.take.ensures.value)
          c.in_ok-send.ensures.value);
      next = counter_next c.args.counter.now c.loop-number.counter c.take.new.self n c.loop-number.invariant.next
          c.take.ensures.next;
      cause = c.in_ok-send.ensures.cause.calm ∙ c.loop-number.invariant.cause;
    }

pub returns-clause-value : goal.returns-clause-value
returns-clause-value g c =
    let message = message_of c.args.head.now c.args.places.now in
    all_sent (packed_part c.args.pid) c.args.counter.now c.loop-number.number (parts_of message) _ _
    (omega (arith, c.loop-number-test.false, c.part_count-number-end.ensures, as_many message))
    c.loop-number.invariant.value

pub returns-clause-next : goal.returns-clause-next
returns-clause-next g c =
    let message = message_of c.args.head.now c.args.places.now in
    c.loop-number.invariant.next ∙ ap (counter_after c.args.counter.now)
    (omega (
      arith,
      c.loop-number-test.false,
      c.loop-number.auto.number-end,
      c.part_count-number-end.ensures,
      as_many message,
    ))
