use Rattle.std.proofs.Common.{refl, ap}
use Rattle.std.specs.Prelude.{Err}
use Rattle.sd_engine.specs.Stage.{sink_state_of}
use Rattle.sd_engine.specs.declared.stage.StageFault.{StageFault}
use Rattle.sd_message.specs.declared.stream_fault.StreamFault.{StreamFault}
use Rattle.sd_watch.proofs.Taken.{grown_taken, grown_refused, cut_taken, ready_again}
use Rattle.sd_watch.proofs.watcher.Watcher.take.Goals as goal

-- src/watching.rt:139:5
pub returns-in-Ok-clause-value : goal.returns-in-Ok-clause-value
returns-in-Ok-clause-value g c =
    grown_taken (sink_state_of g.K.Sink c.args.out.now) (sink_state_of g.K.Sink c.take_whole.new.out) c.args.steps.now
    c.take_whole.new.steps c.args.self.now c.take_whole.new.self c.args.packet.now c.keep.new.self c.keep.result
    c.written-written.result c.in-Ok.ensures.value c.requires.ready.told c.written-written.ensures
    c.keep.ensures.value c.keep.ensures.kept c.keep.ensures.card

-- src/watching.rt:139:5
pub returns-in-Err-Refused-clause-value : goal.returns-in-Err-Refused-clause-value
returns-in-Err-Refused-clause-value g c =
    let w = c.args.self.now in
    let fault = c.in-Err-Refused.fault in
    let is = ap (λ (f : StageFault StreamFault). Err f) c.in-Err-Refused.field-0-is in
    grown_refused (sink_state_of g.K.Sink c.args.out.now) (sink_state_of g.K.Sink c.take_whole.new.out) c.args.steps.now
    c.take_whole.new.steps w
    (record { receiver = c.take_whole.new.self; recent = w.recent; packets = w.packets; tally = w.tally })
    c.refuse.new.self c.args.packet.now fault (c.in-Err-Refused.ensures.fault fault is)
    (c.in-Err-Refused.ensures.stands fault is) (c.in-Err-Refused.ensures.same fault is).0 refl refl refl
    c.refuse.ensures.kept c.refuse.ensures.same

-- src/watching.rt:139:5
pub returns-in-Err-Write-clause-prefix : goal.returns-in-Err-Write-clause-prefix
returns-in-Err-Write-clause-prefix g c is =
    cut_taken (sink_state_of g.K.Sink c.args.out.now) (sink_state_of g.K.Sink c.take_whole.new.out) c.args.steps.now
    c.take_whole.new.steps c.args.self.now c.args.packet.now (c.in-Err-Write.ensures.prefix
    (ap (λ (f : StageFault StreamFault). Err f) c.in-Err-Write.field-0-is))

-- src/watching.rt:150:5
pub returns-in-Err-Refused-clause-ready : goal.returns-in-Err-Refused-clause-ready
returns-in-Err-Refused-clause-ready g c =
    let w = c.args.self.now in
    let fault = c.in-Err-Refused.fault in
    let is = ap (λ (f : StageFault StreamFault). Err f) c.in-Err-Refused.field-0-is in
    ready_again w (record { receiver = c.take_whole.new.self; recent = w.recent; packets = w.packets; tally = w.tally })
    c.refuse.new.self c.requires.ready (c.in-Err-Refused.ensures.fit fault is) c.in-Err-Refused.ensures.unrefused
    (c.in-Err-Refused.ensures.same fault is).1 c.refuse.ensures.same
