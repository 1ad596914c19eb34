use Rattle.sd_engine.specs.Stage.{sink_state_of}
use Rattle.sd_run_broadcasts.proofs.AirFaults.{packet_stopped}
use Rattle.sd_run_broadcasts.proofs.Saying.{led, none_noted}
use Rattle.sd_run_broadcasts.proofs.air_send.send_packet.Goals as goal

pub returns-in-Err-clause-value : goal.returns-in-Err-clause-value
returns-in-Err-clause-value g c plan past keeps few =
    packet_stopped c.in-Err.fault c.fault_of.result (sink_state_of g.K.Sink c.args.sink.now)
    (sink_state_of g.K.Sink c.take.new.out) c.args.steps.now c.take.new.steps c.args.live.now c.args.packet.now
    c.fault_of.ensures c.in-Err.ensures.memory c.in-Err.ensures.prefix plan past keeps

pub returns-in-Ok-On-clause-notes : goal.returns-in-Ok-On-clause-notes
returns-in-Ok-On-clause-notes g c plan past keeps few = none_noted plan _

pub returns-in-Ok-Begins-clause-notes : goal.returns-in-Ok-Begins-clause-notes
returns-in-Ok-Begins-clause-notes g c plan past keeps few =
    let took = c.in-Ok-Begins.ensures.value.says plan past keeps few in
    let more = led plan past c.args.packet.now _ _ _ keeps took.leads in
    c.note.ensures plan more.0 more.1

pub returns-in-Ok-Full-clause-notes : goal.returns-in-Ok-Full-clause-notes
returns-in-Ok-Full-clause-notes g c plan past keeps few = none_noted plan _

pub returns-in-Err-clause-notes : goal.returns-in-Err-clause-notes
returns-in-Err-clause-notes g c plan past keeps few = none_noted plan _
