use Rattle.sd_engine.specs.Stage.{sink_state_of}
use Rattle.sd_run_broadcasts.proofs.AirFaults.{closing_stopped}
use Rattle.sd_run_broadcasts.proofs.air_send.finish.Goals as goal

pub returns-in-Err-clause-value : goal.returns-in-Err-clause-value
returns-in-Err-clause-value g c =
    closing_stopped c.in-Err.fault c.fault_of.result (sink_state_of g.K.Sink c.args.sink.now)
    (sink_state_of g.K.Sink c.close.new.out) c.args.steps.now c.close.new.steps c.args.live.now c.fault_of.ensures
    c.in-Err.ensures.memory c.in-Err.ensures.prefix
