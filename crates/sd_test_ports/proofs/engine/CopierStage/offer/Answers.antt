use Rattle.std.proofs.Common.{inl, arith}
use Rattle.sd_engine.specs.Stage.{sink_state_of}
use Rattle.sd_engine.proofs.Vessels.{cut_short, too_short}
use Rattle.sd_test_ports.proofs.engine.CopierStage.offer.Goals as goal

pub returns-in-Err-clause-prefix : goal.returns-in-Err-clause-prefix
returns-in-Err-clause-prefix g c = λ is. cut_short _ (sink_state_of g.K.Sink c.args.out.now)
    (sink_state_of g.K.Sink c.write_all.new.sink) c.bytes.result.now
    (0, omega arith, inl (c.args.self.now, c.bytes.ensures.value))
    c.in-Err.ensures.prefix (too_short _ _ _ _ c.in-Err.ensures.room)
