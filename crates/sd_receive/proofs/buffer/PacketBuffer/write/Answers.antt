use Rattle.std.proofs.Common.{subst}
use Rattle.std.specs.Prelude.{Option}
use Rattle.sd_engine.specs.Stage.{sink_state_of}
use Rattle.sd_receive.specs.PacketBuffer.{Holding}
use Rattle.sd_receive.specs.Writing.{WriteOutcome, wrote_of, segment_in}
use Rattle.sd_receive.proofs.buffer.PacketBuffer.write.Goals as goal

pub returns-clause-value : goal.returns-clause-value
unfolding segment_in
returns-clause-value g c =
    subst (λ (held : Option Holding). WriteOutcome (wrote_of held c.args.ca c.args.ecm c.args.places.now)
    (sink_state_of g.K.Sink c.args.out.now) (sink_state_of g.K.Sink c.write.new.out) c.write.result)
    c.self.view_is (rw c.in-Some.is c.write.ensures.value)
