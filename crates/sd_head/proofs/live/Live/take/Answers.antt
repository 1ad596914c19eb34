use Rattle.std.proofs.Common.{refl, sym, ◌∙◌}
use Rattle.sd_engine.specs.Stage.{sink_state_of}
use Rattle.sd_head.specs.Live.{live_takes}
use Rattle.sd_head.specs.declared.live.Taken.TheVariants.{On}
use Rattle.sd_head.proofs.Going.{leaves_taken, marked_taken}
use Rattle.sd_head.proofs.Offering.{grown_nothing}
use Rattle.sd_head.proofs.live.Live.take.Goals as goal

pub returns-then-is_marked-clause-value : goal.returns-then-is_marked-clause-value
returns-then-is_marked-clause-value g c =
    grown_nothing (live_takes c.args.self.now c.args.packet.now c.mark.new.self On)
    (sink_state_of g.K.Sink c.args.out.now) (sink_state_of g.K.Sink c.args.out.now) c.args.steps.now c.args.steps.now
    refl
    (marked_taken c.args.self.now c.mark.new.self c.args.packet.now c.args.steps.now
    (sym c.is_marked.ensures ∙ c.if-is_marked.true) c.mark.ensures.same c.mark.ensures.left_out
    c.mark.ensures.packets)

pub returns-in-Err-clause-value : goal.returns-in-Err-clause-value
returns-in-Err-clause-value g c =
    grown_nothing (live_takes c.args.self.now c.args.packet.now c.leave_out.new.self c.leave_out.result)
    (sink_state_of g.K.Sink c.args.out.now) (sink_state_of g.K.Sink c.args.out.now) c.args.steps.now c.args.steps.now
    refl
    (leaves_taken c.args.self.now c.leave_out.new.self c.args.packet.now c.judge.result c.in-Err.fault
    c.leave_out.result c.args.steps.now (sym c.is_marked.ensures ∙ c.if-is_marked.false) c.judge.ensures c.in-Err.is
    c.leave_out.ensures)
