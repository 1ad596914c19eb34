use Rattle.sd_engine.specs.Stage.{sink_state_of}
use Rattle.sd_watch.proofs.Watched.{passed_watched, taken_if_ok, cut_watched}
use Rattle.sd_watch.proofs.watcher.Watcher.watch.Goals as goal

-- src/watching.rt:57:5
pub returns-in-Some-clause-value : goal.returns-in-Some-clause-value
returns-in-Some-clause-value g c =
    passed_watched (sink_state_of g.K.Sink c.args.out.now) c.args.steps.now c.args.self.now c.pass_over.new.self
    c.args.packet.now c.in-Some.reason c.in-Some.ensures c.pass_over.ensures.kept c.pass_over.ensures.same

-- src/watching.rt:57:5
pub returns-in-None-clause-value : goal.returns-in-None-clause-value
returns-in-None-clause-value g c =
    taken_if_ok (sink_state_of g.K.Sink c.args.out.now) (sink_state_of g.K.Sink c.take.new.out) c.args.steps.now
    c.take.new.steps
    c.args.self.now c.take.new.self c.args.packet.now c.take.result c.in-None.ensures c.take.ensures.value

-- src/watching.rt:57:5
pub returns-in-None-clause-prefix : goal.returns-in-None-clause-prefix
returns-in-None-clause-prefix g c is =
    cut_watched (sink_state_of g.K.Sink c.args.out.now) (sink_state_of g.K.Sink c.take.new.out) c.args.steps.now
    c.take.new.steps
    c.args.self.now c.args.packet.now c.in-None.ensures (c.take.ensures.prefix is)
