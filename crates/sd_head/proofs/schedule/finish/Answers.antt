use Rattle.std.proofs.lemmas.Result.{on_ok_weaker}
use Rattle.sd_head.specs.Kept.{plan_of}
use Rattle.sd_head.proofs.Starting.{first_at}
use Rattle.sd_head.proofs.schedule.finish.Goals as goal

pub returns-clause-value : goal.returns-clause-value
returns-clause-value g c =
    on_ok_weaker c.begin.result
    (first_at (plan_of c.args.site.now c.args.entitling.now.book) c.args.count c.begin.new.self c.if-count-ne0.false)
    c.begin.ensures.value
