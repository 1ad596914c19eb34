use Rattle.std.proofs.Common.{refl}
use Rattle.sd_head.specs.Kept.{plan_of}
use Rattle.sd_head.proofs.Periods.{period_is, at_work}
use Rattle.sd_head.proofs.entitling.Entitling.begin.Goals as goal

pub reach_period-requires-clause-period : goal.reach_period-requires-clause-period
reach_period-requires-clause-period g c =
    period_is (plan_of c.args.site.now c.args.self.now.book) c.args.n c.min.result c.saturating_sub.result
    c.last_period-last.result c.min.ensures c.saturating_sub.ensures c.last_period-last.ensures.value

pub returns-clause-value : goal.returns-clause-value
returns-clause-value g c =
    at_work (plan_of c.args.site.now c.args.self.now.book) c.args.n _ c.reach_period.new.self _
    c.in_ok-reach_period.ensures.value (period_is (plan_of c.args.site.now c.args.self.now.book) c.args.n c.min.result
    c.saturating_sub.result c.last_period-last.result c.min.ensures c.saturating_sub.ensures
    c.last_period-last.ensures.value)
    refl refl refl refl c.new-self.ensures
