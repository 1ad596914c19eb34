use Rattle.std.proofs.Common.{◌∙◌, ℕ, min, ap, sym, subst, arith}
use Rattle.sd_book.specs.Commands.{last_period}
use Rattle.sd_head.specs.Kept.{plan_of, IsInPeriod}
use Rattle.sd_head.proofs.Periods.{still_at_work, begun_is, on_err_always}
use Rattle.sd_head.proofs.entitling.Entitling.reach_period.Goals as goal

pub returns-then-next_period-p-clause-value : goal.returns-then-next_period-p-clause-value
returns-then-next_period-p-clause-value g c =
    let plan = plan_of c.args.site.now c.args.self.now.book in
    subst (λ (q : ℕ). IsInPeriod plan q c.args.self.now) (sym c.requires.period)
    (still_at_work plan c.args.n c.args.p c.args.self.now c.requires.before
    (c.requires.decided ∙ ap (λ (q : ℕ). min q (last_period plan.commands)) c.requires.period)
    (omega (arith, c.if-next_period-p.true, c.next_period.ensures)))

pub returns-clause-fault : goal.returns-clause-fault
returns-clause-fault g c =
    let plan = plan_of c.args.site.now c.args.self.now.book in
    on_err_always c.begin_period.result (begun_is plan c.args.n c.args.p c.args.self.now c.requires.before
    (c.requires.decided ∙ ap (λ (q : ℕ). min q (last_period plan.commands)) c.requires.period)
    (omega (arith, c.if-next_period-p.false, c.next_period.ensures)))
