use Rattle.std.proofs.Common.{◌≡◌, ◌∙◌, ℕ, refl, sym, ap, subst}
use Rattle.std.proofs.lemmas.Result.{on_ok_weaker}
use Rattle.sd_head.specs.Kept.{plan_of, revoked_before}
use Rattle.sd_book.specs.Commands.{revoked}
use Rattle.sd_head.proofs.Periods.{in_period}
use Rattle.sd_head.proofs.entitling.Entitling.begin_period.Goals as goal

pub returns-clause-value : goal.returns-clause-value
returns-clause-value g c =
    let plan = plan_of c.args.site.now c.args.self.now.book in
    let before = c.requires.before in
    let kept : c.take_periods.new.index.revoked ≡ revoked plan.site.height plan.commands c.args.p =
    subst (λ (d : ℕ). c.take_periods.new.index.revoked ≡ revoked d plan.commands c.args.p) before.of_height
    (c.in_ok-take_periods.ensures.value (before.revoked_are
    ∙ ap (λ (d : ℕ). revoked_before d plan.commands c.args.self.now.place.next) (sym before.of_height))) in
    on_ok_weaker c.pack_period.result
    (λ emms. in_period plan c.args.self.now.place.next c.args.p c.args.q c.args.self.now _ before c.requires.decided
    refl c.take_periods.ensures.place c.in_ok-take_periods.ensures.next c.take_periods.ensures.height kept emms)
    c.pack_period.ensures
