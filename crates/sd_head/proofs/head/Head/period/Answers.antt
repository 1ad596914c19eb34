use Rattle.std.proofs.Common.{◌≡◌, ◌-◌, length, ap, ◌∙◌, arith}
use Rattle.sd_spec.specs.Plan.{Plan, crypto_of, period_in, period_of, word_in}
use Rattle.sd_head.specs.declared.crypto.CryptoPeriod.{CryptoPeriod}
use Rattle.sd_head.proofs.Last.{at_last, crypto_period, first_period_is, period_is}
use Rattle.sd_head.proofs.head.Head.period.Goals as goal

pub returns-then-count-eq0 : goal.returns-then-count-eq0
returns-then-count-eq0 c = λ plan before after.
    let none : 0 ≡ length before - 1 =
    omega (arith, c.if-count-eq0.true, c.count.ensures, after.clear_is.number) in
    ap (λ (p : Plan). p.site.first_period) after.keeps_to ∙ (first_period_is plan ∙ ap (period_of plan) none)

pub returns-else-count-eq0 : goal.returns-else-count-eq0
returns-else-count-eq0 c = λ plan before after.
    let entitling = c.args.self.now.entitling in
    let n = crypto_of plan.site (length before - 1) in
    let at = at_last plan (length before) entitling after.entitled
    (λ none. c.if-count-eq0.false (c.count.ensures ∙ (after.clear_is.number ∙ none))) in
    ap (λ (x : CryptoPeriod). x.period) c.crypto.ensures
    ∙ (crypto_period entitling.crypto plan.site.master (period_in plan n) (word_in plan.site n) at.crypto
    ∙ period_is plan (length before - 1))
