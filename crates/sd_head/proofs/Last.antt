-- The period and the control word of the last packet.
use Rattle.std.proofs.Common.{◌≡◌, ℕ, zero, suc, ◌-◌, ◌*◌, ◌/◌, List, refl, subst, arith}
use Rattle.std.proofs.Common.{ap}
use Rattle.std.proofs.Math.Nat.{zero-div}
use Rattle.sd_site_cards.specs.SiteFields.{SiteFields}
use Rattle.sd_spec.specs.Plan.{Plan, crypto_of, period_in, period_of, word_of}
use Rattle.sd_head.specs.Crypto.{crypto_in}
use Rattle.sd_head.specs.Kept.{IsPeriodState}
use Rattle.sd_head.specs.Schedule.{IsPeriodAt}
use Rattle.sd_head.specs.declared.crypto.CryptoPeriod.{CryptoPeriod}
use Rattle.sd_head.specs.declared.entitling.Entitling.{Entitling}

-- those of the first packet
pub first_period_is : (plan : Plan) → plan.site.first_period ≡ period_of plan 0
unfolding period_of period_in crypto_of
first_period_is plan =
    let none : 0 / (plan.site.every * plan.site.cryptos) ≡ 0 = zero-div (plan.site.every * plan.site.cryptos) in
    let still : 0 / plan.site.span ≡ 0 = zero-div plan.site.span in
    rw none (rw still (omega arith))

pub first_word_is : (site : SiteFields) → site.first_word ≡ word_of site 0
unfolding word_of crypto_of
first_word_is site =
    let none : 0 / (site.every * site.cryptos) ≡ 0 = zero-div (site.every * site.cryptos) in
    rw none (omega arith)

-- after some packets the crypto period of the last is at work
pub at_last : (plan : Plan) (k : ℕ) (entitling : Entitling) → IsPeriodAt plan k entitling → (k ≡ 0 → ⊥) →
    IsPeriodState plan (crypto_of plan.site (k - 1)) entitling
at_last plan zero entitling at some = absurd (some refl)
at_last plan (suc k) entitling at some =
    let last : k ≡ suc k - 1 = omega arith in
    subst (λ (n : ℕ). IsPeriodState plan (crypto_of plan.site n) entitling) last at

pub crypto_period : (crypto : CryptoPeriod) (master : List ℕ) (q t : ℕ) → crypto ≡ crypto_in master q t →
    crypto.period ≡ q
unfolding crypto_in
crypto_period crypto master q t is = ap (λ (c : CryptoPeriod). c.period) is

pub period_is : (plan : Plan) (k : ℕ) → period_in plan (crypto_of plan.site k) ≡ period_of plan k
unfolding period_of
period_is plan k = refl
