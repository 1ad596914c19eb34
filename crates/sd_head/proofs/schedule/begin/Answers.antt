use Rattle.std.proofs.Common.{◌≡◌, ◌+◌, ◌%◌, ◌^◌, ◌<◌, ℕ, true, refl, sym, subst, eq-eqb, ne_eqb, arith}
use Rattle.std.proofs.Math.Nat.{div-div-eq-div-mul}
use Rattle.sd_site_cards.specs.SiteFields.{site_fields_of}
use Rattle.sd_spec.specs.Plan.{crypto_length}
use Rattle.sd_head.specs.Kept.{plan_of, begins_period, IsBeforePeriod, IsPeriodState}
use Rattle.sd_head.proofs.Starting.{starts, stays, word_begins, begun_at, begins_there, on_err_holds}
use Rattle.sd_head.proofs.Starting.{no_message, later_message, first_message, message_stands_at, no_message_stands}
use Rattle.sd_head.proofs.schedule.begin.Goals as goal

pub returns-then-k-site-ne0-clause-value : goal.returns-then-k-site-ne0-clause-value
returns-then-k-site-ne0-clause-value g c =
    let site = c.args.site.now in
    stays (plan_of site c.args.entitling.now.book) c.args.k (crypto_length (site_fields_of site)) c.args.entitling.now
    c.requires.at refl
    (no_message (site_fields_of site) c.args.k (omega (arith, site.every_in.0)) (omega (arith, site.cryptos_in.0))
    c.if-k-site-ne0.true)

pub returns-then-k-site-ne0-clause-message : goal.returns-then-k-site-ne0-clause-message
returns-then-k-site-ne0-clause-message g c =
    no_message_stands (site_fields_of c.args.site.now) c.args.k c.if-k-site-ne0.true

pub returns-then-k-site-ne0-clause-begins : goal.returns-then-k-site-ne0-clause-begins
returns-then-k-site-ne0-clause-begins g c =
    let site = c.args.site.now in
    sym (ne_eqb (c.args.k % crypto_length (site_fields_of site)) 0
    (no_message (site_fields_of site) c.args.k (omega (arith, site.every_in.0)) (omega (arith, site.cryptos_in.0))
    c.if-k-site-ne0.true))

pub returns-then-number-site-ne0-clause-value : goal.returns-then-number-site-ne0-clause-value
returns-then-number-site-ne0-clause-value g c =
    let site = c.args.site.now in
    stays (plan_of site c.args.entitling.now.book) c.args.k (crypto_length (site_fields_of site)) c.args.entitling.now
    c.requires.at refl
    (later_message (site_fields_of site) c.args.k (omega (arith, site.every_in.0)) (omega (arith, site.cryptos_in.0))
    c.if-number-site-ne0.true)

pub returns-then-number-site-ne0-clause-message : goal.returns-then-number-site-ne0-clause-message
returns-then-number-site-ne0-clause-message g c =
    message_stands_at (site_fields_of c.args.site.now) c.args.k c.if-k-site-ne0.false

pub returns-then-number-site-ne0-clause-begins : goal.returns-then-number-site-ne0-clause-begins
returns-then-number-site-ne0-clause-begins g c =
    let site = c.args.site.now in
    sym (ne_eqb (c.args.k % crypto_length (site_fields_of site)) 0
    (later_message (site_fields_of site) c.args.k (omega (arith, site.every_in.0)) (omega (arith, site.cryptos_in.0))
    c.if-number-site-ne0.true))

pub begin-requires-clause-before : goal.begin-requires-clause-before
begin-requires-clause-before g c =
    let site = c.args.site.now in
    let plan = plan_of site c.args.entitling.now.book in
    subst (λ (n : ℕ). IsBeforePeriod plan n c.args.entitling.now)
    (sym (div-div-eq-div-mul c.args.k site.every site.cryptos))
    (starts plan c.args.k (crypto_length (site_fields_of site)) c.args.entitling.now c.requires.at refl
    (first_message (site_fields_of site) c.args.k (omega (arith, site.every_in.0)) (omega (arith, site.cryptos_in.0))
    c.if-k-site-ne0.false c.if-number-site-ne0.false))

pub begin-requires-clause-fits : goal.begin-requires-clause-fits
begin-requires-clause-fits g c =
    let site = c.args.site.now in
    subst (λ (n : ℕ). site.first_word + n < 2 ^ 32) (sym (div-div-eq-div-mul c.args.k site.every site.cryptos))
    (word_begins (plan_of site c.args.entitling.now.book) c.args.k (crypto_length (site_fields_of site)) refl
    c.requires.word)

pub returns-clause-value : goal.returns-clause-value
returns-clause-value g c =
    let site = c.args.site.now in
    let plan = plan_of site c.args.entitling.now.book in
    begun_at plan c.args.k (crypto_length (site_fields_of site)) c.begin.new.self refl
    (subst (λ (n : ℕ). IsPeriodState plan n c.begin.new.self) (div-div-eq-div-mul c.args.k site.every site.cryptos)
    c.in_ok-begin.ensures.value)

pub returns-clause-message : goal.returns-clause-message
returns-clause-message g c = message_stands_at (site_fields_of c.args.site.now) c.args.k c.if-k-site-ne0.false

pub returns-clause-begins : goal.returns-clause-begins
returns-clause-begins g c =
    let site = c.args.site.now in
    sym (eq-eqb (c.args.k % crypto_length (site_fields_of site)) 0
    (first_message (site_fields_of site) c.args.k (omega (arith, site.every_in.0)) (omega (arith, site.cryptos_in.0))
    c.if-k-site-ne0.false c.if-number-site-ne0.false))

pub returns-in_err-begin-clause-fault : goal.returns-in_err-begin-clause-fault
returns-in_err-begin-clause-fault g c =
    let site = c.args.site.now in
    let plan = plan_of site c.args.entitling.now.book in
    on_err_holds c.from_residual.result _
    (begins_there plan c.args.k (crypto_length (site_fields_of site)) refl
    (first_message (site_fields_of site) c.args.k (omega (arith, site.every_in.0)) (omega (arith, site.cryptos_in.0))
    c.if-k-site-ne0.false c.if-number-site-ne0.false)
    (subst (λ (n : ℕ). begins_period plan n ≡ true) (div-div-eq-div-mul c.args.k site.every site.cryptos)
    c.in_err-begin.ensures.fault))
