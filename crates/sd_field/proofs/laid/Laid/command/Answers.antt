use Rattle.std.proofs.Common.{arith, ◌≡◌, ◌∙◌, ◌<◌, ◌≤◌, ◌++◌, ◌∷◌, [], ℕ, List, OnOk, ap, sym, subst}
use Rattle.sd_site_cards.specs.SiteFields.{site_fields_of}
use Rattle.sd_book.specs.Limits.{IsDraft, IsWithinLimits}
use Rattle.sd_book.specs.declared.command.Command.{Command}
use Rattle.sd_book.proofs.Judged.{within_is_draft}
use Rattle.sd_spec.specs.Book.{with_periods_to, period_after}
use Rattle.sd_field.proofs.Laying.{command_beyond, command_within, front_within}
use Rattle.sd_field.proofs.laid.Laid.command.Goals as goal

pub returns-then-period-from-clause-value : goal.returns-then-period-from-clause-value
returns-then-period-from-clause-value c =
    let above = c.if-period-from.true in
    let most = c.from.ensures in
    let q : ℕ = period_after (site_fields_of c.args.site.now) c.args.self.now.sends in
    let same : c.period_after-period.result ≡ q = c.period_after-period.ensures in
    let high : 1023 < q = omega (arith, above, most, same) in
    command_beyond q c.args.command c.args.self.now.draft.commands high

pub returns-clause-value : goal.returns-clause-value
returns-clause-value c =
    let within = c.if-period-from.false in
    let most = c.from.ensures in
    let q : ℕ = period_after (site_fields_of c.args.site.now) c.args.self.now.sends in
    let same : c.period_after-period.result ≡ q = c.period_after-period.ensures in
    let low : q ≤ 1023 = omega (arith, within, most, same) in
    let old : List Command = c.args.self.now.draft.commands in
    let full : c.fill.new.self.draft.commands ≡ with_periods_to q old =
    c.in_ok-fill.ensures.value ∙ ap (λ (p : ℕ). with_periods_to p old) same in
    subst (λ (xs : List Command). OnOk c.push.result (c.push.new.draft.commands ≡ xs))
    (ap (λ (xs : List Command). xs ++ c.args.command ∷ []) full ∙ command_within q c.args.command old low)
    c.push.ensures.value

pub fill-requires-clause-fits : goal.fill-requires-clause-fits
fill-requires-clause-fits c =
    let within = c.if-period-from.false in
    let most = c.from.ensures in
    let q : ℕ = period_after (site_fields_of c.args.site.now) c.args.self.now.sends in
    let same : c.period_after-period.result ≡ q = c.period_after-period.ensures in
    let low : q ≤ 1023 = omega (arith, within, most, same) in
    let old = c.args.self.now.draft in
    subst (λ (p : ℕ). IsWithinLimits old.height (with_periods_to p old.commands)) (sym same)
    (front_within old.height (with_periods_to q old.commands) (c.args.command ∷ []) c.requires.low
    (subst (IsWithinLimits old.height) (sym (command_within q c.args.command old.commands low)) c.requires.fits))

pub push-requires-clause-fits : goal.push-requires-clause-fits
push-requires-clause-fits c =
    let within = c.if-period-from.false in
    let most = c.from.ensures in
    let q : ℕ = period_after (site_fields_of c.args.site.now) c.args.self.now.sends in
    let same : c.period_after-period.result ≡ q = c.period_after-period.ensures in
    let low : q ≤ 1023 = omega (arith, within, most, same) in
    let old = c.args.self.now.draft in
    let full : c.fill.new.self.draft.commands ≡ with_periods_to q old.commands =
    c.in_ok-fill.ensures.value ∙ ap (λ (p : ℕ). with_periods_to p old.commands) same in
    subst (λ (d : ℕ). IsDraft d (c.fill.new.self.draft.commands ++ c.args.command ∷ [])) (sym c.fill.ensures.height)
    (subst (λ (xs : List Command). IsDraft old.height (xs ++ c.args.command ∷ [])) (sym full)
    (within_is_draft old.height (with_periods_to q old.commands ++ c.args.command ∷ [])
    (subst (IsWithinLimits old.height) (sym (command_within q c.args.command old.commands low)) c.requires.fits)))
