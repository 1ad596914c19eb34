use Rattle.std.proofs.Common.{◌≡◌, ◌∙◌, ◌-◌, sym, ap, arith}
use Rattle.std.specs.Prelude.{find}
use Rattle.std.specs.Option.{option_map_or}
use Rattle.sd_spec.specs.declared.ending.Ending.TheVariants.{Gaps, Unclosed}
use Rattle.sd_spec.specs.Ending.{periods_told, is_unkeyed}
use Rattle.sd_receive.specs.PeriodKeys.{is_told_revoked}
use Rattle.sd_receive.proofs.Endings.{unclosed, closed, revoked_ending, unheard_ending, opened_ending, gaps_ending}
use Rattle.sd_receive.proofs.session.Session.ending.Goals as goal

pub returns-then-not-self : goal.returns-then-not-self
returns-then-not-self c = λ card past total follows written.
    ap Unclosed c.awaited.ensures ∙ unclosed card past total c.args.self.now follows c.if-not-self.true

pub returns-in-Some : goal.returns-in-Some
returns-in-Some c = λ card past total follows written.
    let l = c.args.self.now in
    revoked_ending (find (is_told_revoked card past) (periods_told past))
    (find (is_unkeyed card past) (periods_told past))
    (option_map_or (λ head. head.clear) l.assembler.last 0 - total) c.in-Some.period
    (sym (c.revoked.ensures card past follows.keys) ∙ c.in-Some.is)
    ∙ closed card past total l follows c.if-not-self.false

pub returns-in-Some-unkeyed : goal.returns-in-Some-unkeyed
returns-in-Some-unkeyed c = λ card past total follows written.
    let l = c.args.self.now in
    unheard_ending (find (is_told_revoked card past) (periods_told past))
    (find (is_unkeyed card past) (periods_told past))
    (option_map_or (λ head. head.clear) l.assembler.last 0 - total) c.in-Some-unkeyed.period
    (sym (c.revoked.ensures card past follows.keys) ∙ c.in_default.is)
    (sym (c.unkeyed.ensures card past follows.keys) ∙ c.in-Some-unkeyed.is)
    ∙ closed card past total l follows c.if-not-self.false

pub returns : goal.returns
returns c = λ card past total follows written.
    let l = c.args.self.now in
    let zero : c.missing-missing.result ≡ 0 = omega arith in
    opened_ending (find (is_told_revoked card past) (periods_told past))
    (find (is_unkeyed card past) (periods_told past)) (option_map_or (λ head. head.clear) l.assembler.last 0 - total)
    (sym (c.revoked.ensures card past follows.keys) ∙ c.in_default.is)
    (sym (c.unkeyed.ensures card past follows.keys) ∙ c.in_default-unkeyed.is)
    (sym (c.missing-missing.ensures total written) ∙ zero)
    ∙ closed card past total l follows c.if-not-self.false

pub returns-then-missing-gt0 : goal.returns-then-missing-gt0
returns-then-missing-gt0 c = λ card past total follows written.
    let l = c.args.self.now in
    let gaps = c.missing-missing.ensures total written in
    ap Gaps gaps
    ∙ (gaps_ending (find (is_told_revoked card past) (periods_told past))
    (find (is_unkeyed card past) (periods_told past)) (option_map_or (λ head. head.clear) l.assembler.last 0 - total)
    (sym (c.revoked.ensures card past follows.keys) ∙ c.in_default.is)
    (sym (c.unkeyed.ensures card past follows.keys) ∙ c.in_default-unkeyed.is)
    (λ none. absurd (omega (arith, gaps, none)))
    ∙ closed card past total l follows c.if-not-self.false)
