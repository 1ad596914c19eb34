use Rattle.std.proofs.Common.{◌∙◌, sym, arith, ◌≤◌}
use Rattle.sd_site_cards.specs.CardFields.{card_fields_of}
use Rattle.sd_spec.specs.Stretches.{current}
use Rattle.sd_spec.specs.Keys.{key_from}
use Rattle.sd_receive.specs.PeriodKeys.{key_kept}
use Rattle.sd_receive.proofs.Judging.{differs_is, past_offering, mixed_offering, judged_past, judged_known}
use Rattle.sd_receive.proofs.Judging.{judged_key, good_offering, key_faults, steps_within, known_offers, unknown_none}
use Rattle.sd_receive.proofs.Judging.{steps_counted}
use Rattle.sd_receive.proofs.emm.PeriodKeys.judge.Goals as goal

pub returns-then-emm-self-clause-ok : goal.returns-then-emm-self-clause-ok
returns-then-emm-self-clause-ok g c tr is =
    judged_past _ c.args.number tr c.args.emm.now c.args.key.now (omega (arith, c.if-emm-self.true, is.period))

pub returns-then-emm-self-clause-fault : goal.returns-then-emm-self-clause-fault
returns-then-emm-self-clause-fault g c tr is =
    past_offering _ c.args.number tr c.args.emm.now (omega (arith, c.if-emm-self.true, is.period))

pub returns-then-differs-clause-fault : goal.returns-then-differs-clause-fault
returns-then-differs-clause-fault g c tr is =
    let h : current tr ≤ c.args.emm.now.period = omega (arith, c.if-emm-self.false, is.period) in
    mixed_offering _ c.args.number tr c.args.emm.now h
    (sym (differs_is _ tr c.args.self.now is c.args.emm.now h) ∙ (sym c.differs.ensures ∙ c.if-differs.true))

pub returns-then-knows_key-clause-ok : goal.returns-then-knows_key-clause-ok
returns-then-knows_key-clause-ok g c tr is =
    let h : current tr ≤ c.args.emm.now.period = omega (arith, c.if-emm-self.false, is.period) in
    judged_known _ c.args.number tr c.args.emm.now c.args.self.now is h
    (sym c.differs.ensures ∙ c.if-differs.false) c.args.key.now (sym c.knows_key.ensures ∙ c.if-knows_key.true)

pub returns-then-knows_key-clause-fault : goal.returns-then-knows_key-clause-fault
returns-then-knows_key-clause-fault g c tr is =
    let h : current tr ≤ c.args.emm.now.period = omega (arith, c.if-emm-self.false, is.period) in
    good_offering _ c.args.number tr c.args.emm.now c.args.self.now is h
    (sym c.differs.ensures ∙ c.if-differs.false)
    (known_offers c.args.number c.args.emm.now (key_kept c.args.self.now c.args.emm.now.period)
    (key_from (card_fields_of c.args.card.now) c.args.emm.now) (sym c.knows_key.ensures ∙ c.if-knows_key.true))

pub returns-clause-ok : goal.returns-clause-ok
returns-clause-ok g c =
    judged_key _ c.args.number c.args.emm.now c.args.self.now c.good_key_in.new.key c.good_key_in.result
    (λ tr is. omega (arith, c.if-emm-self.false, is.period))
    (sym c.differs.ensures ∙ c.if-differs.false)
    (unknown_none _ (sym c.knows_key.ensures ∙ c.if-knows_key.false)) c.good_key_in.ensures.value
    c.good_key_in.ensures.fault

pub returns-clause-fault : goal.returns-clause-fault
returns-clause-fault g c tr is =
    let h : current tr ≤ c.args.emm.now.period = omega (arith, c.if-emm-self.false, is.period) in
    key_faults _ c.args.number tr c.args.emm.now c.args.self.now is h
    (sym c.differs.ensures ∙ c.if-differs.false) c.good_key_in.result
    (unknown_none _ (sym c.knows_key.ensures ∙ c.if-knows_key.false)) c.good_key_in.ensures.fault

pub returns-clause-steps : goal.returns-clause-steps
returns-clause-steps g c tr is =
    let h : current tr ≤ c.args.emm.now.period = omega (arith, c.if-emm-self.false, is.period) in
    steps_within _ tr c.args.emm.now c.args.self.now is h _ _ _
    (steps_counted (key_kept c.args.self.now c.args.emm.now.period) _ _ _ _
    (unknown_none _ (sym c.knows_key.ensures ∙ c.if-knows_key.false))
    c.good_key_in.ensures.steps.1 c.good_key_in.ensures.unchanged)
