use Rattle.std.proofs.Common.{◌+◌, ◌≤◌, [], Bool, sym, subst}
use Rattle.std.specs.Prelude.{if◌then◌else◌}
use Rattle.sd_site_cards.specs.CardFields.{card_fields_of}
use Rattle.sd_receive.specs.Filter.{heard_as}
use Rattle.sd_receive.specs.Session.{heard_of_run, Judgement}
use Rattle.sd_receive.specs.Receiving.{takes_key_of}
use Rattle.sd_receive.specs.declared.filter.kind.PacketKind.{PacketKind}
use Rattle.sd_receive.proofs.Listening.{first_judged, first_steps, section_judged}
use Rattle.sd_receive.proofs.session.Session.judge.Goals as goal

pub returns-then-begins-clause-value : goal.returns-then-begins-clause-value
returns-then-begins-clause-value g c = λ packet past follows.
    let card = card_fields_of c.args.card.now in
    let n = c.args.number in
    let found = c.good_key_in.ensures in
    subst (λ (b : Bool). Judgement card n (heard_of_run b past) (heard_as n packet c.args.heard)
    c.good_key_in.new.key c.good_key_in.result)
    (sym c.if-begins.true)
    (subst (λ (h : PacketKind). Judgement card n [] (heard_as n packet h) c.good_key_in.new.key c.good_key_in.result)
    (sym c.in-Entitles.is)
    (first_judged card n c.in-Entitles.emm.now c.good_key_in.new.key c.good_key_in.result found.value found.fault))

pub returns-then-begins-clause-steps : goal.returns-then-begins-clause-steps
returns-then-begins-clause-steps g c = λ packet past follows.
    let card = card_fields_of c.args.card.now in
    let from = c.args.steps.now in
    let to = c.good_key_in.new.steps in
    let found = c.good_key_in.ensures in
    subst (λ (b : Bool). to ≤ from + (if takes_key_of card (heard_of_run b past)
    (heard_as c.args.number packet c.args.heard) then card.height else 0)) (sym c.if-begins.true)
    (subst (λ (h : PacketKind). to ≤ from + (if takes_key_of card [] (heard_as c.args.number packet h) then card.height
    else 0)) (sym c.in-Entitles.is)
    (first_steps card c.in-Entitles.emm.now from to card.height found.steps.1 found.unchanged))

pub returns-else-begins-clause-value : goal.returns-else-begins-clause-value
returns-else-begins-clause-value g c = λ packet past follows.
    let card = card_fields_of c.args.card.now in
    let n = c.args.number in
    let found = c.judge.ensures in
    subst (λ (b : Bool). Judgement card n (heard_of_run b past) (heard_as n packet c.args.heard)
    c.judge.new.key c.judge.result)
    (sym c.if-begins.false)
    (subst (λ (h : PacketKind). Judgement card n past (heard_as n packet h) c.judge.new.key c.judge.result)
    (sym c.in-Entitles.is)
    (section_judged card n past c.in-Entitles.emm.now c.args.self.now.keys c.judge.new.key c.judge.result
    follows.keys found.ok found.fault))
