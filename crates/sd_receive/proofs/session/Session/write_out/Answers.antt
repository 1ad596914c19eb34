use Rattle.std.proofs.Common.{◌≡◌, refl, ap, subst, arith, ℕ}
use Rattle.std.specs.Prelude.{Err}
use Rattle.sd_base.specs.Count.{with_added}
use Rattle.sd_site_cards.specs.CardFields.{card_fields_of}
use Rattle.sd_engine.specs.Stage.{sink_state_of}
use Rattle.sd_receive.specs.Writing.{WriteOutcome}
use Rattle.sd_receive.specs.declared.buffer.BufferFault.{BufferFault}
use Rattle.sd_receive.specs.Buffered.{pair_wrote}
use Rattle.sd_receive.proofs.Messages.{counting, parity_message, word_message, taken_message, cut_message}
use Rattle.sd_receive.proofs.Messages.{caused_by_neither}
use Rattle.sd_receive.proofs.session.Session.write_out.Goals as goal

pub returns-in-Ok-open-clause-value : goal.returns-in-Ok-open-clause-value
unfolding counting
returns-in-Ok-open-clause-value g c =
    let s = c.args.self.now in
    let head = c.args.head.now in
    let added : c.saturating_add-self.result ≡ with_added s.written c.in-Ok.count =
    omega (arith, c.open.ensures.written) in
    taken_message (card_fields_of c.args.card.now) c.args.tuning c.args.number head s c.open.new.self _
    (pair_wrote s.assembler.last s.buffer head.since c.args.card.now.ca c.args.tuning.ecm
    s.assembler.coming.places.items)
    c.in-Ok.count
    (sink_state_of g.K.Sink c.args.out.now) (sink_state_of g.K.Sink c.write.new.out) refl c.in-Ok.ensures.value
    (λ past part done. c.in-Ok-open.ensures.value c.args.number (card_fields_of c.args.card.now) past part done
    c.requires.word)
    (ap (λ (n : ℕ). counting c.open.new.self n) added)

pub returns-in-Err-clause-value : goal.returns-in-Err-clause-value
returns-in-Err-clause-value g c =
    let s = c.args.self.now in
    let head = c.args.head.now in
    word_message (card_fields_of c.args.card.now) c.args.tuning c.args.number head s c.open.new.self
    (pair_wrote s.assembler.last s.buffer head.since c.args.card.now.ca c.args.tuning.ecm
    s.assembler.coming.places.items)
    c.in-Err.fault
    c.in-Ok.count (sink_state_of g.K.Sink c.args.out.now) (sink_state_of g.K.Sink c.write.new.out) refl
    c.in-Ok.ensures.value
    (λ past part done. c.in-Err.ensures.value c.args.number (card_fields_of c.args.card.now) past part done
    c.requires.word)

pub returns-in-Err-Parity-clause-value : goal.returns-in-Err-Parity-clause-value
returns-in-Err-Parity-clause-value g c =
    let s = c.args.self.now in
    let head = c.args.head.now in
    parity_message (card_fields_of c.args.card.now) c.args.tuning c.args.number head s
    (pair_wrote s.assembler.last s.buffer head.since c.args.card.now.ca c.args.tuning.ecm
    s.assembler.coming.places.items)
    c.in-Err-Parity.held
    (sink_state_of g.K.Sink c.args.out.now) (sink_state_of g.K.Sink c.write.new.out) refl
    (subst (λ (f : BufferFault). WriteOutcome (pair_wrote s.assembler.last s.buffer head.since c.args.card.now.ca
    c.args.tuning.ecm s.assembler.coming.places.items)
    (sink_state_of g.K.Sink c.args.out.now) (sink_state_of g.K.Sink c.write.new.out) (Err f)) c.in-Err-Parity.field-0-is
    c.in-Err-Parity.ensures.value)

pub returns-in-Err-Write-clause-value : goal.returns-in-Err-Write-clause-value
returns-in-Err-Write-clause-value g c =
    let s = c.args.self.now in
    let head = c.args.head.now in
    cut_message (card_fields_of c.args.card.now) c.args.tuning c.args.number head s c.open-in-Err-Write.new.self
    (pair_wrote s.assembler.last s.buffer head.since c.args.card.now.ca c.args.tuning.ecm
    s.assembler.coming.places.items)
    c.open-in-Err-Write.result (sink_state_of g.K.Sink c.args.out.now) (sink_state_of g.K.Sink c.write.new.out) refl
    (λ past part done. c.open-in-Err-Write.ensures.value c.args.number (card_fields_of c.args.card.now) past part done
    c.requires.word)
    (subst (λ (f : BufferFault). WriteOutcome (pair_wrote s.assembler.last s.buffer head.since c.args.card.now.ca
    c.args.tuning.ecm s.assembler.coming.places.items)
    (sink_state_of g.K.Sink c.args.out.now) (sink_state_of g.K.Sink c.write.new.out) (Err f)) c.in-Err-Write.field-0-is
    c.in-Err-Write.ensures.value)

pub returns-in-Ok-open-clause-cause : goal.returns-in-Ok-open-clause-cause
returns-in-Ok-open-clause-cause g c = caused_by_neither _ _ _ _ c.in-Ok.ensures.cause
    (λ failed. absurd (grind (arith, failed))) (λ failed. absurd (grind (arith, failed)))

pub returns-in-Err-clause-cause : goal.returns-in-Err-clause-cause
returns-in-Err-clause-cause g c = caused_by_neither _ _ _ _ c.in-Ok.ensures.cause
    (λ failed. absurd (grind (arith, failed))) (λ failed. absurd (grind (arith, failed)))
