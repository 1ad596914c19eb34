use Rattle.std.proofs.Common.{◌∙◌, subst, sym, List, ℕ}
use Rattle.std.specs.Prelude.{Option}
use Rattle.sd_site_cards.specs.CardFields.{card_fields_of}
use Rattle.sd_engine.specs.Stage.{sink_state_of}
use Rattle.sd_receive.specs.Session.{IsWordTold}
use Rattle.sd_receive.proofs.Strays.{word_first, word_not_first}
use Rattle.sd_receive.proofs.session.Session.complete.Goals as goal

pub write_out-requires-clause-word : goal.write_out-requires-clause-word
write_out-requires-clause-word g c =
    subst (λ (key : Option (List ℕ)). IsWordTold c.args.number c.args.head.now key c.word_of-word.result)
    c.key_of.ensures c.word_of-word.ensures

pub returns-in-Some-clause-value : goal.returns-in-Some-clause-value
returns-in-Some-clause-value g c =
    word_first c.args.strict (card_fields_of c.args.card.now) c.args.tuning c.args.number c.args.head.now
    c.args.self.now c.word_of-word.result c.in-Some.fault (sink_state_of g.K.Sink c.args.out.now)
    (sym c.early_fault.ensures ∙ c.in-Some.is)
    (subst (λ (key : Option (List ℕ)). IsWordTold c.args.number c.args.head.now key c.word_of-word.result)
    c.key_of.ensures c.word_of-word.ensures)

pub returns-in-None-clause-value : goal.returns-in-None-clause-value
returns-in-None-clause-value g c =
    word_not_first c.args.strict (card_fields_of c.args.card.now) c.args.tuning c.args.number c.args.head.now
    c.args.self.now c.write_out.new.self c.word_of-word.result (sink_state_of g.K.Sink c.args.out.now)
    (sink_state_of g.K.Sink c.write_out.new.out) c.write_out.result (sym c.early_fault.ensures ∙ c.in-None.is)
    (subst (λ (key : Option (List ℕ)). IsWordTold c.args.number c.args.head.now key c.word_of-word.result)
    c.key_of.ensures c.word_of-word.ensures)
    c.write_out.ensures.value
