use Rattle.std.proofs.Common.{sym, ap, ◌∙◌, Ok}
use Rattle.sd_site_cards.specs.declared.card.Card.{Card}
use Rattle.sd_site_cards.specs.CardFields.{card_fields_of}
use Rattle.sd_command_base.proofs.CardFaults.{card_refused}
use Rattle.sd_run_broadcasts.specs.Receive.{card_said, card_refusal}
use Rattle.sd_run_broadcasts.proofs.Cards.{card_read}
use Rattle.sd_run_broadcasts.proofs.watch_command.judge_card.Goals as goal

pub returns-in_ok-new-in-Ok-clause-value : goal.returns-in_ok-new-in-Ok-clause-value
returns-in_ok-new-in-Ok-clause-value c =
    let spelled = c.in-Ok.ensures.sound in
    card_read c.args.word c.args.bytes.now (card_fields_of c.in-Ok.card) spelled.0 spelled.1
    ∙ ap (λ (card : Card). Ok (card_fields_of card)) (sym c.in_ok-new-in-Ok.ensures.card)

pub returns-in-Err-clause-value : goal.returns-in-Err-clause-value
unfolding card_refusal
returns-in-Err-clause-value c =
    card_refused c.args.word c.args.bytes.now (card_said c.args.bytes.now) c.in-Err.fault c.card_fault.result
    c.card_fault.ensures c.in-Err.ensures.fault
