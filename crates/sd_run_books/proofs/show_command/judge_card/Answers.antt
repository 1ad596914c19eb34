use Rattle.std.proofs.Common.{string_bytes}
use Rattle.sd_site_cards.specs.CardFields.{card_fields_of}
use Rattle.sd_command_base.proofs.CardFaults.{card_refused}
use Rattle.sd_run_books.specs.Show.{shown_card_line, told_show}
use Rattle.sd_run_books.proofs.ShownCards.{has_key, line_read}
use Rattle.sd_run_books.proofs.show_command.judge_card.Goals as goal

pub line_of-requires : goal.line_of-requires
line_of-requires c = has_key c.args.bytes.now c.in-Ok.ensures.fault

pub returns-in_ok-line_of-in-Ok : goal.returns-in_ok-line_of-in-Ok
returns-in_ok-line_of-in-Ok c =
    let spelled = c.in-Ok.ensures.sound in
    line_read c.args.word c.args.bytes.now (string_bytes c.in_ok-line_of-in-Ok.field-0) (card_fields_of c.in-Ok.card)
    spelled.0 spelled.1 c.in-Ok.ensures.fault c.in_ok-line_of-in-Ok.ensures

pub returns-in-Err : goal.returns-in-Err
unfolding told_show
returns-in-Err c =
    card_refused c.args.word c.args.bytes.now (shown_card_line c.args.bytes.now) c.in-Err.fault c.card_fault.result
    c.card_fault.ensures c.in-Err.ensures.fault
