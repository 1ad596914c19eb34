use Rattle.std.proofs.Common.{refl, string_bytes}
use Rattle.std.proofs.lemmas.Result.{err_from_is_err_and}
use Rattle.sd_command_base.specs.Outside.{depot_state, page_state}
use Rattle.sd_command_base.specs.Spec.{value}
use Rattle.sd_command_base.specs.Outcome.{status_of}
use Rattle.sd_command_base.specs.Work.{work_of_text}
use Rattle.sd_command_base.proofs.Texts.{text_prints}
use Rattle.sd_command_base.proofs.Follow.{looks_follows, looks_reads, prints_follows}
use Rattle.sd_command_base.specs.Shown.{shown_word}
use Rattle.sd_run_books.specs.Show.{line_of_file, show_meaning}
use Rattle.sd_run_books.proofs.show_command.show.Goals as goal

-- the card was refused, or not read
pub returns-in_err-line : goal.returns-in_err-line
returns-in_err-line g c steps =
    let p = err_from_is_err_and c.from_residual.result c.from_residual.ensures.1 in
    let card = shown_word c.args.card in
    rw (p.1, p.2) (looks_follows (λ line. string_bytes line) (line_of_file card.number)
    (λ line. value (work_of_text line)) card (depot_state g.D.Depot c.args.depot.now)
    (depot_state g.D.Depot c.read_line.new.depot)
    (page_state g.P.Sink c.args.print.now) steps c.in_err-line.field-0.0 c.in_err-line.ensures)

pub returns : goal.returns
returns g c steps =
    let card = shown_word c.args.card in
    let p = depot_state g.D.Depot c.args.depot.now in
    let q = depot_state g.D.Depot c.read_line.new.depot in
    let before = page_state g.P.Sink c.args.print.now in
    let now = page_state g.P.Sink c.print_text.new.print in
    let printed = rw c.as_bytes.ensures.value at c.print_text.ensures.value in
    prints_follows (λ line. work_of_text (string_bytes line)) (show_meaning card) p q before now steps c.in_ok-line.line
    (status_of c.print_text.result) refl refl tt
    (looks_reads (λ line. string_bytes line) work_of_text (line_of_file card.number) card p q c.in_ok-line.line
    c.in_ok-line.ensures)
    (text_prints (string_bytes c.in_ok-line.line) before now (status_of c.print_text.result) printed)
