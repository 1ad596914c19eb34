use Rattle.std.proofs.lemmas.Result.{err_from_is_err_and}
use Rattle.sd_command_base.specs.Outside.{depot_state, page_state}
use Rattle.sd_command_base.specs.Outcome.{status_of}
use Rattle.sd_command_base.specs.Shown.{shown_word}
use Rattle.sd_run_books.proofs.Made.{made_then, not_made}
use Rattle.sd_run_books.proofs.accounts_command.make_and_print.Goals as goal

pub returns-in_err-told : goal.returns-in_err-told
returns-in_err-told g c steps =
    let p = err_from_is_err_and c.from_residual.result c.from_residual.ensures.1 in
    let w = c.write_file.ensures in
    rw (p.1, p.2) (not_made (shown_word c.args.out) c.args.bytes.now c.args.text.now
    (depot_state g.D.Depot c.args.depot.now) (depot_state g.D.Depot c.write_file.new.depot)
    (page_state g.P.Sink c.args.print.now) steps
    c.write_file.result c.in_err-told.field-0.0 c.in_err-told.ensures w.file w.cause w.stops w.ports w.calls.most)

pub returns : goal.returns
returns g c steps =
    let w = c.write_file.ensures in
    made_then (shown_word c.args.out) c.args.bytes.now c.args.text.now
    (depot_state g.D.Depot c.args.depot.now) (depot_state g.D.Depot c.write_file.new.depot)
    (page_state g.P.Sink c.args.print.now) steps
    c.write_file.result (page_state g.P.Sink c.print_text.new.print) (status_of c.print_text.result)
    c.in_ok-told.ensures w.file w.cause w.ports w.calls.most c.print_text.ensures.value
