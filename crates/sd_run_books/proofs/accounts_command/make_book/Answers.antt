use Rattle.std.proofs.Common.{◌≡◌, ◌∙◌, ap, refl}
use Rattle.std.proofs.lemmas.Result.{err_from_is_err_and}
use Rattle.sd_book.specs.Text.{text_of_book}
use Rattle.sd_book.specs.Value.{BookValue}
use Rattle.sd_command_base.specs.declared.status.Status.TheVariants.{NoMemory}
use Rattle.sd_command_base.specs.Spec.{value}
use Rattle.sd_command_base.specs.Outside.{depot_state, page_state}
use Rattle.sd_command_base.specs.Shown.{shown_word}
use Rattle.sd_command_base.proofs.Thirds.{wanting_obeys}
use Rattle.sd_run_books.specs.AccountsCommand.{making_then, accounts_line}
use Rattle.sd_run_books.proofs.accounts_command.make_book.Goals as goal

-- memory was out for the book
pub returns-in_err-book : goal.returns-in_err-book
returns-in_err-book g c steps =
    let p = err_from_is_err_and c.from_residual.result c.from_residual.ensures.1 in
    let found = c.args.accounts.now in
    rw (p.1, p.2) (wanting_obeys
    (value (making_then (shown_word c.args.out) (text_of_book found.book.commands) (accounts_line found)))
    (depot_state g.D.Depot c.args.depot.now) (page_state g.P.Sink c.args.print.now) steps NoMemory refl)

-- memory was out for the report
pub returns-in_err-report : goal.returns-in_err-report
returns-in_err-report g c steps =
    let p = err_from_is_err_and c.from_residual-in_err-report.result c.from_residual-in_err-report.ensures.1 in
    let found = c.args.accounts.now in
    rw (p.1, p.2) (wanting_obeys
    (value (making_then (shown_word c.args.out) (text_of_book found.book.commands) (accounts_line found)))
    (depot_state g.D.Depot c.args.depot.now) (page_state g.P.Sink c.args.print.now) steps
    c.in_err-report.field-0.0 c.in_err-report.ensures.fault)

pub returns : goal.returns
returns g c steps =
    let found = c.args.accounts.now in
    let bytes : c.deref.result.now ≡ text_of_book found.book.commands =
    c.deref.ensures.value ∙ c.in_ok-book.ensures.value ∙ ap (λ (b : BookValue). text_of_book b.commands) c.book.ensures
    in
    let text : c.deref-2.result.now ≡ accounts_line found = c.deref-2.ensures.value ∙ c.in_ok-report.ensures.value in
    rw (bytes, text) at c.make_and_print.ensures steps
