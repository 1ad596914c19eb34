use Rattle.std.proofs.lemmas.Result.{err_from_is_err_and}
use Rattle.sd_book.specs.Text.{text_of_book}
use Rattle.sd_command_base.specs.Outside.{depot_state, page_state, io_state_at}
use Rattle.sd_command_base.specs.Outcome.{status_of}
use Rattle.sd_command_base.specs.Shown.{shown_word}
use Rattle.sd_run_books.specs.AccountsCommand.{accounts_in, making_then, accounts_line}
use Rattle.sd_run_books.proofs.Made.{not_read, read_then}
use Rattle.sd_run_books.proofs.accounts_command.accounts.Goals as goal

-- the site or the accounts were refused, or not read
pub returns-in_err-accounts : goal.returns-in_err-accounts
returns-in_err-accounts g c steps =
    let p = err_from_is_err_and c.from_residual.result c.from_residual.ensures.1 in
    let out = shown_word c.args.out in
    rw (p.1, p.2) (not_read (λ accounts. accounts) (accounts_in (shown_word c.args.site) (shown_word c.args.accounts))
    (λ found. making_then out (text_of_book found.book.commands) (accounts_line found))
    (depot_state g.D.Depot c.args.depot.now) (depot_state g.D.Depot c.accounts_of_site.new.depot)
    (page_state g.P.Sink c.args.print.now) steps c.in_err-accounts.field-0.0 c.in_err-accounts.ensures)

pub returns : goal.returns
returns g c steps =
    let out = shown_word c.args.out in
    read_then (λ accounts. accounts) (accounts_in (shown_word c.args.site) (shown_word c.args.accounts))
    (λ found. making_then out (text_of_book found.book.commands) (accounts_line found))
    (depot_state g.D.Depot c.args.depot.now) (depot_state g.D.Depot c.accounts_of_site.new.depot)
    (page_state g.P.Sink c.args.print.now) steps
    (io_state_at g.D.Depot g.P.Sink c.make_book.new.depot c.make_book.new.print steps)
    c.in_ok-accounts.accounts (status_of c.make_book.result) c.in_ok-accounts.ensures (c.make_book.ensures steps)
