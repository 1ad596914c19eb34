use Rattle.std.proofs.lemmas.Result.{err_from_is_err_and}
use Rattle.sd_site_cards.specs.SiteFields.{site_fields_of}
use Rattle.sd_command_base.specs.Outside.{depot_state}
use Rattle.sd_command_base.specs.Spec.{value, ◌>>=◌}
use Rattle.sd_command_base.proofs.Follow.{reads_first, reads_then}
use Rattle.sd_command_base.specs.Files.{site_of_file}
use Rattle.sd_command_base.specs.Shown.{shown_word}
use Rattle.sd_run_books.specs.AccountsCommand.{accounts_in, accounts_of_file}
use Rattle.sd_run_books.proofs.Made.{same_where_ok}
use Rattle.sd_run_books.proofs.accounts_command.accounts_of_site.Goals as goal

pub returns-in_err-site : goal.returns-in_err-site
unfolding accounts_in
returns-in_err-site g c =
    let p = err_from_is_err_and c.from_residual.result c.from_residual.ensures.1 in
    let site = shown_word c.args.site in
    let accounts = shown_word c.args.accounts in
    rw (p.1, p.2) (reads_first site_fields_of (λ accounts. accounts) (site_of_file site.number)
    (λ given fields. accounts_of_file accounts.number fields.height (given accounts) >>= λ found. value found) site
    (depot_state g.D.Depot c.args.depot.now) (depot_state g.D.Depot c.read_site.new.depot) c.in_err-site.field-0.0
    c.in_err-site.ensures)

pub returns : goal.returns
unfolding accounts_in
returns g c =
    let site = shown_word c.args.site in
    let accounts = shown_word c.args.accounts in
    reads_then site_fields_of (λ accounts. accounts) (λ accounts. accounts) (site_of_file site.number)
    (λ fields got. accounts_of_file accounts.number fields.height got) (λ fields found. found) site accounts
    (depot_state g.D.Depot c.args.depot.now) (depot_state g.D.Depot c.read_site.new.depot)
    (depot_state g.D.Depot c.read_accounts.new.depot) c.in_ok-site.site c.read_accounts.result c.requires
    c.in_ok-site.ensures c.read_accounts.ensures (same_where_ok c.read_accounts.result (λ accounts. accounts))
