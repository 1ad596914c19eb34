use Rattle.std.proofs.lemmas.Result.{err_from_is_err_and}
use Rattle.sd_run_books.specs.Judged.{accounts_book}
use Rattle.sd_command_base.specs.declared.status.LimitKind.TheVariants.{BookBytes}
use Rattle.sd_command_base.specs.Outside.{depot_state}
use Rattle.sd_command_base.specs.Spec.{within, of_result}
use Rattle.sd_command_base.proofs.Follow.{looks_first, looks_judged}
use Rattle.sd_command_base.specs.Files.{most_book_bytes}
use Rattle.sd_run_books.specs.AccountsCommand.{accounts_of_file, accounts_value, accounts_or_status}
use Rattle.sd_run_books.proofs.accounts_command.read_accounts.Goals as goal

pub returns-in_err-bytes : goal.returns-in_err-bytes
unfolding accounts_of_file
returns-in_err-bytes g c =
    let p = err_from_is_err_and c.from_residual.result c.from_residual.ensures.1 in
    let word = c.args.word.number in
    rw (p.1, p.2) (looks_first (λ bytes. bytes.items) (λ accounts. accounts) (within word most_book_bytes BookBytes)
    (λ bytes. of_result (accounts_or_status word c.args.h bytes (accounts_book c.args.h bytes)))
    c.args.word.text.now (depot_state g.D.Depot c.args.depot.now) (depot_state g.D.Depot c.read_bytes.new.depot)
    c.in_err-bytes.field-0.0 c.in_err-bytes.ensures)

pub returns : goal.returns
unfolding accounts_of_file
returns g c =
    let judges = rw c.deref.ensures.value at c.judge_accounts.ensures in
    let word = c.args.word.number in
    looks_judged (λ bytes. bytes.items) (λ accounts. accounts) (within word most_book_bytes BookBytes)
    (λ bytes. accounts_or_status word c.args.h bytes (accounts_book c.args.h bytes)) c.args.word.text.now
    (depot_state g.D.Depot c.args.depot.now) (depot_state g.D.Depot c.read_bytes.new.depot) c.in_ok-bytes.bytes
    c.judge_accounts.result c.in_ok-bytes.ensures judges
