use Rattle.std.proofs.Common.{◌≡◌, ◌∙◌, inr}
use Rattle.std.specs.Prelude.{◌⊎◌}
use Rattle.std.proofs.lemmas.Result.{err_from_is_err_and}
use Rattle.sd_run_books.specs.declared.account_fault.AccountFault.TheVariants.{NoMemory}
use Rattle.sd_run_books.specs.Faults.{IsAccountFaultOf}
use Rattle.sd_run_books.specs.Line.{said_by_accounts}
use Rattle.sd_run_books.proofs.Causes.{read_fault, read_same, read_sound, read_wanting}
use Rattle.sd_run_books.proofs.account_list.Accounts.read.Goals as goal

-- the lines and their end are good
pub returns-clause-accounts : goal.returns-clause-accounts
returns-clause-accounts c = c.in_ok-book.ensures.leaves c.args.h (said_by_accounts c.args.h c.args.bytes.now)
    c.in_ok-register.ensures.kept

pub returns-clause-value : goal.returns-clause-value
returns-clause-value c =
    c.in_ok-register.ensures.value ∙ (rw c.in_ok-register.ensures.height at c.in_ok-book.ensures.value)

pub returns-clause-sound : goal.returns-clause-sound
returns-clause-sound c = read_sound c.args.h c.args.bytes.now c.in_ok-book.book.commands (c.in_ok-register.ensures.value
    ∙ (rw c.in_ok-register.ensures.height at c.in_ok-book.ensures.value))

pub returns-clause-complete : goal.returns-clause-complete
returns-clause-complete c = λ commands good all.
    read_same c.args.h c.args.bytes.now commands c.in_ok-book.book.commands good all (c.in_ok-register.ensures.value
    ∙ (rw c.in_ok-register.ensures.height at c.in_ok-book.ensures.value))

-- a line was refused
pub returns-in_err-register-clause-fault : goal.returns-in_err-register-clause-fault
returns-in_err-register-clause-fault c =
    let p = err_from_is_err_and c.from_residual.result c.from_residual.ensures.1 in
    let why : (c.in_err-register.field-0.0 ≡ NoMemory)
    ⊎ IsAccountFaultOf c.args.h (said_by_accounts c.args.h c.args.bytes.now) c.in_err-register.field-0.0 =
    read_fault c.args.h c.args.bytes.now c.in_err-register.field-0.0 c.in_err-register.ensures.value in
    rw (p.1, p.2) why

pub returns-in_err-register-clause-complete : goal.returns-in_err-register-clause-complete
returns-in_err-register-clause-complete c = λ commands good all.
    let p = err_from_is_err_and c.from_residual.result c.from_residual.ensures.1 in
    rw (p.1, p.2) (read_wanting c.args.h c.args.bytes.now commands c.in_err-register.field-0.0 good all
    c.in_err-register.ensures.value)

-- their end was
pub returns-in_err-book-clause-fault : goal.returns-in_err-book-clause-fault
returns-in_err-book-clause-fault c =
    let p = err_from_is_err_and c.from_residual-in_err-book.result c.from_residual-in_err-book.ensures.1 in
    let why : (c.in_err-book.field-0.0 ≡ NoMemory)
    ⊎ IsAccountFaultOf c.args.h (said_by_accounts c.args.h c.args.bytes.now) c.in_err-book.field-0.0 =
    read_fault c.args.h c.args.bytes.now c.in_err-book.field-0.0 (inr (c.in_ok-register.ensures.value
    ∙ (rw c.in_ok-register.ensures.height at c.in_err-book.ensures.value))) in
    rw (p.1, p.2) why

pub returns-in_err-book-clause-complete : goal.returns-in_err-book-clause-complete
returns-in_err-book-clause-complete c = λ commands good all.
    let p = err_from_is_err_and c.from_residual-in_err-book.result c.from_residual-in_err-book.ensures.1 in
    rw (p.1, p.2) (read_wanting c.args.h c.args.bytes.now commands c.in_err-book.field-0.0 good all
    (inr (c.in_ok-register.ensures.value
    ∙ (rw c.in_ok-register.ensures.height at c.in_err-book.ensures.value))))
