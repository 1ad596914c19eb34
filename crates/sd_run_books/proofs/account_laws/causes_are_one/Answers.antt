use Rattle.sd_run_books.proofs.Causes.{one_cause, no_cause}
use Rattle.sd_run_books.proofs.account_laws.causes_are_one.Goals as goal

pub returns-clause-one : goal.returns-clause-one
returns-clause-one c = one_cause

pub returns-clause-none : goal.returns-clause-none
returns-clause-none c = no_cause
