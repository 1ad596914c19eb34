use Rattle.sd_book.proofs.Causes.{one_cause, no_cause}
use Rattle.sd_law_formats.proofs.books.causes_are_one.Goals as goal

pub returns-clause-one : goal.returns-clause-one
returns-clause-one c = one_cause

pub returns-clause-none : goal.returns-clause-none
returns-clause-none c = no_cause
