use Rattle.std.proofs.Common.{rules}
use Rattle.sd_run_books.proofs.plan_periods.push_numbers.Goals as goal

pub returns-clause-tables : goal.returns-clause-tables
returns-clause-tables c = search rules
