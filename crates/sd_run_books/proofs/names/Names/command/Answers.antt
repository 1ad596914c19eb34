use Rattle.std.proofs.Common.{rules}
use Rattle.sd_run_books.proofs.names.Names.command.Goals as goal

pub returns-in_ok-known-in-Restore-clause-value : goal.returns-in_ok-known-in-Restore-clause-value
returns-in_ok-known-in-Restore-clause-value c = search rules
