use Rattle.std.proofs.Common.{rules}
use Rattle.sd_run_books.proofs.card_command.card_of.Goals as goal

pub returns-in_default-clause-value : goal.returns-in_default-clause-value
returns-in_default-clause-value g c = search rules
