use Rattle.std.proofs.Common.{rules}
use Rattle.sd_book.proofs.book.Book.last_period.Goals as goal

pub returns-clause-fits : goal.returns-clause-fits
returns-clause-fits c = search rules
