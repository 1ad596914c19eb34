use Rattle.std.proofs.Common.{rules}
use Rattle.sd_book.proofs.Revocations.{ascending, below}
use Rattle.sd_book.proofs.Cuts.{within_until, periods_until}
use Rattle.sd_book.proofs.book.Book.revoked.Goals as goal

pub returns-clause-value : goal.returns-clause-value
returns-clause-value c = search rules

pub revoked_after-requires-clause-periods : goal.revoked_after-requires-clause-periods
revoked_after-requires-clause-periods c = search (rules, periods_until, within_until, below, ascending)
