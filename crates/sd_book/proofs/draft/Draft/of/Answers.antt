use Rattle.std.proofs.Common.{rules}
use Rattle.sd_book.proofs.draft.Draft.of.Goals as goal

pub of-requires-clause-periods : goal.of-requires-clause-periods
of-requires-clause-periods c = search rules
