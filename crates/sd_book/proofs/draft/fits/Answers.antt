use Rattle.std.proofs.Common.{rules}
use Rattle.sd_book.proofs.draft.fits.Goals as goal

pub returns-then-is_last : goal.returns-then-is_last
returns-then-is_last c = search rules
