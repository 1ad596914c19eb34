use Rattle.sd_book.proofs.Followed.{first_follows, next_follows, one_follows}
use Rattle.sd_law_formats.proofs.books.revoked_follow.Goals as goal

pub returns : goal.returns
returns c = record { first = first_follows; next = next_follows; step = one_follows }
