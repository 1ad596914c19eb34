use Rattle.sd_book.proofs.Short.{book_short}
use Rattle.sd_law_formats.proofs.books.books_are_short.Goals as goal

pub returns : goal.returns
returns c = book_short
