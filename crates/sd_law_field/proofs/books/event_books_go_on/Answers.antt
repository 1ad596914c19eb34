use Rattle.sd_spec.proofs.Books.{book_reaches, book_short, book_within}
use Rattle.sd_law_field.proofs.books.event_books_go_on.Goals as goal

pub returns : goal.returns
returns c = record { reached = book_reaches; most = book_short; within = book_within }
