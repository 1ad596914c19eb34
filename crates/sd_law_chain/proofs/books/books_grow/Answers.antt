use Rattle.sd_law_chain.proofs.Growing.{books_grow}
use Rattle.sd_law_chain.proofs.books.books_grow.Goals as goal

pub returns : goal.returns
returns c = books_grow
