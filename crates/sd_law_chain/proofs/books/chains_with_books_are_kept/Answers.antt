use Rattle.sd_law_chain.proofs.Growing.{chains_are_kept}
use Rattle.sd_law_chain.proofs.books.chains_with_books_are_kept.Goals as goal

pub returns : goal.returns
returns c = chains_are_kept
