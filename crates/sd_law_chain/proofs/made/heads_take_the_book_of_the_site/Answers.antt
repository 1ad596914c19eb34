use Rattle.sd_law_chain.proofs.Own.{own_exactly}
use Rattle.sd_law_chain.proofs.made.heads_take_the_book_of_the_site.Goals as goal

pub returns : goal.returns
returns c = own_exactly
