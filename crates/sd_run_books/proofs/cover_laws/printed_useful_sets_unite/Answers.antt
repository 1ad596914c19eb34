use Rattle.sd_run_books.proofs.LayerCovers.{sets_unite}
use Rattle.sd_run_books.proofs.cover_laws.printed_useful_sets_unite.Goals as goal

pub returns-clause-unites : goal.returns-clause-unites
returns-clause-unites c = sets_unite
