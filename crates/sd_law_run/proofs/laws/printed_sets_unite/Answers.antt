use Rattle.sd_run_books.proofs.Covers.{sets_unite}
use Rattle.sd_law_run.proofs.laws.printed_sets_unite.Goals as goal

pub returns : goal.returns
returns c d q commands low = sets_unite d q commands low
