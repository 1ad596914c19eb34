use Rattle.sd_run_books.proofs.Changes.{same_until}
use Rattle.sd_run_books.proofs.status_laws.printed_changes_are_all.Goals as goal

pub returns-clause-between : goal.returns-clause-between
returns-clause-between c site commands u p q low le none = same_until site commands u p q low le none
