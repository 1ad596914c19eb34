use Rattle.sd_law_run.proofs.Statuses.{show_part, status_part}
use Rattle.sd_law_run.proofs.told.cards_are_compared_with_sites.Goals as goal

pub returns-clause-status : goal.returns-clause-status
returns-clause-status c words files good a b answer told answers well =
    status_part words files good a b answer told answers well

pub returns-clause-show : goal.returns-clause-show
returns-clause-show c words card site u files a b answer order told system some low leaf there answers well =
    show_part words card site u files a b answer order told system some low leaf there answers well
