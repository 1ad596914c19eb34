use Rattle.sd_law_watch.proofs.Copies.{group_again}
use Rattle.sd_law_watch.proofs.Counted.{one_left_out, copy_left_out}
use Rattle.sd_law_watch.proofs.counting.copies_change_nothing.Goals as goal

pub returns-clause-uncounted : goal.returns-clause-uncounted
returns-clause-uncounted c = one_left_out

pub returns-clause-doubled : goal.returns-clause-doubled
returns-clause-doubled c = copy_left_out

pub returns-clause-groups : goal.returns-clause-groups
returns-clause-groups c = group_again
