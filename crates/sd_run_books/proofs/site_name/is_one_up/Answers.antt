use Rattle.std.proofs.Common.{rules}
use Rattle.sd_run_books.proofs.FollowingNames.{first_unsaid, said_below, said_top, second_unsaid}
use Rattle.sd_run_books.proofs.site_name.is_one_up.Goals as goal

pub returns-then-n-lt-MOST_WORD : goal.returns-then-n-lt-MOST_WORD
returns-then-n-lt-MOST_WORD c = search (rules, said_below)

pub returns-else-n-lt-MOST_WORD : goal.returns-else-n-lt-MOST_WORD
returns-else-n-lt-MOST_WORD c = search (rules, said_top)

pub returns-in_default : goal.returns-in_default
returns-in_default c = search (rules, first_unsaid, second_unsaid)

pub returns-in_default-2 : goal.returns-in_default-2
returns-in_default-2 c = search (rules, first_unsaid, second_unsaid)
