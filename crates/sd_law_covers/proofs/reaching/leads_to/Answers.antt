use Rattle.std.proofs.Common.{rules}
use Rattle.sd_law_covers.proofs.reaching.leads_to.Goals as goal

pub returns-then-w-j : goal.returns-then-w-j
returns-then-w-j c = search rules
