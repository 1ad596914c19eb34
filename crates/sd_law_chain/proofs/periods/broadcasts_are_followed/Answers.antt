use Rattle.sd_law_chain.proofs.Following.{broadcast_is_below, next_is_above}
use Rattle.sd_law_chain.proofs.periods.broadcasts_are_followed.Goals as goal

pub returns-clause-sites : goal.returns-clause-sites
returns-clause-sites c = next_is_above

pub returns-clause-airs : goal.returns-clause-airs
returns-clause-airs c = broadcast_is_below
