use Rattle.sd_law_chain.proofs.Held.{above_last, held_at_once, held_until}
use Rattle.sd_law_chain.proofs.periods.new_sites_hold_what_is_appended.Goals as goal

pub returns-clause-decided : goal.returns-clause-decided
returns-clause-decided c = above_last

pub returns-clause-held : goal.returns-clause-held
returns-clause-held c = held_until

pub returns-clause-at_once : goal.returns-clause-at_once
returns-clause-at_once c = held_at_once
