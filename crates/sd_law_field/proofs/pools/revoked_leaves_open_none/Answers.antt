use Rattle.sd_law_coalition.proofs.Known.{revoked_know_nothing}
use Rattle.sd_law_field.proofs.Ends.{all_shut}
use Rattle.sd_law_field.proofs.pools.revoked_leaves_open_none.Goals as goal

pub returns-clause-shut : goal.returns-clause-shut
returns-clause-shut c = all_shut

pub returns-clause-nothing : goal.returns-clause-nothing
returns-clause-nothing c = revoked_know_nothing
