use Rattle.sd_law_coalition.proofs.Known.{revoked_know_nothing}
use Rattle.sd_law_coalition.proofs.laws.revoked_know_nothing.Goals as goal

pub returns : goal.returns
returns c = revoked_know_nothing
