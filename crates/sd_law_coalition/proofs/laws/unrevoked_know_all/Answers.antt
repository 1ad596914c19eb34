use Rattle.sd_law_coalition.proofs.Known.{entitled_know_all}
use Rattle.sd_law_coalition.proofs.laws.unrevoked_know_all.Goals as goal

pub returns : goal.returns
returns c = entitled_know_all
