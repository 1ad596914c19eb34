use Rattle.sd_law_chain.proofs.Apart.{airs_are_apart}
use Rattle.sd_law_chain.proofs.premises.chains_are_apart.Goals as goal

pub returns : goal.returns
returns c = airs_are_apart
