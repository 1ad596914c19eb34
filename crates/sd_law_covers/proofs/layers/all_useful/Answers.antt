use Rattle.sd_lsd.proofs.Layers.{useful_everywhere}
use Rattle.sd_law_covers.proofs.layers.all_useful.Goals as goal

pub returns : goal.returns
returns c = useful_everywhere
