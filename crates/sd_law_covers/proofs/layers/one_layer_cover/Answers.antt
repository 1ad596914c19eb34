use Rattle.sd_lsd.proofs.Covers.{one_layer_cover}
use Rattle.sd_law_covers.proofs.layers.one_layer_cover.Goals as goal

pub returns : goal.returns
returns c = one_layer_cover
