use Rattle.std.proofs.Common.{rules}
use Rattle.sd_lsd.specs.Layers.{is_useful}
use Rattle.sd_lsd.proofs.layer.useful.Goals as goal

pub returns-else-depth-from-eq0 : goal.returns-else-depth-from-eq0
unfolding is_useful
returns-else-depth-from-eq0 c = search rules
