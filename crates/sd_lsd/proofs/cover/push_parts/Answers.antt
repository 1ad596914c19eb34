use Rattle.std.proofs.Common.{rules, arith}
use Rattle.sd_lsd.specs.Layers.{layer_node, split_of}
use Rattle.sd_lsd.proofs.Parts.{not_useful}
use Rattle.sd_lsd.proofs.cover.push_parts.Goals as goal

pub returns-in_ok-push-in_default : goal.returns-in_ok-push-in_default
unfolding split_of layer_node
returns-in_ok-push-in_default c = search rules

pub overflow_sub-k : goal.overflow_sub-k
overflow_sub-k c = grind (arith, not_useful)
