use Rattle.std.proofs.Common.{rules}
use Rattle.sd_tree_keys.proofs.leaf.Leaf.new.Goals as goal

pub invariant_of-result : goal.invariant_of-result
invariant_of-result c = search rules

pub returns-then-u-leaves-clause-range : goal.returns-then-u-leaves-clause-range
returns-then-u-leaves-clause-range c = search rules
