use Rattle.sd_tree_keys.proofs.Ancestors.{above_is_leaves}
use Rattle.sd_law_covers.proofs.trees.ancestors_are_by_leaves.Goals as goal

pub returns-clause-nodes : goal.returns-clause-nodes
returns-clause-nodes c = above_is_leaves
