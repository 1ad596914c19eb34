use Rattle.sd_tree_keys.proofs.Halves.{cut_pair}
use Rattle.sd_law_covers.proofs.trees.sets_are_cut.Goals as goal

pub returns-clause-pair : goal.returns-clause-pair
returns-clause-pair c = cut_pair
