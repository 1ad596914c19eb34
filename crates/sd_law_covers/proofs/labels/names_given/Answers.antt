use Rattle.sd_tree_keys.proofs.Pairs.{given_pairs}
use Rattle.sd_law_covers.proofs.labels.names_given.Goals as goal

pub returns-clause-pairs : goal.returns-clause-pairs
returns-clause-pairs c d u i w leaf = given_pairs d u i w leaf
