use Rattle.sd_law_plan.proofs.Clashes.{all_agree, all_words, one_tree, used_is_due}
use Rattle.sd_law_plan.proofs.pairs.checked_broadcasts_are_apart.Goals as goal

pub returns-clause-words : goal.returns-clause-words
returns-clause-words c = all_words

pub returns-clause-agree : goal.returns-clause-agree
returns-clause-agree c = all_agree

pub returns-clause-tree : goal.returns-clause-tree
returns-clause-tree c = one_tree

pub returns-clause-due : goal.returns-clause-due
returns-clause-due c = used_is_due
