use Rattle.sd_law_chain.proofs.Apart.{all_agree}
use Rattle.sd_law_chain.proofs.Meeting.{all_are_one_tree, all_are_runs, all_have_own_words}
use Rattle.sd_law_chain.proofs.premises.chains_meet_the_premises.Goals as goal

pub returns-clause-runs : goal.returns-clause-runs
returns-clause-runs c = all_are_runs

pub returns-clause-tree : goal.returns-clause-tree
returns-clause-tree c = all_are_one_tree

pub returns-clause-words : goal.returns-clause-words
returns-clause-words c = all_have_own_words

pub returns-clause-agree : goal.returns-clause-agree
returns-clause-agree c = all_agree
