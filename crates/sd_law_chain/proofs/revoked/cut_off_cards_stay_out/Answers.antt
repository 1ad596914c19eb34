use Rattle.sd_law_chain.proofs.Lost.{key_lost, word_lost}
use Rattle.sd_law_chain.proofs.revoked.cut_off_cards_stay_out.Goals as goal

pub returns-clause-keys : goal.returns-clause-keys
returns-clause-keys c = key_lost

pub returns-clause-words : goal.returns-clause-words
returns-clause-words c = word_lost
