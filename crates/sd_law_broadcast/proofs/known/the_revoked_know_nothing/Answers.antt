use Rattle.sd_law_broadcast.proofs.Entitled.{key_unknown, word_unknown}
use Rattle.sd_law_broadcast.proofs.known.the_revoked_know_nothing.Goals as goal

pub returns : goal.returns
returns c = record { key = key_unknown; words = word_unknown }
