use Rattle.sd_law_broadcast.proofs.Narrowing.{broadcast_same, clear_narrowed}
use Rattle.sd_law_broadcast.proofs.laws.last_word_is_a_bound.Goals as goal

pub returns : goal.returns
returns c = record { sent = broadcast_same; fewer_words = clear_narrowed }
