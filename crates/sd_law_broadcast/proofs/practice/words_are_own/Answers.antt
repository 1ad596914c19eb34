use Rattle.sd_law_broadcast.proofs.Words.{used_words}
use Rattle.sd_law_broadcast.proofs.practice.words_are_own.Goals as goal

pub returns : goal.returns
returns c = used_words
