use Rattle.sd_law_broadcast.proofs.Entitled.{entitled_know_key, entitled_know_word}
use Rattle.sd_law_broadcast.proofs.known.who_is_entitled_knows.Goals as goal

pub returns : goal.returns
returns c = record { key = entitled_know_key; words = entitled_know_word }
