use Rattle.sd_law_losses.proofs.Keyed.{word_due, word_check_due}
use Rattle.sd_law_losses.proofs.laws.words_are_due.Goals as goal

pub returns : goal.returns
returns c = record { word = word_due; check = word_check_due }
