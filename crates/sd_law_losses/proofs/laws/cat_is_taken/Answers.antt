use Rattle.sd_law_losses.proofs.HeardHearing.{cat_taken, others_not_taken}
use Rattle.sd_law_losses.proofs.laws.cat_is_taken.Goals as goal

pub returns : goal.returns
returns c = record { cat = cat_taken; other = others_not_taken }
