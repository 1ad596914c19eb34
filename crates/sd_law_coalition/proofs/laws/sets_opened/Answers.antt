use Rattle.sd_law_coalition.proofs.Known.{sets_opened, sets_shut}
use Rattle.sd_law_coalition.proofs.laws.sets_opened.Goals as goal

pub returns : goal.returns
returns c = record { some = sets_opened; shut = sets_shut }
