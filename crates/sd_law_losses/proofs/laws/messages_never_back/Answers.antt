use Rattle.sd_law_losses.proofs.HeardLater.{never_back}
use Rattle.sd_law_losses.proofs.laws.messages_never_back.Goals as goal

pub returns : goal.returns
returns c = never_back
