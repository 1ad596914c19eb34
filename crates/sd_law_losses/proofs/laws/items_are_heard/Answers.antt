use Rattle.sd_law_losses.proofs.HeardHearing.{things_heard}
use Rattle.sd_law_losses.proofs.laws.items_are_heard.Goals as goal

pub returns : goal.returns
returns c = things_heard
