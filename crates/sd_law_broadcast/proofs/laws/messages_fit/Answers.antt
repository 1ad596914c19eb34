use Rattle.sd_law_broadcast.proofs.Fitting.{message_fits, message_before_fits, closing_fits}
use Rattle.sd_law_broadcast.proofs.laws.messages_fit.Goals as goal

pub returns : goal.returns
returns c = record { any = message_fits; before = message_before_fits; closing = closing_fits }
