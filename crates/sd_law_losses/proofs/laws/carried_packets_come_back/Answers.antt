use Rattle.sd_law_losses.proofs.Back.{clear_back, scrambled_back}
use Rattle.sd_law_losses.proofs.laws.carried_packets_come_back.Goals as goal

pub returns : goal.returns
returns c = record { clear = clear_back; scrambled = scrambled_back }
