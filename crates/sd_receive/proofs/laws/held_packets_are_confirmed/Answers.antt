use Rattle.sd_receive.proofs.HoldWalking.{between_messages}
use Rattle.sd_receive.proofs.laws.held_packets_are_confirmed.Goals as goal

pub returns : goal.returns
returns c = λ a b word ca ecm held. between_messages a b word ca ecm held
