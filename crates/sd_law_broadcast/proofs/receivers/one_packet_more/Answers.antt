use Rattle.sd_spec.proofs.Turns.{one_more}
use Rattle.sd_law_broadcast.proofs.receivers.one_packet_more.Goals as goal

pub returns : goal.returns
returns c = one_more
