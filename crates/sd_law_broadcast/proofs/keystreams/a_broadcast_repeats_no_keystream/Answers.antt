use Rattle.sd_law_broadcast.proofs.Places.{one_packet}
use Rattle.sd_law_broadcast.proofs.Repeats.{texts_repeat}
use Rattle.sd_law_broadcast.proofs.keystreams.a_broadcast_repeats_no_keystream.Goals as goal

pub returns : goal.returns
returns c = record { texts = texts_repeat; packets = one_packet }
