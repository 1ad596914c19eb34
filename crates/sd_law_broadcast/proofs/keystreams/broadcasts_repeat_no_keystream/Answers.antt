use Rattle.sd_law_broadcast.proofs.Repeats.{keys_repeat, texts_of_several, packets_repeat}
use Rattle.sd_law_broadcast.proofs.keystreams.broadcasts_repeat_no_keystream.Goals as goal

pub returns : goal.returns
returns c = record { keys = keys_repeat; texts = texts_of_several; packets = packets_repeat }
