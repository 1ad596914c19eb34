use Rattle.sd_law_broadcast.proofs.Cut.{taken_synced, taken_whole}
use Rattle.sd_law_broadcast.proofs.laws.taken_packets_join.Goals as goal

pub returns-clause-packets : goal.returns-clause-packets
returns-clause-packets c = taken_synced

pub returns-clause-bytes : goal.returns-clause-bytes
returns-clause-bytes c = taken_whole
