use Rattle.sd_law_broadcast.proofs.Synced.{broadcast_synced, body_synced}
use Rattle.sd_law_broadcast.proofs.laws.broadcasts_fit_streams.Goals as goal

pub returns-clause-packets : goal.returns-clause-packets
returns-clause-packets c = broadcast_synced

pub returns-clause-body_packets : goal.returns-clause-body_packets
returns-clause-body_packets c = body_synced
