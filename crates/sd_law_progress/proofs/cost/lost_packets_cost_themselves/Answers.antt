use Rattle.sd_law_progress.proofs.CostLaws.{packet_told}
use Rattle.sd_law_progress.proofs.cost.lost_packets_cost_themselves.Goals as goal

pub returns : goal.returns
returns c = packet_told
