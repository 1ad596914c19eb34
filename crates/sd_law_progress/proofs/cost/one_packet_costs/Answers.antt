use Rattle.sd_law_progress.proofs.CostLaws.{part_of_due}
use Rattle.sd_law_progress.proofs.cost.one_packet_costs.Goals as goal

pub returns-clause-part : goal.returns-clause-part
returns-clause-part c = part_of_due
