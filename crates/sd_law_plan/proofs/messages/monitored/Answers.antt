use Rattle.sd_law_plan.proofs.Monitored.{broadcast_lines}
use Rattle.sd_law_plan.proofs.messages.monitored.Goals as goal

pub returns : goal.returns
returns c = broadcast_lines
