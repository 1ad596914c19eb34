use Rattle.sd_law_broadcast.proofs.Clear.{accepted}
use Rattle.sd_law_broadcast.proofs.laws.clear_streams_go_on.Goals as goal

pub returns-clause-rules : goal.returns-clause-rules
returns-clause-rules c = accepted
