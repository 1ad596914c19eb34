use Rattle.sd_receive.proofs.Keeping.{nothing_told}
use Rattle.sd_receive.proofs.laws.others_leave_it.Goals as goal

pub returns : goal.returns
returns c = nothing_told
