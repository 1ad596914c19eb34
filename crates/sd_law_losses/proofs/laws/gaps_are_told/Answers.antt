use Rattle.std.proofs.Common.{arith}
use Rattle.sd_law_losses.proofs.Gaps.{near_by_gaps}
use Rattle.sd_law_losses.proofs.laws.gaps_are_told.Goals as goal

pub returns : goal.returns
returns c = λ pid start flags packets. near_by_gaps pid start start flags packets (omega arith)
