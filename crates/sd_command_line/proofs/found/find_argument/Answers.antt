use Rattle.std.proofs.lemmas.Grind.{common_steps}
use Rattle.std.proofs.Common.{arith, rules}
use Rattle.sd_command_line.proofs.found.find_argument.Goals as goal

pub returns-in_err-place : goal.returns-in_err-place
returns-in_err-place c = search rules

pub returns : goal.returns
returns c = grind (arith, common_steps)
