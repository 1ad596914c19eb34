use Rattle.std.proofs.Common.{rules}
use Rattle.sd_run.proofs.program.exit_of.Goals as goal

pub returns : goal.returns
returns c = search rules
