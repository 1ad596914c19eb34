use Rattle.std.proofs.Common.{rules}
use Rattle.sd_run.proofs.lines.LinesWrite.write.Goals as goal

pub returns-then-self-clause-bytes : goal.returns-then-self-clause-bytes
returns-then-self-clause-bytes g c = search rules
