use Rattle.std.proofs.Common.{rules}
use Rattle.sd_run.proofs.program.counted.Goals as goal

pub returns-clause-value : goal.returns-clause-value
returns-clause-value g c = search rules

pub returns-clause-words : goal.returns-clause-words
returns-clause-words g c = search rules
