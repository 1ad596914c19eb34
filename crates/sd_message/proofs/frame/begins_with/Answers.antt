use Rattle.std.proofs.Common.{rules}
use Rattle.sd_message.proofs.frame.begins_with.Goals as goal

pub returns-clause-value : goal.returns-clause-value
returns-clause-value c = search rules
