use Rattle.std.proofs.Common.{rules}
use Rattle.sd_field.proofs.laid.period_after.Goals as goal

pub returns : goal.returns
returns c = search rules
