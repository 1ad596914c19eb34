use Rattle.std.proofs.Common.{rules}
use Rattle.sd_spec.specs.Ending.{endings_joined}
use Rattle.sd_spec.proofs.ending.Ending.with.Goals as goal

pub returns-in_default : goal.returns-in_default
unfolding endings_joined
returns-in_default c = search rules
