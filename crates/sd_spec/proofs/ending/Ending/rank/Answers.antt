use Rattle.std.proofs.Common.{rules}
use Rattle.sd_spec.proofs.ending.Ending.rank.Goals as goal

pub returns-in-Gaps : goal.returns-in-Gaps
returns-in-Gaps c = search rules
