use Rattle.std.proofs.Common.{rules}
use Rattle.sd_head.proofs.message.since.Goals as goal

pub returns-then-version-gt1 : goal.returns-then-version-gt1
returns-then-version-gt1 c = search rules
