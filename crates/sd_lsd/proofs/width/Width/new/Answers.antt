use Rattle.std.proofs.Common.{rules}
use Rattle.sd_lsd.proofs.width.Width.new.Goals as goal

pub returns-then-contains-clause-range : goal.returns-then-contains-clause-range
returns-then-contains-clause-range c = search rules
