use Rattle.std.proofs.Common.{rules}
use Rattle.sd_section.proofs.making.is_taken.Goals as goal

pub returns-then-not-is_empty : goal.returns-then-not-is_empty
returns-then-not-is_empty c = search rules
