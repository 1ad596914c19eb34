use Rattle.std.proofs.Common.{rules}
use Rattle.sd_base.proofs.decimals.is_decimal.Goals as goal

pub returns-else-text-ne48 : goal.returns-else-text-ne48
returns-else-text-ne48 c = search rules
