use Rattle.std.proofs.Common.{rules}
use Rattle.sd_base.proofs.Digits.{value_at_least, value_more, digit_within}
use Rattle.sd_base.proofs.decimals.value.Goals as goal

pub loop-digit-preserved : goal.loop-digit-preserved
loop-digit-preserved c = search (rules, digit_within, value_more, value_at_least)
