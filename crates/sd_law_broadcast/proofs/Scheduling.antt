-- What the laws on the schedule rest on.
use Rattle.sd_spec.proofs.Schedule.{cryptos_rise, words_rise, periods_rise, cryptos_step, periods_step, period_of_first}
use Rattle.sd_spec.proofs.Schedule.{period_within, period_short, closing_covers, closing_above, closing_needed}
use Rattle.sd_spec.proofs.Schedule.{closing_of_none}

pub ruleset never_fall =
    (cryptos_rise, words_rise, periods_rise, cryptos_step, periods_step, period_of_first, period_within, period_short)

pub ruleset closing_last = (closing_covers, closing_above, closing_needed, closing_of_none)
