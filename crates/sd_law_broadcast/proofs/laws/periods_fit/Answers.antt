use Rattle.sd_spec.proofs.Schedule.{period_short}
use Rattle.sd_law_broadcast.proofs.Fitting.{period_fits, period_sets}
use Rattle.sd_law_broadcast.proofs.laws.periods_fit.Goals as goal

pub returns : goal.returns
returns c = record { form = period_fits; sets = period_sets; fits = period_short }
