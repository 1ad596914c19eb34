use Rattle.sd_law_keys.proofs.Keyed.{few_in_one_run, few_of_broadcast, each_of_one}
use Rattle.sd_law_keys.proofs.costs.a_period_costs_at_most_the_height.Goals as goal

pub returns : goal.returns
returns c = record { any = few_in_one_run; lost = few_of_broadcast; each = each_of_one }
