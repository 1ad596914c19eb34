use Rattle.sd_law_plan.proofs.Planned.{within_any, within_plan}
use Rattle.sd_law_plan.proofs.plans.broadcasts_are_within_plans.Goals as goal

pub returns-clause-told : goal.returns-clause-told
returns-clause-told c = within_plan

pub returns-clause-any : goal.returns-clause-any
returns-clause-any c = within_any
