use Rattle.sd_law_plan.proofs.Airs.{next_periods, next_words}
use Rattle.sd_law_plan.proofs.plans.next_broadcasts_are_apart.Goals as goal

pub returns-clause-words : goal.returns-clause-words
returns-clause-words c = next_words

pub returns-clause-periods : goal.returns-clause-periods
returns-clause-periods c = next_periods
