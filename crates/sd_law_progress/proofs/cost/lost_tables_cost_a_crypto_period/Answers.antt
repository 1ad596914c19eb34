use Rattle.sd_law_progress.proofs.CostLaws.{section_told}
use Rattle.sd_law_progress.proofs.cost.lost_tables_cost_a_crypto_period.Goals as goal

pub returns-clause-section : goal.returns-clause-section
returns-clause-section c = section_told
