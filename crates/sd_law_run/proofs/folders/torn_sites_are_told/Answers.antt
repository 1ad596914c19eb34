use Rattle.sd_law_run.proofs.FolderRefusals.{chain_cleared, torn_refused}
use Rattle.sd_law_run.proofs.folders.torn_sites_are_told.Goals as goal

pub returns-clause-refused : goal.returns-clause-refused
returns-clause-refused c = torn_refused

pub returns-clause-good : goal.returns-clause-good
returns-clause-good c = chain_cleared
