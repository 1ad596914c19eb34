use Rattle.sd_law_formats.proofs.Finds.{again_found, behind_found, first_found, followed_found, whole_found}
use Rattle.sd_law_formats.proofs.cutting.packets_are_found.Goals as goal

pub returns-clause-whole : goal.returns-clause-whole
returns-clause-whole c = whole_found

pub returns-clause-in_step : goal.returns-clause-in_step
returns-clause-in_step c = followed_found

pub returns-clause-all_but_the_last : goal.returns-clause-all_but_the_last
returns-clause-all_but_the_last c = first_found

pub returns-clause-behind : goal.returns-clause-behind
returns-clause-behind c = behind_found

pub returns-clause-again : goal.returns-clause-again
returns-clause-again c = again_found
