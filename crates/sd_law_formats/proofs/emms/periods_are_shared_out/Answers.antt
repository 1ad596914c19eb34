use Rattle.sd_message.proofs.EmmSharing.{all_sets_stand}
use Rattle.sd_law_formats.proofs.emms.periods_are_shared_out.Goals as goal

pub returns-clause-sets : goal.returns-clause-sets
returns-clause-sets c = all_sets_stand
