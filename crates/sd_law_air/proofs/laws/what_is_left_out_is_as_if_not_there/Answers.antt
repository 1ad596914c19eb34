use Rattle.sd_law_air.proofs.Among.{aired_again, aired_among}
use Rattle.sd_law_air.proofs.laws.what_is_left_out_is_as_if_not_there.Goals as goal

pub returns-clause-again : goal.returns-clause-again
returns-clause-again c = aired_again

pub returns-clause-between : goal.returns-clause-between
returns-clause-between c = aired_among
