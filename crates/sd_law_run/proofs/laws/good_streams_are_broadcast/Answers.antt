use Rattle.sd_command_base.specs.Spec.{contents_of}
use Rattle.sd_law_run.proofs.Goodness.{head_good}
use Rattle.sd_law_run.proofs.laws.good_streams_are_broadcast.Goals as goal

pub returns : goal.returns
returns c words files good = head_good words (contents_of files) good
