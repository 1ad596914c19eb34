use Rattle.sd_command_base.specs.Spec.{contents_of}
use Rattle.sd_law_run.proofs.Goodness.{cover_good}
use Rattle.sd_law_run.proofs.laws.good_covers_are_printed.Goals as goal

pub returns : goal.returns
returns c words files good = cover_good words (contents_of files) good
