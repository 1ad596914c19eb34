use Rattle.sd_law_run.proofs.Fielded.{limits}
use Rattle.sd_law_run.proofs.done.good_field_runs_are_good_fields.Goals as goal

pub returns : goal.returns
returns c words given good are = limits good are
