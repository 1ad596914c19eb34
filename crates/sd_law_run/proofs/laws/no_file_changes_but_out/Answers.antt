use Rattle.sd_law_run.proofs.Left.{run_leaves}
use Rattle.sd_law_run.proofs.laws.no_file_changes_but_out.Goals as goal

pub returns : goal.returns
returns c = run_leaves
