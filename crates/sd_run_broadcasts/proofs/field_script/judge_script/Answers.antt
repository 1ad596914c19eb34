use Rattle.std.proofs.Common.{rules}
use Rattle.sd_run_broadcasts.proofs.field_script.judge_script.Goals as goal

pub returns-in-Err-clause-value : goal.returns-in-Err-clause-value
returns-in-Err-clause-value c = search rules
