use Rattle.std.proofs.Common.{rules, ◌∙◌, sym}
use Rattle.sd_field.proofs.Scripts.{run_some}
use Rattle.sd_field.proofs.script.judge.Goals as goal

pub returns-clause-some : goal.returns-clause-some
returns-clause-some c = run_some c.args.h c.args.line.now c.in-Ok.run' (sym c.run_on.ensures ∙ c.in-Ok.is)

pub returns-clause-value : goal.returns-clause-value
returns-clause-value c = search rules

pub returns-clause-few : goal.returns-clause-few
returns-clause-few c = search rules
