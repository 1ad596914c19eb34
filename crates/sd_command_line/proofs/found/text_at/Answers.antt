use Rattle.std.proofs.Common.{◌∙◌, ap, Some, None}
use Rattle.sd_command_line.proofs.Items.{text_here}
use Rattle.sd_command_line.proofs.found.text_at.Goals as goal

pub returns-in-Some : goal.returns-in-Some
returns-in-Some c = ap Some c.as_str.ensures.value ∙ text_here _ _ (Some c.in-Some.text) c.in-Some.ensures.lookup

pub returns-in-None : goal.returns-in-None
returns-in-None c = text_here _ _ None c.in-None.ensures.lookup
