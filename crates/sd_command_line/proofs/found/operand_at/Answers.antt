use Rattle.sd_command_line.proofs.Items.{copied_here}
use Rattle.sd_command_line.proofs.found.operand_at.Goals as goal

pub returns : goal.returns
returns c = search (c.copied.ensures, c.operands.ensures.value, copied_here _ _ _ c.get.ensures.lookup)
