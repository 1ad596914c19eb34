use Rattle.std.proofs.Common.{rules}
use Rattle.sd_command_line.specs.Pages.{page_text}
use Rattle.sd_command_line.proofs.page.page.Goals as goal

pub returns : goal.returns
unfolding page_text
returns c = search rules
