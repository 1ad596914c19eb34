use Rattle.std.proofs.Common.{rules}
use Rattle.sd_command_line.specs.Words.{named_words}
use Rattle.sd_command_line.proofs.order.read_named.Goals as goal

pub returns-in-Some : goal.returns-in-Some
unfolding named_words
returns-in-Some c = search rules
