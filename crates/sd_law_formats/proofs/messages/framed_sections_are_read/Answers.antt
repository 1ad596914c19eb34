use Rattle.sd_message.proofs.Framing.{packed_begins}
use Rattle.sd_law_formats.proofs.messages.framed_sections_are_read.Goals as goal

pub returns-clause-begins : goal.returns-clause-begins
returns-clause-begins c = packed_begins
