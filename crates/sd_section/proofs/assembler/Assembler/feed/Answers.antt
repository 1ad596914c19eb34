use Rattle.sd_section.proofs.After.{fed_after}
use Rattle.sd_section.proofs.assembler.Assembler.feed.Goals as goal

pub returns : goal.returns
returns c = λ packets is. fed_after _ _ _ packets c.take.ensures is
