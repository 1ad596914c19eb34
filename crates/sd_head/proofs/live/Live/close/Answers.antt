use Rattle.sd_head.proofs.Going.{breaks_live, ends_live}
use Rattle.sd_head.proofs.Offering.{cut_says, grown_says, on_ok}
use Rattle.sd_head.proofs.live.Live.close.Goals as goal

pub returns-clause-value : goal.returns-clause-value
returns-clause-value g c = on_ok c.send_closing.result c.send_closing.ensures.value
    (λ grown. grown_says grown (ends_live c.args.self.now c.send_closing.new.self))

pub returns-clause-prefix : goal.returns-clause-prefix
returns-clause-prefix g c = λ failed. cut_says (c.send_closing.ensures.prefix failed)
    (breaks_live c.args.self.now c.args.steps.now c.send_closing.new.steps)
