use Rattle.sd_head.specs.Kept.{plan_of}
use Rattle.sd_head.proofs.Going.{begun_live}
use Rattle.sd_head.proofs.live.Live.new.Goals as goal

pub returns-clause-value : goal.returns-clause-value
returns-clause-value c =
    begun_live (plan_of c.args.site c.args.book) c.in_ok-new.field-0 c.in_ok-new.ensures.value
