use Rattle.sd_head.specs.Kept.{plan_of}
use Rattle.sd_run_broadcasts.proofs.Trying.{told_as}
use Rattle.sd_run_broadcasts.proofs.trial_send.sent_for.Goals as goal

pub returns : goal.returns
returns g c =
    told_as (λ sent. sent.items) (plan_of c.args.site c.args.book) c.args.clear.now _ c.in_ok-sent.sent.items
    c.in_ok-sent.status c.more.result c.judge.result c.in_ok-sent.ensures c.bytes.ensures c.more.ensures
    c.judge.ensures
