use Rattle.std.proofs.Common.{sym}
use Rattle.sd_head.proofs.Replayed.{false_untrue, not_there}
use Rattle.sd_head.proofs.replay.subscribe.Goals as goal

pub returns-then-is_revoked-clause-value : goal.returns-then-is_revoked-clause-value
returns-then-is_revoked-clause-value g c = c.subscribe.ensures.value

pub returns-else-is_revoked-clause-value : goal.returns-else-is_revoked-clause-value
returns-else-is_revoked-clause-value g c =
    sym (not_there c.args.leaf c.args.index.now.revoked (λ there. false_untrue (c.if-is_revoked.ensures.value.1 there)))
