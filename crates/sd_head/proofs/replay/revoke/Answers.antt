use Rattle.std.proofs.Common.{◌∙◌, arith, refl}
use Rattle.std.proofs.lemmas.Result.{err_from_is_err_and}
use Rattle.sd_head.proofs.Replayed.{false_untrue, revoked_now, there_already}
use Rattle.sd_head.proofs.replay.revoke.Goals as goal

pub revoke-requires-clause-leaf : goal.revoke-requires-clause-leaf
revoke-requires-clause-leaf g c = rw c.reserve.ensures.value.0 c.requires

pub revoke-requires-clause-other : goal.revoke-requires-clause-other
revoke-requires-clause-other g c = λ there.
    false_untrue (c.if-not-is_revoked.ensures.value.1 (rw c.reserve.ensures.value.1 at there))

pub revoke-requires-clause-spare : goal.revoke-requires-clause-spare
revoke-requires-clause-spare g c = c.in_ok-reserve.ensures.ok

pub returns-in_err-reserve-clause-value : goal.returns-in_err-reserve-clause-value
returns-in_err-reserve-clause-value g c =
    let p = err_from_is_err_and c.from_residual.result c.from_residual.ensures.1 in
    rw p.1 (λ before is. tt)

pub returns-in_ok-reserve-clause-height : goal.returns-in_ok-reserve-clause-height
returns-in_ok-reserve-clause-height g c = c.revoke.ensures.unchanged ∙ c.reserve.ensures.value.0

pub returns-in_ok-reserve-clause-steps : goal.returns-in_ok-reserve-clause-steps
returns-in_ok-reserve-clause-steps g c = omega arith

pub returns-in_ok-reserve-clause-value : goal.returns-in_ok-reserve-clause-value
returns-in_ok-reserve-clause-value g c = λ before is.
    revoked_now c.args.index.now.height c.args.leaf before c.args.index.now.revoked c.revoke.new.self.revoked is
    (rw (c.reserve.ensures.value.0, c.reserve.ensures.value.1) at c.revoke.ensures.value)

pub returns-else-not-is_revoked-clause-value : goal.returns-else-not-is_revoked-clause-value
returns-else-not-is_revoked-clause-value g c = λ before is.
    there_already c.args.index.now.height c.args.leaf before c.args.index.now.revoked is
    (c.if-not-is_revoked.ensures.value.0 refl)
