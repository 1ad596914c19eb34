use Rattle.std.proofs.Common.{◌∙◌, ◌^◌, ap, sym}
use Rattle.std.proofs.lemmas.Bool.{ltb-true}
use Rattle.std.proofs.lemmas.Result.{err_from_is_err_and}
use Rattle.sd_book.specs.Commands.{is_within}
use Rattle.sd_book.proofs.Kept.{kept_period}
use Rattle.sd_head.proofs.Replayed.{subscribed}
use Rattle.sd_head.proofs.replay.take.Goals as goal

pub subscribe-requires : goal.subscribe-requires
subscribe-requires g c =
    ltb-true c.in-Subscribe.leaf (2 ^ c.args.index.now.height)
    (ap (is_within c.args.index.now.height) (sym c.in-Subscribe.is) ∙ c.requires)

pub revoke-requires : goal.revoke-requires
revoke-requires g c =
    ltb-true c.in-Revoke.leaf (2 ^ c.args.index.now.height)
    (ap (is_within c.args.index.now.height) (sym c.in-Revoke.is) ∙ c.requires)

pub returns-in-Subscribe-clause-value : goal.returns-in-Subscribe-clause-value
returns-in-Subscribe-clause-value g c = rw c.in-Subscribe.is (λ before is.
    subscribed c.args.index.now.height c.in-Subscribe.leaf before c.args.index.now.revoked c.subscribe.new.index.revoked
    is c.subscribe.ensures.value)

pub returns-in_err-revoke-in-Revoke-clause-value : goal.returns-in_err-revoke-in-Revoke-clause-value
returns-in_err-revoke-in-Revoke-clause-value g c =
    let p = err_from_is_err_and c.from_residual.result c.from_residual.ensures.1 in
    rw p.1 (λ before is. tt)

pub returns-in_ok-revoke-in-Revoke-clause-value : goal.returns-in_ok-revoke-in-Revoke-clause-value
returns-in_ok-revoke-in-Revoke-clause-value g c = rw c.in-Revoke.is c.in_ok-revoke-in-Revoke.ensures.value

pub returns-in-Period-clause-value : goal.returns-in-Period-clause-value
returns-in-Period-clause-value g c = rw c.in-Period.is (λ before is.
    kept_period c.args.index.now.height before c.args.index.now.revoked is)
