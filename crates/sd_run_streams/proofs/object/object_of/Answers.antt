use Rattle.std.proofs.Common.{◌≡◌, ◌∙◌, [], refl, ap, arith}
use Rattle.std.proofs.lemmas.List.{nil_from_length}
use Rattle.std.proofs.lemmas.Result.{IfOk-from_err}
use Rattle.serde_json.specs.Data.{object}
use Rattle.serde_json.proofs.Views.{view-Object}
use Rattle.sd_run_streams.proofs.object.object_of.Goals as goal

pub loop-key-init : goal.loop-key-init
loop-key-init c = rw (c.into_iter-key-iterator.ensures.into_iter_gives.0, c.new-object.ensures.empty) refl

pub loop-key-preserved : goal.loop-key-preserved
loop-key-preserved c = rw c.in_ok-put.ensures.ok (rw c.in-Some.ensures.steps.0 at c.loop-key.invariant)

pub returns-in_err-put : goal.returns-in_err-put
returns-in_err-put c = IfOk-from_err c.from_residual.result _ c.from_residual.ensures.0

pub returns : goal.returns
returns c =
    let none : c.loop-key.key-iterator.rest.items ≡ [] =
    nil_from_length _ (omega (arith, c.loop-key.key-iterator.rest.ok, c.in-None.ensures.steps.0)) in
    view-Object c.loop-key.object ∙ ap object (rw none at c.loop-key.invariant)
