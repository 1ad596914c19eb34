use Rattle.std.proofs.Common.{map, refl}
use Rattle.std.proofs.lemmas.List.{take_all}
use Rattle.std.proofs.lemmas.Result.{IfOk-from_err}
use Rattle.sd_run_streams.specs.MessageLines.{place_data}
use Rattle.sd_run_streams.proofs.Growing.{list_shown, more_shown}
use Rattle.sd_run_streams.proofs.ecm.places_value.Goals as goal

-- no position has its value yet
pub loop-place-init : goal.loop-place-init
loop-place-init c = rw c.new-positions.ensures.items refl

-- one more position has its value
pub loop-place-preserved : goal.loop-place-preserved
loop-place-preserved c = more_shown place_data c.loop-place.positions.items c.push.new.self.items
    c.in_ok-place_value.field-0 c.args.places.now c.loop-place.place-index _ c.in_ok-push.ensures.items
    c.in_ok-place_value.ensures c.loop-place-test.true c.loop-place.invariant

pub returns-in_err-place_value : goal.returns-in_err-place_value
returns-in_err-place_value c = IfOk-from_err c.from_residual.result _ c.from_residual.ensures.0

pub returns-in_err-push : goal.returns-in_err-push
returns-in_err-push c = IfOk-from_err c.from_residual-in_err-push.result _ c.from_residual-in_err-push.ensures.0

-- all positions have their values
pub returns : goal.returns
returns c = list_shown c.loop-place.positions (map place_data c.args.places.now)
    (rw (take_all c.loop-place.place-index c.args.places.now c.loop-place-test.false) at c.loop-place.invariant)
