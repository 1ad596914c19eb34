use Rattle.std.proofs.lemmas.List.{take_all}
use Rattle.sd_receive.proofs.Tables.{next_started, none_started}
use Rattle.sd_receive.proofs.buffer.tracked.start.Goals as goal

pub loop-place-init : goal.loop-place-init
loop-place-init c = none_started c.args.table.now c.requires.clear

pub loop-place-preserved : goal.loop-place-preserved
loop-place-preserved c =
    rw c.from.ensures (next_started c.args.places.now c.loop-place.place-index (record { pid = 0; position = 0 })
    c.loop-place.table c.loop-place-test.true c.requires.ascending c.requires.known c.loop-place.invariant)

-- all places are in
pub returns : goal.returns
returns c = rw (take_all c.loop-place.place-index c.args.places.now c.loop-place-test.false) at c.loop-place.invariant
