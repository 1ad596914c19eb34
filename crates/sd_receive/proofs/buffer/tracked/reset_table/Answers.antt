use Rattle.std.proofs.Common.{◌∙◌, List, ℕ, ap, map}
use Rattle.std.proofs.lemmas.List.{drop_all}
use Rattle.sd_packet.specs.Header.{pid_of}
use Rattle.sd_receive.specs.Tracking.{packets_in}
use Rattle.sd_receive.specs.declared.buffer.tracked.HeldPacket.{HeldPacket}
use Rattle.sd_receive.proofs.Tables.{packet_cleared, place_cleared, tracked_but}
use Rattle.sd_receive.proofs.buffer.tracked.reset_table.Goals as goal

pub loop-place-init : goal.loop-place-init
loop-place-init c = tracked_but c.args.places.now (packets_in c.args.held.now) c.args.table.now c.requires.tracked

pub loop-place-preserved : goal.loop-place-preserved
loop-place-preserved c =
    rw c.from.ensures (place_cleared c.args.places.now c.loop-place.place-index (record { pid = 0; position = 0 })
    (map (λ (p : List ℕ). pid_of p) (packets_in c.args.held.now)) c.loop-place.table c.loop-place-test.true
    c.requires.known c.loop-place.invariant)

-- no place is left
pub loop-one-init : goal.loop-one-init
loop-one-init c =
    rw (drop_all c.loop-place.place-index c.args.places.now c.loop-place-test.false) at c.loop-place.invariant

pub loop-one-preserved : goal.loop-one-preserved
loop-one-preserved c =
    packet_cleared c.args.held.now c.loop-one.one-index c.one-item.result c.from-in-loop-one.result c.loop-one.table
    c.loop-one-test.true
    (c.from-in-loop-one.ensures ∙ (c.pid.ensures.value ∙ ap (λ (h : HeldPacket). pid_of h.packet) c.one-item.is))
    (rw c.from-in-loop-one.ensures c.pid.ensures.fits) c.loop-one.invariant

-- no packet is left
pub returns : goal.returns
returns c = rw (drop_all c.loop-one.one-index c.args.held.now c.loop-one-test.false) at c.loop-one.invariant
