use Rattle.std.proofs.Common.{sym, arith, subst, ◌+◌, ◌<◌, length, ℕ}
use Rattle.sd_message.specs.EcmForm.{no_place}
use Rattle.sd_receive.proofs.Walking.{IsWalked, lower, met_more, passed_more, all_seen}
use Rattle.sd_receive.proofs.ecm.assembler.places_go_back.Goals as goal
use Rattle.sd_receive.proofs.ecm.assembler.places_go_back.Goals.{then-met-places+then-places-met+else-place-places}
use Rattle.sd_receive.proofs.ecm.assembler.places_go_back.Goals.{else-met-places}
use Rattle.sd_receive.proofs.ecm.assembler.places_go_back.Goals.{else-met-places-via-then-met-places+else-places-met}
use Rattle.sd_receive.proofs.ecm.assembler.places_go_back.Goals.{else-met-places-via-else-met-places}

pub returns-then-place-places : goal.returns-then-place-places
returns-then-place-places c = λ up rises.
    lower c.args.coming.now c.args.places.now c.loop-place.met c.loop-place.place-index no_place
    (c.loop-place.invariant.walked up rises)
    c.if-met-places.true (omega arith) (sym c.if-places-met.true) c.if-place-places.true

pub loop-place-preserved : goal.loop-place-preserved
loop-place-preserved c =
    let coming = c.args.coming.now in
    let places = c.args.places.now in
    let at : c.loop-place.place-index < length coming = omega arith in
    elim c.if-met-places.branch [
      | then-met-places+then-places-met+else-place-places w ↦
          let some = w.if-met-places.true in
          record {
            few = omega (arith, w.met-is, some);
            walked = λ up rises. subst (λ (n : ℕ). IsWalked coming places n (c.loop-place.place-index + 1))
                (sym w.met-is)
                (met_more coming places c.loop-place.met c.loop-place.place-index no_place up rises
                (c.loop-place.invariant.walked up rises) some at (sym w.if-places-met.true) w.if-place-places.false);
          }
      | else-met-places w ↦
          record {
            few = omega (arith, w.met-is, c.loop-place.invariant.few);
            walked = λ up rises. subst (λ (n : ℕ). IsWalked coming places n (c.loop-place.place-index + 1))
                (sym w.met-is)
                (passed_more coming places c.loop-place.met c.loop-place.place-index no_place
                (c.loop-place.invariant.walked up rises) at (λ some same. elim w.else-met-places.branch [
                  | else-met-places-via-then-met-places+else-places-met v ↦ v.if-places-met.false (sym same)
                  | else-met-places-via-else-met-places v ↦ absurd (omega (arith, v.if-met-places.false, some))
                ]));
          }
    ]

pub returns : goal.returns
returns c = λ up rises.
    all_seen c.args.coming.now c.args.places.now c.loop-place.met c.loop-place.place-index c.loop-place.invariant.few
    (omega arith)
    (c.loop-place.invariant.walked up rises)
