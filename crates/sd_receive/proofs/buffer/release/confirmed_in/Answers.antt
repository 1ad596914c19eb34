use Rattle.std.proofs.Common.{◌≡◌, ◌-◌, ◌∙◌, ℕ, ap, length, get_or, arith}
use Rattle.std.proofs.lemmas.List.{drop_all}
use Rattle.sd_spec.specs.Confirmed.{is_near_to}
use Rattle.sd_receive.proofs.Confirming.{none_near, one_nearer, none_nearer}
use Rattle.sd_receive.proofs.buffer.release.confirmed_in.Goals as goal

pub loop-i-init : goal.loop-i-init
loop-i-init c =
    rw (drop_all (length c.args.places.now) c.args.places.now (omega arith))
    (none_near c.args.tracked.now c.none-confirmed.result c.none-confirmed.ensures)

pub loop-i-preserved-then-index-lt-PIDS : goal.loop-i-preserved-then-index-lt-PIDS
loop-i-preserved-then-index-lt-PIDS c =
    let place = get_or c.args.places.now (c.loop-i.i - 1) (record { pid = 0; position = 0 }) in
    let near : c.is_near.result ≡ is_near_to (get_or c.args.tracked.now place.pid 0) place.position =
    c.is_near.ensures
    ∙ ap (λ (p : ℕ). is_near_to (get_or c.args.tracked.now p 0) place.position) c.from-index.ensures in
    one_nearer c.args.tracked.now c.args.places.now c.loop-i.i (record { pid = 0; position = 0 }) c.loop-i.confirmed
    c.set.new.self c.loop-i-test.true c.loop-i.auto.i (c.set.ensures.own ∙ near) c.set.ensures.others
    c.loop-i.invariant

pub loop-i-preserved : goal.loop-i-preserved
loop-i-preserved c =
    none_nearer c.args.tracked.now c.args.places.now c.loop-i.i (record { pid = 0; position = 0 }) c.loop-i.confirmed
    c.loop-i-test.true c.loop-i.auto.i (omega (arith, c.from-index.ensures, c.if-index-lt-PIDS.false))
    c.loop-i.invariant
