use Rattle.std.proofs.Common.{◌≡◌, ◌<◌, ◌≤◌, ◌++◌, ◌∷◌, [], ◌∙◌, ℕ, List, length, get_or, take, map, ap, arith}
use Rattle.std.proofs.lemmas.List.{take_all}
use Rattle.sd_head.proofs.Placing.{place_at, places_are, one_more_place, as_many_places}
use Rattle.sd_head.proofs.clear.Clear.write_places.Goals as goal

pub unwrap-requires : goal.unwrap-requires
unwrap-requires c =
    let pids = c.args.self.now.pids.items in
    let within : c.loop-pid.pid-index ≤ length pids =
    omega (arith, ap length c.deref-pid-items.ensures.value, c.loop-pid-test.true) in
    let many = as_many_places c.args.self.now.positions.items pids c.loop-pid.places.items c.loop-pid.pid-index within
    c.loop-pid.invariant.items in
    c.push.ensures.succeeds (omega (
      arith,
      many,
      c.loop-pid.places.ok.0,
      c.loop-pid.invariant.room,
      c.loop-pid-test.true,
      c.deref-pid-items.ensures.len,
      c.args.self.now.pids_few,
    ))

pub loop-pid-preserved : goal.loop-pid-preserved
loop-pid-preserved c =
    let positions = c.args.self.now.positions.items in
    let pids = c.args.self.now.pids.items in
    let within : c.loop-pid.pid-index < length pids =
    omega (arith, ap length c.deref-pid-items.ensures.value, c.loop-pid-test.true) in
    let wrote = c.loop-pid.places.items in
    let read = c.deref-pid-items.result.now in
    let one = rw c.unwrap.ensures at c.push.ensures.items in
    let pushed : c.push.new.self.items ≡ wrote ++ place_at positions (get_or pids c.loop-pid.pid-index 0) ∷ [] =
    one ∙ (ap (λ (x : ℕ). wrote ++ record { pid = get_or read c.loop-pid.pid-index 0; position = x } ∷ [])
    c.position_of-position.ensures
    ∙ ap (λ (ps : List ℕ). wrote ++ place_at positions (get_or ps c.loop-pid.pid-index 0) ∷ [])
    c.deref-pid-items.ensures.value) in record {
      items = pushed ∙ one_more_place positions pids wrote c.loop-pid.pid-index within
          c.loop-pid.invariant.items;
      room = omega (arith, c.push.ensures.capacity, c.loop-pid.invariant.room);
    }

pub returns-clause-few : goal.returns-clause-few
returns-clause-few c =
    let pids = c.args.self.now.pids.items in
    let within : c.loop-pid.pid-index ≤ length pids =
    omega (arith, ap length c.deref-pid-items.ensures.value, c.loop-pid.auto.pid-index-end) in
    let many = as_many_places c.args.self.now.positions.items pids c.loop-pid.places.items c.loop-pid.pid-index within
    c.loop-pid.invariant.items in
    omega (
      arith,
      many,
      c.loop-pid.places.ok.0,
      c.loop-pid.auto.pid-index-end,
      c.deref-pid-items.ensures.len,
      c.args.self.now.pids_few,
    )

pub returns-clause-value : goal.returns-clause-value
returns-clause-value c =
    let all : take c.loop-pid.pid-index c.args.self.now.pids.items ≡ c.args.self.now.pids.items =
    take_all c.loop-pid.pid-index c.args.self.now.pids.items
    (omega (arith, ap length c.deref-pid-items.ensures.value, c.loop-pid-test.false)) in
    λ before after.
    c.loop-pid.invariant.items ∙ (ap (map (place_at c.args.self.now.positions.items)) all
    ∙ places_are before c.args.self.now.positions.items c.args.self.now.pids.items after.placed after.moved)
