use Rattle.std.proofs.Common.{◌≡◌, ◌+◌, ◌++◌, ◌∷◌, [], ◌∙◌, ℕ, List, sym, ap, subst, arith, length-append}
use Rattle.std.specs.Vec.{with_items}
use Rattle.std.proofs.lemmas.List.{with_items_is}
use Rattle.sd_spec.specs.Kinds.{pmts_in}
use Rattle.sd_head.specs.After.{ArePositions}
use Rattle.sd_head.specs.Known.{AreReachablePositions, AreMarkedPids}
use Rattle.sd_head.specs.Follows.{move_in, IsMoveOf, IsPatOf}
use Rattle.sd_head.proofs.Marking.{pat_told}
use Rattle.sd_head.proofs.Moving.{near_if_moved, small_if_moved}
use Rattle.sd_head.proofs.clear.Clear.take.Goals as goal

pub move_position-requires : goal.move_position-requires
move_position-requires c =
    let clear = c.args.self.now in
    let learned = c.requires.2.learned in record {
      long = omega (arith, c.deref_mut-2.ensures.len, clear.positions_long);
      few = clear.pids_few;
      capacity = clear.pids_room;
      known = clear.pids_known;
      pid = rw c.next.ensures (small_if_moved c.requires.1 clear.positions.items (move_in c.args.judged.now)
          learned.moves);
      room = rw c.next.ensures learned.room;
    }

pub invariant_of-self : goal.invariant_of-self
invariant_of-self c =
    let clear = c.args.self.now in
    let learned = c.requires.2.learned in
    let positions : (with_items clear.positions c.move_position.new.positions).items ≡ c.move_position.new.positions =
    with_items_is clear.positions c.move_position.new.positions
    (omega (arith, c.move_position.auto.positions, c.deref_mut-2.ensures.len)) in record {
      positions_long = clear.positions_long;
      pmts_long = clear.pmts_long;
      pids_few = c.move_position.ensures.few;
      pids_room = c.move_position.ensures.capacity;
      pids_known = c.move_position.ensures.known;
      positions_near = subst (AreReachablePositions (clear.count + 1)) (sym positions)
          (c.move_position.ensures.near clear.count
          (rw c.next.ensures (near_if_moved clear.count c.requires.1 clear.positions.items
          (move_in c.args.judged.now) learned.moves clear.positions_near))
          (subst (AreReachablePositions clear.count) (sym c.deref_mut-2.ensures.value) clear.positions_near));
    }

pub returns : goal.returns
returns c = λ site before packet follows after.
    let clear = c.args.self.now in
    let all = before ++ packet ∷ [] in
    let same = sym c.deref_mut-2.ensures.value in
    let placed : ArePositions before c.deref_mut-2.result.now = subst (ArePositions before) same after.placed in
    let makes : IsMoveOf c.deref_mut-2.result.now packet c.next.result =
    rw c.next.ensures (subst (λ (ps : List ℕ). IsMoveOf ps packet (move_in c.args.judged.now)) same
    follows.learned.moves) in
    let pat : IsPatOf packet c.pat.result =
    rw c.pat.ensures (pat_told site clear packet c.args.judged.now follows.learned) in
    let positions : (with_items clear.positions c.move_position.new.positions).items ≡ c.move_position.new.positions =
    with_items_is clear.positions c.move_position.new.positions
    (omega (arith, c.move_position.auto.positions, c.deref_mut-2.ensures.len)) in
    let marks : (with_items clear.pmts c.learn.new.marks).items ≡ c.learn.new.marks =
    with_items_is clear.pmts c.learn.new.marks (omega (arith, c.learn.auto.marks, c.deref_mut.ensures.len)) in record {
      number = ap (λ (n : ℕ). n + 1) after.number ∙ sym (length-append before (packet ∷ []));
      placed = subst (ArePositions all) (sym positions) (c.move_position.ensures.placed before packet makes placed);
      moved = c.move_position.ensures.moved before packet makes placed after.moved;
      marked = subst (AreMarkedPids (pmts_in all)) (sym marks) (c.learn.ensures before packet pat
          (subst (AreMarkedPids (pmts_in before)) (sym c.deref_mut.ensures.value) after.marked));
    }
