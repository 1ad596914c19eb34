use Rattle.std.proofs.Common.{arith, ◌<◌, length}
use Rattle.sd_book.proofs.Tallies.{leaf_more, no_leaf_more}
use Rattle.sd_book.proofs.tally.Tally.leaves.Goals.{in-Some+then-index+in_ok-push, in-Some+else-index, in_default}
use Rattle.sd_book.proofs.tally.Tally.leaves.Goals as goal

pub loop-u-preserved : goal.loop-u-preserved
loop-u-preserved c =
    let tally = c.args.self.now in
    let marks = tally.marks.items in
    let u = c.loop-u.u in
    let inside : u < length marks =
    omega (arith, c.loop-u-test.true, c.leaves-u-end.ensures.value, tally.full, tally.marks.ok.0) in
    elim c.match-new.branch [
      | in-Some+then-index+in_ok-push w ↦ rw (w.leaves-is, w.in_ok-push.ensures.items)
          (leaf_more marks c.loop-u.leaves.items _ u w.in-Some.leaf w.index.result.now inside w.index.ensures
          w.if-index.true w.in-Some.ensures.value c.loop-u.invariant)
      | in-Some+else-index w ↦ rw w.leaves-is
          (no_leaf_more marks c.loop-u.leaves.items _ u w.index.result.now inside w.index.ensures w.if-index.false
          c.loop-u.invariant)
      | in_default w ↦ absurd (grind (arith, c.new.ensures.range, c.loop-u-test.true, c.leaves-u-end.ensures.value))
    ]
