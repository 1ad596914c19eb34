use Rattle.std.proofs.Common.{false, sym, ◌∙◌}
use Rattle.sd_tree_keys.specs.declared.set.SetName.TheVariants.{Whole}
use Rattle.sd_cover_tracing.proofs.Boxes.{shut_key, shut_set}
use Rattle.sd_cover_tracing.proofs.coalition.opens_some.Goals.{else-right-at-via-then-right-at+else-has_some}
use Rattle.sd_cover_tracing.proofs.coalition.opens_some.Goals.{else-right-at-via-else-right-at}
use Rattle.sd_cover_tracing.proofs.coalition.opens_some.Goals as goal

pub loop-at-preserved : goal.loop-at-preserved
loop-at-preserved c = elim c.else-right-at.branch [
  | else-right-at-via-then-right-at+else-has_some w ↦
      shut_set c.args.h c.args.leaves.now c.args.sets.now c.args.right.now c.loop-at.at Whole false c.requires.lengths
      c.loop-at-test.true (sym w.has_some.ensures ∙ w.if-has_some.false) ∙ c.loop-at.invariant
  | else-right-at-via-else-right-at w ↦
      shut_key c.args.h c.args.leaves.now c.args.sets.now c.args.right.now c.loop-at.at Whole false c.requires.lengths
      c.loop-at-test.true w.if-right-at.false ∙ c.loop-at.invariant
]
