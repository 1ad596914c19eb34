use Rattle.std.proofs.Common.{◌∙◌, sym}
use Rattle.sd_lsd.specs.LayerNames.{is_useful_name}
use Rattle.sd_lsd.proofs.Filters.{kept_more, left_more}
use Rattle.sd_law_covers.proofs.layer_names.useful_names.Goals.{then-is_of_useful+in_ok-push, else-is_of_useful}
use Rattle.sd_law_covers.proofs.layer_names.useful_names.Goals as goal

pub loop-name-preserved : goal.loop-name-preserved
loop-name-preserved c = elim c.if-is_of_useful.branch [
  | then-is_of_useful+in_ok-push w ↦ rw (w.kept-is, w.in_ok-push.ensures.items, c.loop-name.invariant)
      (kept_more (is_useful_name c.args.w) c.args.names.now c.loop-name.name-index _ c.loop-name-test.true
      (sym c.is_of_useful.ensures ∙ w.if-is_of_useful.true))
  | else-is_of_useful w ↦ rw (w.kept-is, c.loop-name.invariant)
      (left_more (is_useful_name c.args.w) c.args.names.now c.loop-name.name-index _ c.loop-name-test.true
      (sym c.is_of_useful.ensures ∙ w.if-is_of_useful.false))
]
