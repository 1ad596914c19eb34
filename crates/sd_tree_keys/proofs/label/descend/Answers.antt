use Rattle.std.proofs.Common.{◌-◌, ◌/◌, ◌^◌, ◌≡◌, ap, sym, ◌∙◌, arith}
use Rattle.sd_tree_keys.specs.Labels.{descended, third_of, side_of}
use Rattle.sd_tree_keys.proofs.Descents.{below_none, below_more, no_level_up, levels_above}
use Rattle.sd_tree_keys.proofs.label.descend.Goals as goal

pub overflow_sub-levels : goal.overflow_sub-levels
overflow_sub-levels g c =
    levels_above c.args.from c.args.to _ _ c.depth-2.ensures.low c.depth-2.ensures.high c.depth.ensures.low
    c.depth.ensures.high c.requires.above

pub loop-level-init : goal.loop-level-init
loop-level-init g c = record { value = sym (below_none _ _); steps = omega arith }

pub loop-level-preserved : goal.loop-level-preserved
loop-level-preserved g c = record {
  value =
      let more =
      below_more c.args.label.now.0 c.args.to c.loop-level.level (c.depth.result - c.depth-2.result) (omega arith)
      in
      c.step-held.ensures.value
      ∙ (ap (λ s. third_of s c.loop-level.held.0) c.of.ensures
      ∙ (ap (third_of (side_of (c.args.to / 2 ^ (c.depth.result - c.depth-2.result - c.loop-level.level - 1))))
      c.loop-level.invariant.value ∙ more));
  steps = omega arith;
}

pub returns-clause-value : goal.returns-clause-value
unfolding descended
returns-clause-value g c =
    let levels : c.loop-level.level ≡ c.depth.result - c.depth-2.result = omega arith in
    let held = rw levels at c.loop-level.invariant.value in
    let here = rw (no_level_up c.args.to (c.depth.result - c.depth-2.result)) at held in
    rw (← c.depth.ensures.value, ← c.depth-2.ensures.value) here
