use Rattle.std.proofs.Common.{◌+◌, ◌-◌, ◌/◌, ◌^◌, ◌≡◌}
use Rattle.sd_tree_keys.specs.Labels.{label_below}
use Rattle.sd_tree_keys.proofs.label.descend.Given as goal

abbrev pub invariant-loop-level : goal.invariant-loop-level
invariant-loop-level g l = record {
  value : l.held.0 ≡ label_below l.label.0 l.level (l.to / 2 ^ (l.levels - l.level));
  steps : l.steps ≡ l.fn.steps + l.level;
}
