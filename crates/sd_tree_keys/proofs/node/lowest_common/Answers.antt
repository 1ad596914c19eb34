use Rattle.std.proofs.Common.{◌-◌, ◌/◌, ◌^◌, ◌≤◌, arith}
use Rattle.sd_tree_keys.specs.Node.{IsAbove}
use Rattle.sd_tree_keys.proofs.Levels.{IsAtLevel, level_rises}
use Rattle.sd_tree_keys.proofs.Meeting.{meeting, bits_within_level, meeting_is_node, meeting_above_high}
use Rattle.sd_tree_keys.proofs.Meeting.{meeting_above_deep}
use Rattle.sd_tree_keys.proofs.Meeting.{meeting_is_deepest, both_ordered, ordered_both}
use Rattle.sd_tree_keys.proofs.node.lowest_common.Goals as goal

deep_level : (c : goal.After-depth-2) → IsAtLevel c.max-deep.result c.depth.result
deep_level c = record { low = c.depth.ensures.low; high = c.depth.ensures.high }

high_level : (c : goal.After-depth-2) → IsAtLevel c.min-high.result c.depth-2.result
high_level c = record { low = c.depth-2.ensures.low; high = c.depth-2.ensures.high }

higher : (c : goal.After-depth-2) → c.depth-2.result ≤ c.depth.result
higher c =
    level_rises c.min-high.result c.max-deep.result _ _ (omega (arith, c.min-high.ensures, c.max-deep.ensures))
    (high_level c) (deep_level c)

pub overflow_sub-level : goal.overflow_sub-level
overflow_sub-level c = higher c

pub overflow_shr-result : goal.overflow_shr-result
overflow_shr-result c =
    omega (
      arith,
      bits_within_level _ _ _ _ (deep_level c) (high_level c) (higher c) c.max-deep.type_inv c.min-high.type_inv,
      c.depth-2.ensures.bits,
    )

pub returns-clause-node : goal.returns-clause-node
returns-clause-node c =
    meeting_is_node _ _ _ _ (deep_level c) (high_level c) (higher c) c.max-deep.type_inv c.min-high.type_inv

pub returns-clause-above : goal.returns-clause-above
returns-clause-above c =
    ordered_both (IsAbove (meeting (c.max-deep.result / 2 ^ (c.depth.result - c.depth-2.result)) c.min-high.result)) _ _
    _ _ c.max-deep.ensures c.min-high.ensures
    (meeting_above_deep _ _ _ _ (deep_level c) (high_level c) (higher c) c.max-deep.type_inv c.min-high.type_inv)
    (meeting_above_high _ _ _ _ (deep_level c) (high_level c) (higher c) c.max-deep.type_inv c.min-high.type_inv)

pub returns-clause-deepest : goal.returns-clause-deepest
returns-clause-deepest c v over_a over_b =
    let over = both_ordered (IsAbove v) _ _ _ _ c.max-deep.ensures c.min-high.ensures over_a over_b in
    meeting_is_deepest _ _ _ _ (deep_level c) (high_level c) (higher c) c.max-deep.type_inv c.min-high.type_inv v over.0
    over.1
