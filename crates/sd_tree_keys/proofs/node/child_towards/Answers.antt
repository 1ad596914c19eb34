use Rattle.std.proofs.Common.{arith}
use Rattle.sd_tree_keys.proofs.Ancestors.{properly_above_by_levels}
use Rattle.sd_tree_keys.proofs.node.child_towards.Goals as goal

pub overflow_sub-result : goal.overflow_sub-result
overflow_sub-result c =
    let by = properly_above_by_levels _ _ _ _ (record {
      low = c.depth-2.ensures.low;
      high =
          c.depth-2.ensures.high;
    }) (record { low = c.depth.ensures.low; high = c.depth.ensures.high }) c.requires.j in
    omega (arith, by.0)

pub overflow_sub-result-2 : goal.overflow_sub-result-2
overflow_sub-result-2 c =
    let by = properly_above_by_levels _ _ _ _ (record {
      low = c.depth-2.ensures.low;
      high =
          c.depth-2.ensures.high;
    }) (record { low = c.depth.ensures.low; high = c.depth.ensures.high }) c.requires.j in
    omega (arith, by.0)

pub returns-clause-child : goal.returns-clause-child
returns-clause-child c =
    let by = properly_above_by_levels _ _ _ _ (record {
      low = c.depth-2.ensures.low;
      high =
          c.depth-2.ensures.high;
    }) (record { low = c.depth.ensures.low; high = c.depth.ensures.high }) c.requires.j in
    by.1
