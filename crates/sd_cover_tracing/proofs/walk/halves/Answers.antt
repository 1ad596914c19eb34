use Rattle.std.proofs.Common.{rules, arith, nat_lt, ◌+◌, ◌-◌, ◌*◌}
use Rattle.std.proofs.lemmas.List.Sorted.{IsPartitionPoint-from_clause, IsPartitionedBy-ltb}
use Rattle.sd_cover_tracing.specs.Walk.{node_at}
use Rattle.sd_cover_tracing.proofs.Cuts.{IsCut, nodes_ascend, left_part, right_part, node_fits}
use Rattle.sd_cover_tracing.proofs.walk.halves.Goals as goal

pub overflow_mul-right : goal.overflow_mul-right
overflow_mul-right c =
    let fits =
    node_fits c.args.h c.args.level c.args.v c.args.leaves.now c.requires.below c.requires.some c.requires.height in
    omega arith

pub overflow_add-right : goal.overflow_add-right
overflow_add-right c =
    let fits =
    node_fits c.args.h c.args.level c.args.v c.args.leaves.now c.requires.below c.requires.some c.requires.height in
    omega arith

point : (c : goal.After-split_at)
    → IsCut c.args.h (c.args.level - 1) (2 * c.args.v + 1) c.partition_point.result c.args.leaves.now
point c =
    let parted =
    IsPartitionedBy-ltb (node_at c.args.h (c.args.level - 1)) c.args.leaves.now (2 * c.args.v + 1)
    (nodes_ascend c.args.h (c.args.level - 1) c.args.leaves.now c.requires.below.ascending) in
    IsPartitionPoint-from_clause (λ u. nat_lt (node_at c.args.h (c.args.level - 1) u) (2 * c.args.v + 1)) _ _
    c.partition_point.ensures.partitioned parted (λ a r q k. search rules)

pub returns-clause-left : goal.returns-clause-left
returns-clause-left c =
    rw c.split_at.ensures.front
    (left_part c.args.h c.args.level c.args.v c.partition_point.result c.args.leaves.now c.requires.inner
    c.requires.below c.partition_point.ensures.bound (point c))

pub returns-clause-right : goal.returns-clause-right
returns-clause-right c =
    rw c.split_at.ensures.back
    (right_part c.args.h c.args.level c.args.v c.partition_point.result c.args.leaves.now c.requires.inner
    c.requires.below c.partition_point.ensures.bound (point c))
