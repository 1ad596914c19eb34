use Rattle.std.proofs.Common.{◌≡◌, drop}
use Rattle.std.specs.List.{list_any}
use Rattle.sd_tree_keys.specs.Leaves.{is_member}
use Rattle.sd_cover_tracing.proofs.coalition.has_some.Given as goal

abbrev pub invariant-loop-leaf : goal.invariant-loop-leaf
invariant-loop-leaf l = list_any (is_member l.fn.h l.fn.name) (drop l.leaf-index l.leaves) ≡ list_any
    (is_member l.fn.h l.fn.name) l.leaves
