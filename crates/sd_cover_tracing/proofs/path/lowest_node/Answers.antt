use Rattle.std.proofs.Common.{◌≤◌, ◌+◌, arith, rules}
use Rattle.std.proofs.Math.Pow.{pow_mono}
use Rattle.sd_tree_keys.proofs.Levels.{doubled}
use Rattle.sd_cover_tracing.proofs.path.lowest_node.Goals as goal

pub returns-clause-most : goal.returns-clause-most
returns-clause-most c =
    let tall : c.args.h ≤ 20 = search rules in
    let most = pow_mono {i = c.args.h + 1} {j = 21} (omega arith) in
    let twice = doubled c.args.h in
    omega (arith, c.requires, c.leaf_node.ensures.value)
