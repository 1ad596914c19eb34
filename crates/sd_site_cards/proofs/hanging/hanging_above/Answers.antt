use Rattle.std.proofs.Common.{◌+◌, ◌≡◌, ◌^◌, arith}
use Rattle.sd_tree_keys.proofs.Powers.{height_within}
use Rattle.sd_site_cards.proofs.Paths.{child_is_hanging, common_properly_above}
use Rattle.sd_site_cards.proofs.hanging.hanging_above.Goals as goal

pub returns : goal.returns
returns c =
    let within = height_within c.args.h (omega (arith, c.leaves.ensures.value, c.leaves.ensures.high)) in
    let node : c.leaves.result + c.get.result ≡ 2 ^ c.args.h + c.args.u =
    omega (arith, c.leaves.ensures.value, c.get.ensures.value) in
    let common = rw node at c.lowest_common-common.ensures in
    child_is_hanging c.args.h c.args.u c.args.j _ _ within c.requires.leaf c.requires.node.0 c.requires.node.1
    common.node common.above.0 common.deepest c.child_towards.ensures.child c.child_towards.ensures.above

pub child_towards-requires-clause-j : goal.child_towards-requires-clause-j
child_towards-requires-clause-j c =
    let node : c.leaves.result + c.get.result ≡ 2 ^ c.args.h + c.args.u =
    omega (arith, c.leaves.ensures.value, c.get.ensures.value) in
    let common = rw node at c.lowest_common-common.ensures in
    common_properly_above (2 ^ c.args.h + c.args.u) c.args.j _ common.above.0 common.above.1 c.requires.beside
