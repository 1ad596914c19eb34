use Rattle.std.proofs.Common.{◌+◌, ◌∙◌, arith}
use Rattle.sd_tree_keys.specs.SetNames.{IsPair}
use Rattle.sd_tree_keys.proofs.Powers.{height_within}
use Rattle.sd_tree_keys.proofs.Members.{member_by_tests, no_member_beside}
use Rattle.sd_tree_keys.proofs.set.contains.Goals as goal

pub returns-then-is_above : goal.returns-then-is_above
returns-then-is_above c =
    let within = height_within c.args.h (omega (arith, c.leaves.ensures.value, c.leaves.ensures.high)) in
    let pair : IsPair c.args.h c.in-Diff.i c.in-Diff.j = rw c.in-Diff.is at c.requires.name in
    let member =
    member_by_tests c.args.h c.in-Diff.i c.in-Diff.j c.args.u (c.leaves.result + c.get.result) c.is_above.result
    c.is_above-then-is_above.result within pair c.requires.leaf
    (omega (arith, c.leaves.ensures.value, c.get.ensures.value)) c.is_above.ensures.ancestor
    c.is_above-then-is_above.ensures.ancestor in
    rw c.in-Diff.is (rw c.if-is_above.true at member)

pub returns-else-is_above : goal.returns-else-is_above
returns-else-is_above c =
    let within = height_within c.args.h (omega (arith, c.leaves.ensures.value, c.leaves.ensures.high)) in
    let pair : IsPair c.args.h c.in-Diff.i c.in-Diff.j = rw c.in-Diff.is at c.requires.name in
    let member =
    no_member_beside c.args.h c.in-Diff.i c.in-Diff.j c.args.u (c.leaves.result + c.get.result) c.is_above.result
    within pair c.requires.leaf (omega (arith, c.leaves.ensures.value, c.get.ensures.value))
    c.is_above.ensures.ancestor c.if-is_above.false in
    rw c.in-Diff.is (c.if-is_above.false ∙ member)
