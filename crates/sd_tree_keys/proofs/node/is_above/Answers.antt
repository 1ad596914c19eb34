use Rattle.std.proofs.lemmas.Bool.{eqb-true, eq-eqb}
use Rattle.sd_tree_keys.proofs.Levels.{IsAtLevel}
use Rattle.sd_tree_keys.proofs.Ancestors.{above_tested, above_is_leaves}
use Rattle.sd_tree_keys.proofs.node.is_above.Goals as goal

pub returns-clause-ancestor : goal.returns-clause-ancestor
returns-clause-ancestor c =
    let i : IsAtLevel c.args.i c.depth-2.result =
    record { low = c.depth-2.ensures.low; high = c.depth-2.ensures.high } in
    let j : IsAtLevel c.args.j c.depth.result = record { low = c.depth.ensures.low; high = c.depth.ensures.high } in
    let tested = above_tested c.args.i c.args.j c.depth-2.result c.depth.result i j in
    rw c.saturating_sub-below.ensures (λ e. tested.0 (eqb-true _ _ e), λ above. eq-eqb _ _ (tested.1 above))

pub returns-clause-leaves : goal.returns-clause-leaves
returns-clause-leaves c d within in_i in_j =
    let ancestor = returns-clause-ancestor c in
    let leaves = above_is_leaves d c.args.i c.args.j within c.requires.i c.requires.j in_i in_j in
    (λ e. leaves.0 (ancestor.0 e), λ holds. ancestor.1 (leaves.1 holds))
