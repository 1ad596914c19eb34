-- The node beside the path to a leaf that another node stands below.
use Rattle.std.proofs.Common.{ℕ, ◌+◌, ◌-◌, ◌/◌, ◌^◌, ◌<◌, ◌≤◌, ◌≡◌, ◌≢◌, sym, ap, ◌∙◌, arith}
use Rattle.std.proofs.Math.Pow.{pow_mono, shr-shr}
use Rattle.sd_tree_keys.specs.Node.{depth, IsAbove, IsProperlyAbove}
use Rattle.sd_tree_keys.proofs.Levels.{doubled}
use Rattle.sd_tree_keys.proofs.Ancestors.{depth_within, leaf_level, above_le, above_by_levels}
use Rattle.sd_tree_keys.specs.Paths.{path_node}
use Rattle.sd_tree_keys.proofs.Descents.{level_of, child_level}
use Rattle.sd_tree_keys.proofs.Paths.{other_child}
use Rattle.sd_site_cards.specs.Hanging.{IsHanging}

-- a node of the tree has 32 bits
pub node_within : (d j : ℕ) → d ≤ 20 → j < 2 ^ (d + 1) → j < 2 ^ 32
node_within d j low high = omega (arith, pow_mono {i = d + 1} {j = 32} (omega arith))

-- the node above a node that is not on the path parts from it below the deepest common ancestor
pub common_properly_above : (n j c : ℕ) → IsAbove c n → IsAbove c j → (IsAbove j n → ⊥) → IsProperlyAbove c j
common_properly_above n j c over_n over_j beside = (over_j, λ e. beside (rw e at over_n))

-- the child of the deepest common ancestor towards a node beside the path hangs off the path
pub child_is_hanging : (d u j c w : ℕ) → d ≤ 20 → u < 2 ^ d → 1 ≤ j → j < 2 ^ (d + 1) → 1 ≤ c → IsAbove c (2 ^ d + u)
    → ((v : ℕ) → IsAbove v (2 ^ d + u) → IsAbove v j → IsAbove v c) → w / 2 ≡ c → IsAbove w j → IsHanging d u j w
child_is_hanging d u j c w low leaf some high is_node over deepest half above =
    let word = node_within d j low high in
    let le = above_le w j above in
    let at_j = depth_within d j low some high in
    let at_w = level_of w (omega arith) (omega arith) in
    let at_c = level_of c is_node (omega arith) in
    let at_leaf = leaf_level d u leaf in
    let up = above_by_levels w j (depth w) (depth j) at_w at_j.0 above in
    let child : depth w ≡ depth c + 1 = rw half at (child_level w (omega arith) (omega arith)) in
    let path = above_by_levels c (2 ^ d + u) (depth c) d at_c at_leaf over in
    let s : d - depth w + 1 ≡ d - depth c = omega (arith, up.0, at_j.1) in
    let halved : path_node d u (depth w) / 2 ≡ c = shr-shr (2 ^ d + u) (d - depth w) 1
    ∙ (ap (λ (n : ℕ). (2 ^ d + u) / 2 ^ n) s ∙ path.1) in
    let off : w ≢ path_node d u (depth w) = λ e. let back =
    above_le w c (deepest w (d - depth w, sym e) above) in omega arith in
    record {
      node = omega arith;
      above = above;
      sibling = other_child (path_node d u (depth w)) w (half ∙ sym halved) off;
      levels = (omega (arith, child), omega (arith, up.0), at_j.1);
      below = λ i inner over_j over_n.
          let in_c = deepest i over_n over_j in
          let le_c = above_le i c in_c in
          let at_i = level_of i inner (omega arith) in
          let by = above_by_levels i c (depth i) (depth c) at_i at_c in_c in
          omega (arith, by.0, child);
    }

-- an ancestor of a leaf's node is on the leaf's path
pub ancestor_on_path : (d u i : ℕ) → d ≤ 20 → u < 2 ^ d → 1 ≤ i → IsAbove i (2 ^ d + u) → path_node d u (depth i) ≡ i
ancestor_on_path d u i low leaf inner over =
    let le = above_le i (2 ^ d + u) over in
    let word = node_within d (2 ^ d + u) low (omega (arith, doubled d)) in
    let by = above_by_levels i (2 ^ d + u) (depth i) d (level_of i inner (omega arith)) (leaf_level d u leaf) over in
    by.1
