-- Halving, and the leaves below the root and below a leaf's node.
use Rattle.std.proofs.Common.{◌≡◌, ℕ, suc, ⊎_elim, ◌+◌, ◌-◌, ◌*◌, ◌/◌, ◌^◌, ◌<◌, ◌≤◌, true, arith, nat_eq, le-leb}
use Rattle.std.proofs.Common.{lt-ltb, sym, refl}
use Rattle.std.proofs.Math.Nat.{div-div-eq-div-mul, pow-suc}
use Rattle.std.proofs.lemmas.Bool.Decides.{nat_tests}
use Rattle.std.proofs.lemmas.Nat.{div-mul-add}
use Rattle.sd_tree_keys.specs.Node.{depth, IsAbove, IsProperlyAbove}
use Rattle.sd_tree_keys.specs.Leaves.{is_below}
use Rattle.sd_tree_keys.proofs.Levels.{depth_at}
use Rattle.sd_tree_keys.proofs.Ancestors.{above_trans, above_le, above_parent, above_comparable, leaf_level}

-- one more halving
pub halved_once_more : (n k : ℕ) → n / 2 ^ suc k ≡ n / 2 ^ k / 2
halved_once_more n k = rw pow-suc (sym (div-div-eq-div-mul n (2 ^ k) 2))

-- no node is below both children of a node
pub siblings_apart : (n v : ℕ) → 1 ≤ v → IsAbove (2 * v) n → IsAbove (2 * v + 1) n → ⊥
siblings_apart n v h left right =
    ⊎_elim (λ (a : IsAbove (2 * v) (2 * v + 1)).
    let le = above_le (2 * v) ((2 * v + 1) / 2) (above_parent (2 * v) (2 * v + 1) (a, λ e. omega arith)) in
    omega arith)
    (λ (a : IsAbove (2 * v + 1) (2 * v)). let le = above_le (2 * v + 1) (2 * v) a in omega arith)
    (above_comparable (2 * v) (2 * v + 1) n left right)

-- what is at or below a child is below the node
pub below_parent : (v w i : ℕ) → 1 ≤ v → w / 2 ≡ v → IsAbove w i → IsProperlyAbove v i
below_parent v w i h e a =
    let le = above_le w i a in
    (above_trans v w i (1, e) a, λ same. omega arith)

-- as many halvings as the tree is high lead from a leaf's node to the root
pub leaf_to_root : (d u : ℕ) → u < 2 ^ d → (2 ^ d + u) / 2 ^ d ≡ 1
leaf_to_root d u h =
    let e : 2 ^ d + u ≡ 1 * 2 ^ d + u = omega arith in
    rw e (div-mul-add 1 (2 ^ d) u h)

-- every leaf is below the root
pub below_root : (d w : ℕ) → w < 2 ^ d → is_below d 1 w ≡ true
unfolding is_below depth
below_root d w h =
    let e : d - 0 ≡ d = omega arith in
    rw (e, le-leb (1 * 2 ^ d) (2 ^ d + w) (omega arith), lt-ltb (2 ^ d + w) (2 * 2 ^ d) (omega arith)) refl

-- below a leaf's node is that leaf alone
pub below_leaf : (d u w : ℕ) → d < 32 → u < 2 ^ d → is_below d (2 ^ d + u) w ≡ nat_eq w u
unfolding is_below
below_leaf d u w h lt =
    let e : d - d ≡ 0 = omega arith in
    rw (depth_at (2 ^ d + u) d h (leaf_level d u lt), e) (grind (arith, nat_tests))
