-- Labels of nodes below one another.
use Rattle.std.proofs.Common.{ℕ, suc, zero, ◌+◌, ◌-◌, ◌*◌, ◌/◌, ◌%◌, ◌^◌, ◌<◌, ◌≤◌, ◌≡◌, List, refl, ap, ◌∙◌, ⊎_elim}
use Rattle.std.proofs.Common.{arith, add-zero, add-one, add-suc}
use Rattle.std.proofs.Math.Nat.{div-one}
use Rattle.std.proofs.Math.Pow.{pow_mono, shr-shr}
use Rattle.std.proofs.lemmas.Bool.{cases_lt}
use Rattle.sd_tree_keys.specs.Node.{depth, IsAbove}
use Rattle.sd_tree_keys.proofs.Levels.{IsAtLevel, doubled, depth_at}
use Rattle.sd_tree_keys.proofs.Ancestors.{node_level, above_le, above_by_levels}
use Rattle.sd_tree_keys.specs.Labels.{label_below, descended, label_of, label_of_node, third_of, side_of, left_of}
use Rattle.sd_tree_keys.specs.Labels.{right_of}

-- a node of 32 bits stands on the level of its depth
pub level_of : (v : ℕ) → 1 ≤ v → v < 2 ^ 32 → IsAtLevel v (depth v)
level_of v low high =
    let (k, at) = node_level v low in
    let small : k < 32 =
    ⊎_elim (λ (h : k < 32). h) (λ (h : 32 ≤ k). absurd (omega (arith, pow_mono {i = 32} {j = k} h, at.low)))
    (cases_lt k 32) in
    rw (depth_at v k small at) at

-- a child stands one level lower
pub child_level : (v : ℕ) → 1 ≤ v / 2 → v < 2 ^ 32 → depth v ≡ depth (v / 2) + 1
child_level v low high =
    let at = level_of (v / 2) low (omega arith) in
    let k : ℕ = depth (v / 2) in
    let here : IsAtLevel v (k + 1) =
    record { low = omega (arith, doubled k, at.low); high = omega (arith, doubled (k + 1), at.high) } in
    let small : k + 1 < 32 =
    ⊎_elim (λ (h : k + 1 < 32). h)
    (λ (h : 32 ≤ k + 1). absurd (omega (arith, pow_mono {i = 32} {j = k + 1} h, here.low))) (cases_lt (k + 1) 32) in
    depth_at v (k + 1) small here

-- going down m levels and then k more is going down m + k
pub below_twice : (label : List ℕ) (m k j : ℕ)
    → label_below (label_below label m (j / 2 ^ k)) k j ≡ label_below label (m + k) j
unfolding label_below
below_twice label m zero j = rw (div-one j) (rw (add-zero m) refl)
below_twice label m (suc k) j =
    let s : 1 + k ≡ suc k = omega arith in
    let halved : j / 2 / 2 ^ k ≡ j / 2 ^ suc k = shr-shr j 1 k ∙ ap (λ (n : ℕ). j / 2 ^ n) s in
    let rest = below_twice label m k (j / 2) in
    rw (add-suc m k) (ap (third_of (side_of j)) (rw halved at rest))

-- the label at w leads to what the label at a node above w leads to
pub descended_twice : (label : List ℕ) (i w j : ℕ) → 1 ≤ i → j < 2 ^ 32 → IsAbove i w → IsAbove w j
    → descended (descended label i w) w j ≡ descended label i j
unfolding descended
descended_twice label i w j low high over under =
    let le = above_le i w over in
    let le' = above_le w j under in
    let at_i = level_of i low (omega arith) in
    let at_w = level_of w (omega arith) (omega arith) in
    let at_j = level_of j (omega arith) high in
    let up = above_by_levels i w (depth i) (depth w) at_i at_w over in
    let down = above_by_levels w j (depth w) (depth j) at_w at_j under in
    let levels : depth w - depth i + (depth j - depth w) ≡ depth j - depth i = omega (arith, up.0, down.0) in
    let parts = below_twice label (depth w - depth i) (depth j - depth w) j in
    rw levels at (rw down.1 at parts)

-- a label that is held at w leads to the labels of all nodes below w
pub held_gives_label : (master : List ℕ) (i w j : ℕ) → 1 ≤ i → j < 2 ^ 32 → IsAbove i w → IsAbove w j
    → descended (label_of master i w) w j ≡ label_of master i j
unfolding label_of
held_gives_label master i w j low high over under = descended_twice (label_of_node master i) i w j low high over under

-- a node's label is that of its pair with itself
pub label_of_itself : (master : List ℕ) (i : ℕ) → label_of master i i ≡ label_of_node master i
unfolding label_of descended label_below
label_of_itself master i = let e : depth i - depth i ≡ 0 = omega arith in rw e refl

-- a child's label is a third of its parent's
pub label_of_child : (master : List ℕ) (i j : ℕ) → 1 ≤ i → j < 2 ^ 32 → IsAbove i (j / 2)
    → label_of master i j ≡ third_of (side_of j) (label_of master i (j / 2))
unfolding label_of descended label_below
label_of_child master i j low high over =
    let le = above_le i (j / 2) over in
    let at_i = level_of i low (omega arith) in
    let at_v = level_of (j / 2) (omega arith) (omega arith) in
    let up = above_by_levels i (j / 2) (depth i) (depth (j / 2)) at_i at_v over in
    let levels : depth j - depth i ≡ suc (depth (j / 2) - depth i) =
    omega (arith, up.0, child_level j (omega arith) high) in
    rw levels refl

-- the label of a left child
pub label_of_left : (master : List ℕ) (i v : ℕ) → 1 ≤ i → 2 * v < 2 ^ 32 → IsAbove i v
    → label_of master i (2 * v) ≡ left_of (label_of master i v)
label_of_left master i v low high over =
    let half : 2 * v / 2 ≡ v = omega arith in
    let even : 2 * v % 2 ≡ 0 = omega arith in
    let child = label_of_child master i (2 * v) low high (rw half over) in
    rw even at (rw half at child)

-- the label of a right child
pub label_of_right : (master : List ℕ) (i v : ℕ) → 1 ≤ i → 2 * v + 1 < 2 ^ 32 → IsAbove i v
    → label_of master i (2 * v + 1) ≡ right_of (label_of master i v)
label_of_right master i v low high over =
    let half : (2 * v + 1) / 2 ≡ v = omega arith in
    let odd : (2 * v + 1) % 2 ≡ 1 = omega arith in
    let child = label_of_child master i (2 * v + 1) low high (rw half over) in
    rw odd at (rw half at child)

-- no level down is the label that was given
pub below_none : (label : List ℕ) (j : ℕ) → label_below label 0 j ≡ label
unfolding label_below
below_none label j = refl

-- of n levels to a node, one more after the first k
pub below_more : (label : List ℕ) (j k n : ℕ) → k < n
    → third_of (side_of (j / 2 ^ (n - k - 1))) (label_below label k (j / 2 ^ (n - k)))
    ≡ label_below label (k + 1) (j / 2 ^ (n - (k + 1)))
unfolding label_below
below_more label j k n h =
    let s : n - k - 1 + 1 ≡ n - k = omega arith in
    let halved : j / 2 ^ (n - k - 1) / 2 ≡ j / 2 ^ (n - k) = shr-shr j (n - k - 1) 1 ∙ ap (λ (m : ℕ). j / 2 ^ m) s in
    let same : n - (k + 1) ≡ n - k - 1 = omega arith in
    rw (same, add-one k, halved) refl

-- the node that is no level above a node
pub no_level_up : (j n : ℕ) → j / 2 ^ (n - n) ≡ j
no_level_up j n = let e : n - n ≡ 0 = omega arith in rw e (div-one j)

-- an ancestor stands no lower, by the levels that are counted for both
pub levels_above : (i j m n : ℕ) → 2 ^ m ≤ i → i < 2 ^ (m + 1) → 2 ^ n ≤ j → j < 2 ^ (n + 1) → IsAbove i j → m ≤ n
levels_above i j m n low_i high_i low_j high_j over =
    (above_by_levels i j m n (record { low = low_i; high = high_i }) (record { low = low_j; high = high_j }) over).0
