-- Ancestors, and the leaves below them.
use Rattle.std.proofs.Common.{ℕ, suc, zero, ◌+◌, ◌-◌, ◌*◌, ◌/◌, ◌^◌, ◌<◌, ◌≤◌, ◌≡◌, true, sym, refl, ap, ◌∙◌, inl, inr}
use Rattle.std.proofs.Common.{⊎_elim, arith}
use Rattle.std.specs.Prelude.{◌⊎◌, ◌↔◌}
use Rattle.std.proofs.Math.Nat.{mul_assoc, add-mul, div-one, div-eq_of_lt, div-eq_of_lt-le, mul-le-mul_right}
use Rattle.std.proofs.Math.Nat.{le_of_mul-le-mul_right, div-mul-le_self, lt-div-mul-add}
use Rattle.std.proofs.Math.Pow.{pow_mono, shr-shr, pow-add, pow-lt, shr_le}
use Rattle.std.proofs.lemmas.Nat.{pow_pos}
use Rattle.std.proofs.lemmas.Bool.{cases_lt, cases_eq, and_parts, and_from, leb-true, ltb-true, le-leb, lt-ltb}
use Rattle.sd_tree_keys.specs.Node.{depth, IsAbove, IsProperlyAbove}
use Rattle.sd_tree_keys.specs.Leaves.{is_below, HoldsLeavesOf}
use Rattle.sd_base.proofs.Arithmetic.{times_next}
use Rattle.sd_tree_keys.proofs.Levels.{IsAtLevel, doubled, same_level, halved_level, depth_at}

-- a node is above itself
pub above_self : (v : ℕ) → IsAbove v v
above_self v = (0, div-one v)

-- a node's parent is above it
pub parent_above : (v : ℕ) → IsAbove (v / 2) v
parent_above v = (1, refl)

-- a node is above its left child
pub above_left : (v : ℕ) → IsAbove v (2 * v)
above_left v = (1, omega arith)

-- a node is above its right child
pub above_right : (v : ℕ) → IsAbove v (2 * v + 1)
above_right v = (1, omega arith)

-- what is above a node's ancestor is above the node
pub above_trans : (a b c : ℕ) → IsAbove a b → IsAbove b c → IsAbove a c
above_trans a b c p q =
    (q.0 + p.0, sym (shr-shr c q.0 p.0) ∙ (ap (λ (n : ℕ). n / 2 ^ p.0) q.1 ∙ p.1))

-- an ancestor has no greater number
pub above_le : (a b : ℕ) → IsAbove a b → a ≤ b
above_le a b p = let le = shr_le b p.0 in omega (arith, p.1)

-- two nodes above one node are above one another
pub above_comparable : (a b c : ℕ) → IsAbove a c → IsAbove b c → IsAbove a b ⊎ IsAbove b a
above_comparable a b c p q =
    ⊎_elim (λ (h : p.0 < q.0).
    let e : p.0 + (q.0 - p.0) ≡ q.0 = omega arith in
    inr (
      q.0 - p.0,
      ap (λ (n : ℕ). n / 2 ^ (q.0 - p.0)) (sym p.1)
          ∙ (shr-shr c p.0 (q.0 - p.0) ∙ (ap (λ (n : ℕ). c / 2 ^ n) e ∙ q.1)),
    ))
    (λ (h : q.0 ≤ p.0).
    let e : q.0 + (p.0 - q.0) ≡ p.0 = omega arith in
    inl (
      p.0 - q.0,
      ap (λ (n : ℕ). n / 2 ^ (p.0 - q.0)) (sym q.1)
          ∙ (shr-shr c q.0 (p.0 - q.0) ∙ (ap (λ (n : ℕ). c / 2 ^ n) e ∙ p.1)),
    ))
    (cases_lt p.0 q.0)

-- two nodes above one another are one
pub above_antisymmetric : (a b : ℕ) → IsAbove a b → IsAbove b a → a ≡ b
above_antisymmetric a b p q = let le = above_le a b p in let ge = above_le b a q in omega arith

root_above_within : (n v : ℕ) → 1 ≤ v → v ≤ n → IsAbove 1 v
root_above_within zero v low high = absurd (omega arith)
root_above_within (suc n) v low high =
    ⊎_elim (λ (h : v < 2). let e : v ≡ 1 = omega arith in rw e (above_self 1))
    (λ (h : 2 ≤ v). above_trans 1 (v / 2) v (root_above_within n (v / 2) (omega arith) (omega arith)) (parent_above v))
    (cases_lt v 2)

-- the root is above each node
pub root_above : (v : ℕ) → 1 ≤ v → IsAbove 1 v
root_above v low = root_above_within v v low (omega arith)

-- each node has a level
pub node_level : (v : ℕ) → 1 ≤ v → (k : ℕ) × IsAtLevel v k
node_level v low =
    let r = root_above v low in
    let k : ℕ = r.0 in
    let whole = div-mul-le_self v (2 ^ k) in
    let rest = lt-div-mul-add {a = v} {b = 2 ^ k} (pow_pos k) in
    let e : v / 2 ^ k ≡ 1 = r.1 in (
      k,
      record {
        low = (let w = rw e at whole in omega arith);
        high =
            (let w = rw e at rest in omega (arith, doubled k));
      },
    )

-- an ancestor of a node on level n stands on a level m up to n, and n - m halvings lead to it
pub above_by_levels : (i j m n : ℕ) → IsAtLevel i m → IsAtLevel j n → IsAbove i j → (m ≤ n) × (j / 2 ^ (n - m) ≡ i)
above_by_levels i j m n p q (k, e) =
    ⊎_elim (λ (h : n < k).
    let none : j / 2 ^ k ≡ 0 = div-eq_of_lt (omega (arith, pow_mono {i = n + 1} {j = k} (omega arith), q.high)) in
    absurd (omega (arith, pow_pos m, p.low)))
    (λ (h : k ≤ n).
    let here : IsAtLevel i (n - k) = rw e at (halved_level j n k h q) in
    let same = same_level i m (n - k) p here in
    let by : n - m ≡ k = omega arith in
    (omega arith, rw by e))
    (cases_lt n k)

-- a node's proper ancestor stands on a level above the node's, and one halving less than those to it leads to its child
pub properly_above_by_levels : (i j m n : ℕ) → IsAtLevel i m → IsAtLevel j n → IsProperlyAbove i j → (m < n)
    × (j / 2 ^ (n - m - 1) / 2 ≡ i)
properly_above_by_levels i j m n p q above =
    let by = above_by_levels i j m n p q above.0 in
    let less : m < n =
    ⊎_elim (λ (h : m < n). h)
    (λ (h : n ≤ m). let e : n - m ≡ 0 =
    omega arith in absurd (above.1 (sym (rw e at by.1) ∙ div-one j))) (cases_lt m n) in
    let e : n - m - 1 + 1 ≡ n - m = omega arith in
    (less, shr-shr j (n - m - 1) 1 ∙ (ap (λ (k : ℕ). j / 2 ^ k) e ∙ by.1))

-- what is properly above a node is above its parent
pub above_parent : (i j : ℕ) → IsProperlyAbove i j → IsAbove i (j / 2)
above_parent i j ((zero, e), apart) = absurd (apart (sym e ∙ div-one j))
above_parent i j ((suc k, e), apart) =
    let s : 1 + k ≡ suc k = omega arith in
    (k, shr-shr j 1 k ∙ (ap (λ (n : ℕ). j / 2 ^ n) s ∙ e))

-- what is above a node's parent is properly above the node
pub properly_above_from_parent : (i j : ℕ) → 1 ≤ j → IsAbove i (j / 2) → IsProperlyAbove i j
properly_above_from_parent i j low p =
    let le = above_le i (j / 2) p in
    (above_trans i (j / 2) j p (parent_above j), λ e. omega arith)

-- a child of each proper ancestor of a node is above the node
pub above_through_child : (i j : ℕ) → IsProperlyAbove i j → IsAbove (2 * i) j ⊎ IsAbove (2 * i + 1) j
above_through_child i j ((zero, e), apart) = absurd (apart (sym e ∙ div-one j))
above_through_child i j ((suc k, e), apart) =
    let s : k + 1 ≡ suc k = omega arith in
    let half : j / 2 ^ k / 2 ≡ i = shr-shr j k 1 ∙ (ap (λ (n : ℕ). j / 2 ^ n) s ∙ e) in
    ⊎_elim (λ (h : j / 2 ^ k < 2 * i + 1). inl (k, omega arith)) (λ (h : 2 * i + 1 ≤ j / 2 ^ k). inr (k, omega arith))
    (cases_lt (j / 2 ^ k) (2 * i + 1))

-- so many halvings lead to a node exactly where it is above
pub above_tested : (i j m n : ℕ) → IsAtLevel i m → IsAtLevel j n → (j / 2 ^ (n - m) ≡ i) ↔ IsAbove i j
above_tested i j m n p q = (λ e. (n - m, e), λ above. (above_by_levels i j m n p q above).1)

-- a node is above another, or it isn't
pub above_or_not : (i j : ℕ) → 1 ≤ i → 1 ≤ j → IsAbove i j ⊎ ¬ IsAbove i j
above_or_not i j low_i low_j =
    let m = node_level i low_i in
    let n = node_level j low_j in
    let tested = above_tested i j m.0 n.0 m.1 n.1 in
    ⊎_elim (λ (e : j / 2 ^ (n.0 - m.0) ≡ i). inl (tested.0 e)) (λ (ne : j / 2 ^ (n.0 - m.0) ≡ i
    → ⊥). inr (λ p. ne (tested.1 p))) (cases_eq (j / 2 ^ (n.0 - m.0)) i)

-- the node of leaf u stands on the lowest level
pub leaf_level : (d u : ℕ) → u < 2 ^ d → IsAtLevel (2 ^ d + u) d
leaf_level d u h = record { low = omega arith; high = omega (arith, doubled d) }

-- a node of a tree of height d stands on its level by `depth`, d at most
pub depth_within : (d v : ℕ) → d ≤ 20 → 1 ≤ v → v < 2 ^ (d + 1) → IsAtLevel v (depth v) × (depth v ≤ d)
depth_within d v h low high =
    let n = node_level v low in
    let k : ℕ = n.0 in
    let within : k ≤ d =
    ⊎_elim (λ (g : d < k). absurd (omega (arith, pow_mono {i = d + 1} {j = k} (omega arith), n.1.low)))
    (λ (g : k ≤ d). g) (cases_lt d k) in
    let same = depth_at v k (omega arith) n.1 in
    rw same (n.1, within)

-- the node of a leaf stands in the interval of each node that the leaf is below
pub within_from_below : (d v u : ℕ) → is_below d v u ≡ true → (v * 2 ^ (d - depth v) ≤ 2 ^ d + u)
    × (2 ^ d + u < (v + 1) * 2 ^ (d - depth v))
unfolding is_below
within_from_below d v u h = let both = and_parts _ _ h in (leb-true _ _ both.0, ltb-true _ _ both.1)

-- a leaf is below each node in whose interval its node stands
pub below_from_within : (d v u : ℕ) → v * 2 ^ (d - depth v) ≤ 2 ^ d + u → 2 ^ d + u < (v + 1) * 2 ^ (d - depth v)
    → is_below d v u ≡ true
unfolding is_below
below_from_within d v u from to = and_from _ _ (le-leb _ _ from) (lt-ltb _ _ to)

-- a node is above the leaves that are below it
pub above_from_below : (d v u : ℕ) → is_below d v u ≡ true → IsAbove v (2 ^ d + u)
above_from_below d v u h =
    let within = within_from_below d v u h in
    (d - depth v, div-eq_of_lt-le (2 ^ (d - depth v)) within.0 within.1)

-- a leaf is below the nodes that are above it
pub below_from_above : (d v u : ℕ) → d ≤ 20 → 1 ≤ v → v < 2 ^ (d + 1) → u < 2 ^ d → IsAbove v (2 ^ d + u)
    → is_below d v u ≡ true
below_from_above d v u h low high leaf p =
    let at = depth_within d v h low high in
    let by = above_by_levels v (2 ^ d + u) (depth v) d at.0 (leaf_level d u leaf) p in
    let whole = rw by.1 at (div-mul-le_self (2 ^ d + u) (2 ^ (d - depth v))) in
    let rest = rw by.1 at (lt-div-mul-add {a = 2 ^ d + u} {b = 2 ^ (d - depth v)} (pow_pos (d - depth v))) in
    below_from_within d v u whole (omega (arith, times_next v (2 ^ (d - depth v)), rest))

-- leaf u is below node v exactly where v is above the leaf's node
pub below_is_above : (d v u : ℕ) → d ≤ 20 → 1 ≤ v → v < 2 ^ (d + 1) → u < 2 ^ d → (is_below d v u ≡ true)
    ↔ IsAbove v (2 ^ d + u)
below_is_above d v u h low high leaf = (above_from_below d v u, below_from_above d v u h low high leaf)

-- an interval within another of q times its size ends where the other does or before
scaled : (i j p q w : ℕ) → 0 < p → w ≡ q * p → i * w ≤ j * p → j * p + p ≤ i * w + w → j / q ≡ i
scaled i j p q w pos e from to =
    let a : i * w ≡ i * q * p = ap (λ (n : ℕ). i * n) e ∙ sym (mul_assoc i q p) in
    let b : (i + 1) * q * p ≡ i * q * p + q * p = ap (λ (n : ℕ). n * p) (times_next i q) ∙ add-mul (i * q) q p in
    let c : (j + 1) * p ≡ j * p + p = times_next j p in
    let low : i * q ≤ j = le_of_mul-le-mul_right {m = i * q} {n = j} {k = p} (omega arith) pos in
    let high : j + 1 ≤ (i + 1) * q = le_of_mul-le-mul_right {m = j + 1} {n = (i + 1) * q} {k = p} (omega arith) pos in
    div-eq_of_lt-le {k = i} q {m = j} low (omega arith)

-- an interval within another, both of a power of 2 and at a multiple of it, is of a node below the other's
interval_above : (i j e f : ℕ) → i * 2 ^ f ≤ j * 2 ^ e → j * 2 ^ e + 2 ^ e ≤ i * 2 ^ f + 2 ^ f → IsAbove i j
interval_above i j e f from to =
    ⊎_elim (λ (h : f < e). absurd (omega (arith, pow-lt {i = f} {j = e} h)))
    (λ (h : e ≤ f).
    let s : f - e + e ≡ f = omega arith in
    let parts : 2 ^ f ≡ 2 ^ (f - e) * 2 ^ e = sym (sym (pow-add 2 (f - e) e) ∙ ap (λ (n : ℕ). 2 ^ n) s) in
    (f - e, scaled i j (2 ^ e) (2 ^ (f - e)) (2 ^ f) (pow_pos e) parts from to))
    (cases_lt f e)

-- all leaves below a node are below the nodes above it
pub leaves_from_above : (d i j : ℕ) → d ≤ 20 → 1 ≤ i → i < 2 ^ (d + 1) → IsAbove i j → HoldsLeavesOf d i j
leaves_from_above d i j h low high p u leaf below =
    below_from_above d i u h low high leaf (above_trans i j (2 ^ d + u) p (above_from_below d j u below))

-- the interval of a node is within the interval of all leaves
pub interval_within : (d v : ℕ) → d ≤ 20 → 1 ≤ v → v < 2 ^ (d + 1) → (2 ^ d ≤ v * 2 ^ (d - depth v))
    × ((v + 1) * 2 ^ (d - depth v) ≤ 2 ^ d + 2 ^ d)
interval_within d v h low high =
    let at = depth_within d v h low high in
    let e : ℕ = d - depth v in
    let s : depth v + e ≡ d = omega (arith, at.1) in
    let parts : 2 ^ d ≡ 2 ^ depth v * 2 ^ e = sym (sym (pow-add 2 (depth v) e) ∙ ap (λ (n : ℕ). 2 ^ n) s) in
    let up : v + 1 ≤ 2 ^ depth v + 2 ^ depth v = omega (arith, doubled (depth v), at.0.high) in (
      rw parts (mul-le-mul_right (2 ^ e) at.0.low),
      rw parts (rw (sym (add-mul (2 ^ depth v) (2 ^ depth v) (2 ^ e))) (mul-le-mul_right (2 ^ e) up)),
    )

-- a node that holds all leaves below another node is above it
pub above_from_leaves : (d i j : ℕ) → d ≤ 20 → 1 ≤ j → j < 2 ^ (d + 1) → HoldsLeavesOf d i j → IsAbove i j
above_from_leaves d i j h low high holds =
    let e : ℕ = d - depth j in
    let f : ℕ = d - depth i in
    let all = interval_within d j h low high in
    let more : (j + 1) * 2 ^ e ≡ j * 2 ^ e + 2 ^ e = times_next j (2 ^ e) in
    let first : 2 ^ d ≤ j * 2 ^ e = all.0 in
    let last : (j + 1) * 2 ^ e ≤ 2 ^ d + 2 ^ d = all.1 in
    let pos = pow_pos e in
    let left : 2 ^ d + (j * 2 ^ e - 2 ^ d) ≡ j * 2 ^ e = omega arith in
    let right : 2 ^ d + (j * 2 ^ e + 2 ^ e - 1 - 2 ^ d) ≡ j * 2 ^ e + 2 ^ e - 1 = omega arith in
    let in_left =
    within_from_below d i (j * 2 ^ e - 2 ^ d)
    (holds (j * 2 ^ e - 2 ^ d) (omega arith)
    (below_from_within d j (j * 2 ^ e - 2 ^ d) (omega arith) (omega arith))) in
    let in_right =
    within_from_below d i (j * 2 ^ e + 2 ^ e - 1 - 2 ^ d)
    (holds (j * 2 ^ e + 2 ^ e - 1 - 2 ^ d) (omega arith)
    (below_from_within d j (j * 2 ^ e + 2 ^ e - 1 - 2 ^ d) (omega arith) (omega arith))) in
    interval_above i j e f (omega (arith, in_left.0)) (omega (arith, times_next i (2 ^ f), in_right.1))

-- a node is above another exactly where all leaves below that one are below it
pub above_is_leaves : (d i j : ℕ) → d ≤ 20 → 1 ≤ i → 1 ≤ j → i < 2 ^ (d + 1) → j < 2 ^ (d + 1) → IsAbove i j
    ↔ HoldsLeavesOf d i j
above_is_leaves d i j h low_i low_j high_i high_j =
    (leaves_from_above d i j h low_i high_i, above_from_leaves d i j h low_j high_j)
