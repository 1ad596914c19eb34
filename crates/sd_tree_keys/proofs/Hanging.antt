-- The node beside a leaf's path that another node stands below.
use Rattle.std.proofs.Common.{ℕ, suc, zero, ◌+◌, ◌*◌, ◌/◌, ◌^◌, ◌<◌, ◌≤◌, ◌≡◌, ◌≢◌, sym, subst, ap, ◌∙◌, ⊎_elim, arith}
use Rattle.std.proofs.Math.Nat.{div-one}
use Rattle.std.proofs.Math.Pow.{shr-shr}
use Rattle.std.proofs.lemmas.Nat.{pow_pos}
use Rattle.sd_tree_keys.specs.Node.{IsAbove, IsProperlyAbove}
use Rattle.sd_tree_keys.proofs.Ancestors.{above_le, above_self, above_trans, above_or_not, above_parent}
use Rattle.sd_tree_keys.proofs.Ancestors.{above_comparable}
use Rattle.sd_tree_keys.proofs.Ancestors.{above_through_child, parent_above, properly_above_from_parent}
use Rattle.sd_tree_keys.specs.Names.{IsGivenPair}
use Rattle.sd_tree_keys.proofs.Paths.{other_child}

-- of two nodes with one parent, not both are above a node
pub one_child_above : (v w n : ℕ) → 1 ≤ w → 1 ≤ v → w / 2 ≡ v / 2 → w ≢ v → IsAbove v n → IsAbove w n → ⊥
one_child_above v w n low_w low_v half apart over_v over_w =
    ⊎_elim
    (λ (h : IsAbove v w). let le = above_le v (w / 2) (above_parent v w (h, λ e. apart (sym e))) in omega arith)
    (λ (h : IsAbove w v). let le = above_le w (v / 2) (above_parent w v (h, apart)) in omega arith)
    (above_comparable v w n over_v over_w)

-- a node on the way from j up to i that isn't above n, and whose parent is
pub record LeavesPath (i j n : ℕ) : Type 0 where
  pub node : ℕ
  pub some : 1 ≤ node
  pub above : IsAbove node j
  pub under : IsAbove i (node / 2)
  pub parent : IsAbove (node / 2) n
  pub beside : IsAbove node n → ⊥

-- there is one where i is above n and j isn't
leaves_within : (i n k j : ℕ) → 1 ≤ i → 1 ≤ n → j / 2 ^ k ≡ i → IsAbove i n → (IsAbove j n → ⊥) → LeavesPath i j n
leaves_within i n zero j low some e over beside = absurd
    (beside (subst (λ (m : ℕ). IsAbove m n) (sym e ∙ div-one j) over))
leaves_within i n (suc k) j low some e over beside =
    let s : 1 + k ≡ suc k = omega arith in
    let halved : j / 2 / 2 ^ k ≡ i = shr-shr j 1 k ∙ (ap (λ (m : ℕ). j / 2 ^ m) s ∙ e) in
    let le = above_le i (j / 2) (k, halved) in
    ⊎_elim
    (λ (h : IsAbove (j / 2) n). record {
      node = j;
      some = omega arith;
      above = above_self j;
      under = (k, halved);
      parent = h;
      beside = beside;
    })
    (λ (h : IsAbove (j / 2) n → ⊥).
    let up = leaves_within i n k (j / 2) low some halved over h in
    record {
      node = up.node;
      some = up.some;
      above = above_trans up.node (j / 2) j up.above (parent_above j);
      under =
          up.under;
      parent = up.parent;
      beside = up.beside;
    })
    (above_or_not (j / 2) n (omega arith) some)

-- a node of the tree that isn't on a leaf's path stands below a node whose sibling is on it
pub hangs : (d u i j : ℕ) → u < 2 ^ d → 1 ≤ i → j < 2 * 2 ^ d → IsAbove i j → IsAbove i (2 ^ d + u) →
    (IsAbove j (2 ^ d + u) → ⊥) → (w : ℕ) × IsGivenPair d u i w × (1 ≤ w) × IsAbove w j
hangs d u i j leaf low high above over beside =
    let leave = leaves_within i (2 ^ d + u) above.0 j low (omega (arith, pow_pos d)) above.1 over beside in
    let w : ℕ = leave.node in
    let le = above_le w j leave.above in
    let up = above_le i (w / 2) leave.under in
    let properly : IsProperlyAbove (w / 2) (2 ^ d + u) = (leave.parent, λ e. omega arith) in
    let made : (c : ℕ) → c / 2 ≡ w / 2 → IsAbove c (2 ^ d + u) → IsGivenPair d u i w = λ c half path. record {
      node = c;
      inner = low;
      ancestor = properly_above_from_parent i c (omega arith) (rw half leave.under);
      path = path;
      hanging = other_child c w (sym half) (λ e. leave.beside (rw e path));
    } in (
      w,
      ⊎_elim (λ (h : IsAbove (2 * (w / 2)) (2 ^ d + u)). made (2 * (w / 2)) (omega arith) h)
          (λ (h : IsAbove (2 * (w / 2) + 1) (2 ^ d + u)). made (2 * (w / 2) + 1) (omega arith) h)
          (above_through_child (w / 2) (2 ^ d + u) properly),
      leave.some,
      leave.above,
    )
