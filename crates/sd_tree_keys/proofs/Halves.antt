-- A set that is cut in two at a node between its upper and its lower node.
use Rattle.std.proofs.Common.{◌≡◌, ℕ, ◌+◌, ◌*◌, ◌^◌, ◌<◌, ◌≤◌, ◌&&◌, Bool, true, false, not, nat_lt, if◌then◌else◌}
use Rattle.std.proofs.Common.{refl, sym, subst, arith}
use Rattle.std.proofs.lemmas.Bool.Decides.{nat_tests}
use Rattle.sd_tree_keys.specs.Node.{IsAbove, IsProperlyAbove}
use Rattle.sd_tree_keys.specs.Leaves.{is_below, is_member}
use Rattle.sd_tree_keys.specs.SetNames.{IsPair}
use Rattle.sd_tree_keys.specs.declared.set.SetName.TheVariants.{Diff}
use Rattle.sd_tree_keys.proofs.Levels.{doubled}
use Rattle.sd_tree_keys.proofs.Ancestors.{above_trans, above_le, above_antisymmetric, below_is_above}

-- what is properly above a node that is properly above a third is properly above that
properly_chain : (i k j : ℕ) → IsProperlyAbove i k → IsProperlyAbove k j → IsProperlyAbove i j
properly_chain i k j a b = (
  above_trans i k j a.0 b.0,
  λ same.
      a.1 (above_antisymmetric i k a.0 (subst (λ (v : ℕ). IsAbove k v) (sym same) b.0)),
)

-- the upper node of one pair and the lower node of the next make a pair
pub cut_pair : (d i k j : ℕ) → IsPair d i k → IsPair d k j → IsPair d i j
cut_pair d i k j a b = record {
  inner = a.inner;
  node = b.node;
  above = properly_chain i k j a.above b.above;
}

-- leaves below a node are below the nodes above it
below_higher : (d i j u : ℕ) → d ≤ 20 → 1 ≤ i → i < 2 ^ (d + 1) → 1 ≤ j → j < 2 ^ (d + 1) → u < 2 ^ d →
    IsAbove i j → is_below d j u ≡ true → is_below d i u ≡ true
below_higher d i j u low some node jsome jnode leaf above is =
    (below_is_above d i u low some node leaf).1
    (above_trans i j (2 ^ d + u) above ((below_is_above d j u low jsome jnode leaf).0 is))

-- of three tests, each of which holds where the next does, the differences add up
adds_up : (a b c : Bool) → (b ≡ true → a ≡ true) → (c ≡ true → b ≡ true) →
    (if true && (a && not b) then 1 else 0) + (if true && (b && not c) then 1 else 0) ≡ (if true && (a && not c) then 1
    else 0)
adds_up true true true f g = refl
adds_up true true false f g = refl
adds_up true false false f g = refl
adds_up false false false f g = refl
adds_up a false true f g = absurd (grind (arith, g refl))
adds_up false true c f g = absurd (grind (arith, f refl))

-- each leaf is in both parts together as often as in the whole
pub cut_counts : (d i k j u : ℕ) → d ≤ 20 → IsPair d i k → IsPair d k j → u < 2 ^ d →
    (if is_member d (Diff i k) u then 1 else 0) + (if is_member d (Diff k j) u then 1 else 0) ≡
    (if is_member d (Diff i j) u then 1 else 0)
cut_counts d i k j u low a b leaf =
    let inside : nat_lt u (2 ^ d) ≡ true = grind (arith, nat_tests, leaf) in
    let double : 2 ^ (d + 1) ≡ 2 * 2 ^ d = doubled d in
    let k_some : 1 ≤ k = omega (arith, a.inner.0, above_le i k a.above.0) in
    let j_some : 1 ≤ j = omega (arith, k_some, above_le k j b.above.0) in
    let i_node : i < 2 ^ (d + 1) = omega (arith, a.inner.1, double) in
    rw inside (adds_up (is_below d i u) (is_below d k u) (is_below d j u)
    (below_higher d i k u low a.inner.0 i_node k_some a.node leaf a.above.0)
    (below_higher d k j u low k_some a.node j_some b.node leaf b.above.0))
