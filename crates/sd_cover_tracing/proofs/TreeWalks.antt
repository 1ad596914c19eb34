-- There is a walk: a list of the sets of all chains, with what it says of each leaf.
use Rattle.std.proofs.Common.{◌≡◌, ◌≢◌, ℕ, suc, zero, subst, inl, inr, ◌+◌, ◌-◌, ◌*◌, ◌/◌, ◌^◌, ◌<◌, Bool, true, false}
use Rattle.std.proofs.Common.{◌&&◌, nat_eq, List, [], ◌∷◌, ◌++◌, eqb-true, arith, sym, ◌∙◌, refl}
use Rattle.std.specs.List.{list_any}
use Rattle.sd_base.proofs.Bools.{or_swap}
use Rattle.sd_tree_keys.specs.Leaves.{is_below, HoldsLeavesOf}
use Rattle.sd_tree_keys.specs.declared.set.SetName.{SetName}
use Rattle.std.proofs.lemmas.Bool.{cases_Bool}
use Rattle.sd_cover_tracing.proofs.Lists.{member_first, found_member}
use Rattle.sd_tree_keys.proofs.Ancestors.{root_above}
use Rattle.std.proofs.lemmas.Nat.{pow_pos}
use Rattle.sd_tree_keys.specs.Paths.{sibling_of}
use Rattle.sd_cover_tracing.specs.Chains.{IsInTree, HasTwoChildren}
use Rattle.sd_cover_tracing.specs.Walk.{IsOnChain, AreChainsFrom, node_at, of_ends}
use Rattle.sd_cover_tracing.proofs.Ends.{AreLeaves, child_cases, sibling_cases}
use Rattle.sd_cover_tracing.specs.Walk.{StandsAt}
use Rattle.sd_cover_tracing.proofs.Levels.{below_either, below_one, below_by_halvings, in_tree_or, in_tree_to}
use Rattle.sd_cover_tracing.proofs.Levels.{in_tree_from, some_child, child_stands}
use Rattle.sd_cover_tracing.proofs.AtNode.{walk_leaf, walk_two, walk_one, on_chain_child, on_chain_begun}
use Rattle.sd_cover_tracing.proofs.SetCounts.{IsCounted, counted_leaf, counted_two, counted_one}

-- a list of the sets of the chains from v on
pub record IsWalk (d : ℕ) (revoked : List ℕ) (head v : ℕ) : Type 0 where
  pub sets : List SetName
  pub chains : AreChainsFrom d revoked head v sets
  pub counted : IsCounted d revoked head v sets

-- both tests pass, in the other order
and_swap : (a b : Bool) → (a && b) ≡ (b && a)
and_swap true true = refl
and_swap true false = refl
and_swap false true = refl
and_swap false false = refl

-- the two children of a node are siblings
sibling_left : (d v : ℕ) (revoked : List ℕ) → IsInTree d revoked (2 * v + 1) → IsInTree d revoked (sibling_of (2 * v))
sibling_left d v revoked t = elim (sibling_cases (2 * v)) [
  | inl left ↦ let same : 2 * v + 1 ≡ sibling_of (2 * v) =
      (let e = left.1 in let f = left.2 in omega arith) in subst (IsInTree d revoked) same t
  | inr right ↦ absurd (let e = right.1 in omega arith)
]

sibling_right : (d v : ℕ) (revoked : List ℕ) → IsInTree d revoked (2 * v) → IsInTree d revoked (sibling_of (2 * v + 1))
sibling_right d v revoked t = elim (sibling_cases (2 * v + 1)) [
  | inl left ↦ absurd (let e = left.1 in omega arith)
  | inr right ↦ let same : 2 * v ≡ sibling_of (2 * v + 1) =
      (let e = right.1 in let f = right.2 in omega arith) in subst (IsInTree d revoked) same t
]

-- where both children of a node are in the tree, each begins a chain
pub on_chain_left : (d v : ℕ) (revoked : List ℕ) → HasTwoChildren d revoked v → IsOnChain d revoked (2 * v) (2 * v)
on_chain_left d v revoked two = on_chain_begun d revoked (2 * v) (inr (sibling_left d v revoked two.1)) two.0

pub on_chain_right : (d v : ℕ) (revoked : List ℕ) → HasTwoChildren d revoked v
    → IsOnChain d revoked (2 * v + 1) (2 * v + 1)
on_chain_right d v revoked two = on_chain_begun d revoked (2 * v + 1) (inr (sibling_right d v revoked two.0)) two.1

-- where a leaf is revoked, the root is in the tree
pub root_in_tree : (d : ℕ) (revoked : List ℕ) → AreLeaves d revoked → revoked ≢ [] → IsInTree d revoked 1
root_in_tree d [] leaves some = absurd (some refl)
root_in_tree d (u ∷ us) leaves some =
    let some_leaf = pow_pos d in
    (omega arith, (u, member_first u us, root_above (2 ^ d + u) (omega arith)))

module _ (d : ℕ) (revoked : List ℕ) (small : d < 32) (leaves : AreLeaves d revoked) where
  -- the walk at a revoked leaf's node
  walk_at_leaf : (head v : ℕ) → StandsAt d 0 v → IsOnChain d revoked head v → IsWalk d revoked head v
  walk_at_leaf head v at on =
      let to = in_tree_to d 0 v revoked leaves at on.inside in
      let u = to.0 in
      let is : (2 ^ d + u) / 1 ≡ v = to.2 in
      let same : 2 ^ d + u ≡ v = omega arith in
      let on' = subst (IsOnChain d revoked head) (sym same) on in
      subst (IsWalk d revoked head) same (record {
        sets = of_ends head (2 ^ d + u);
        chains = walk_leaf d revoked head (2 ^ d + u) leaves on' (omega arith) (inl (u, to.1, refl));
        counted = counted_leaf d head u revoked small (leaves u to.1) to.1;
      })

  -- a leaf below a node that isn't in the tree isn't revoked
  free_below : (level x : ℕ) → StandsAt d level x → (IsInTree d revoked x → ⊥) → (u : ℕ) → u < 2 ^ d
      → is_below d x u ≡ true → list_any (nat_eq u) revoked ≡ false
  free_below level x at none u h b =
      elim (cases_Bool (list_any (nat_eq u) revoked)) [
        | inl yes' ↦
            let is = eqb-true (node_at d level u) x (sym (below_by_halvings d level x u small at) ∙ b) in
            absurd (none (in_tree_from d level x u revoked at (found_member u revoked yes') is))
        | inr no' ↦ no'
      ]

  -- the walk at a node with two children in the tree
  walk_at_two : (level head v : ℕ) → StandsAt d (suc level) v → IsOnChain d revoked head v → HasTwoChildren d revoked v
      → IsWalk d revoked (2 * v) (2 * v) → IsWalk d revoked (2 * v + 1) (2 * v + 1) → IsWalk d revoked head v
  walk_at_two level head v at on two p q = record {
    sets = of_ends head v ++ (p.sets ++ q.sets);
    chains = walk_two d revoked head v p.sets q.sets leaves on two p.chains q.chains;
    counted = counted_two d level head v revoked p.sets q.sets small at p.counted q.counted;
  }

  -- the walk at a node with its left child alone in the tree, or its right one alone
  walk_at_left : (level head v : ℕ) → StandsAt d (suc level) v → HoldsLeavesOf d head v → IsInTree d revoked v
      → IsInTree d revoked (2 * v) → (IsInTree d revoked (2 * v + 1) → ⊥) → IsWalk d revoked head (2 * v)
      → IsWalk d revoked head v
  walk_at_left level head v at cover t l r p = record {
    sets = p.sets;
    chains = walk_one d revoked head v (2 * v) p.sets t.0 (inl (l, r)) (omega arith) l p.chains;
    counted = counted_one d head v (2 * v) (2 * v + 1) revoked p.sets
        (λ u. below_either d level v u small at) (λ u. below_one d level v u small at)
        (free_below level (2 * v + 1) (child_stands d level v (2 * v + 1) at (omega arith)) r) cover p.counted;
  }

  walk_at_right : (level head v : ℕ) → StandsAt d (suc level) v → HoldsLeavesOf d head v → IsInTree d revoked v
      → (IsInTree d revoked (2 * v) → ⊥) → IsInTree d revoked (2 * v + 1) → IsWalk d revoked head (2 * v + 1)
      → IsWalk d revoked head v
  walk_at_right level head v at cover t l r p = record {
    sets = p.sets;
    chains = walk_one d revoked head v (2 * v + 1) p.sets t.0 (inr (l, r)) (omega arith) r p.chains;
    counted = counted_one d head v (2 * v + 1) (2 * v) revoked p.sets
        (λ u. below_either d level v u small at ∙ or_swap (is_below d (2 * v) u) (is_below d (2 * v + 1) u))
        (λ u. and_swap (is_below d (2 * v + 1) u) (is_below d (2 * v) u) ∙ below_one d level v u small at)
        (free_below level (2 * v) (child_stands d level v (2 * v) at (omega arith)) l) cover p.counted;
  }

  -- what has the leaves below a node has those below its children
  covers_left : (level head v : ℕ) → StandsAt d (suc level) v → HoldsLeavesOf d head v → HoldsLeavesOf d head (2 * v)
  covers_left level head v at cover u h b = cover u h (below_either d level v u small at ∙ rw b refl)

  covers_right : (level head v : ℕ) → StandsAt d (suc level) v → HoldsLeavesOf d head v
      → HoldsLeavesOf d head (2 * v + 1)
  covers_right level head v at cover u h b =
      cover u h (below_either d level v u small at
      ∙ (or_swap (is_below d (2 * v) u) (is_below d (2 * v + 1) u) ∙ rw b refl))

  -- a node of the tree above the leaves has a child in the tree
  pub no_child : (level v : ℕ) → StandsAt d (suc level) v → IsInTree d revoked v → (IsInTree d revoked (2 * v) → ⊥)
      → (IsInTree d revoked (2 * v + 1) → ⊥) → ⊥
  no_child level v at t l r =
      let child = some_child d level v revoked leaves at t in
      elim (child_cases v child.0 child.1) [
        | inl left ↦ l (subst (IsInTree d revoked) left child.2)
        | inr right ↦ r (subst (IsInTree d revoked) right child.2)
      ]

  -- there is a walk from each node of the tree
  pub walk_from : (level head v : ℕ) → StandsAt d level v → IsOnChain d revoked head v → HoldsLeavesOf d head v
      → IsWalk d revoked head v
  walk_from zero head v at on cover = walk_at_leaf head v at on
  walk_from (suc level) head v at on cover =
      elim (in_tree_or d level (2 * v) revoked leaves (child_stands d level v (2 * v) at (omega arith))) [
        | inl l ↦ elim
            (in_tree_or d level (2 * v + 1) revoked leaves (child_stands d level v (2 * v + 1) at (omega arith))) [
              | inl r ↦ walk_at_two level head v at on (l, r)
                  (walk_from level (2 * v) (2 * v) (child_stands d level v (2 * v) at (omega arith))
                  (on_chain_left d v revoked (l, r)) (λ u h b. b))
                  (walk_from level (2 * v + 1) (2 * v + 1) (child_stands d level v (2 * v + 1) at (omega arith))
                  (on_chain_right d v revoked (l, r)) (λ u h b. b))
              | inr r ↦ walk_at_left level head v at cover on.inside l r
                  (walk_from level head (2 * v) (child_stands d level v (2 * v) at (omega arith))
                  (on_chain_child d revoked head v (2 * v) leaves on (inl (l, r)) (omega arith) l)
                  (covers_left level head v at cover))
            ]
        | inr l ↦ elim
            (in_tree_or d level (2 * v + 1) revoked leaves (child_stands d level v (2 * v + 1) at (omega arith))) [
              | inl r ↦ walk_at_right level head v at cover on.inside l r
                  (walk_from level head (2 * v + 1) (child_stands d level v (2 * v + 1) at (omega arith))
                  (on_chain_child d revoked head v (2 * v + 1) leaves on (inr (l, r)) (omega arith) r)
                  (covers_right level head v at cover))
              | inr r ↦ absurd (no_child level v at on.inside l r)
            ]
      ]

  -- the root is the node of the highest level
  root_level : StandsAt d d 1
  root_level =
      let e : d - d ≡ 0 = omega arith in
      record { within = omega arith; at = rw e (record { low = omega arith; high = omega arith }) }

  -- there is a walk from the root where a leaf is revoked
  pub walk_of_all : revoked ≢ [] → IsWalk d revoked 1 1
  walk_of_all some =
      walk_from d 1 1 root_level (on_chain_begun d revoked 1 (inl refl) (root_in_tree d revoked leaves some))
      (λ u h b. b)
