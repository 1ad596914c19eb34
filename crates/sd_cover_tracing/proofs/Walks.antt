-- The walk from node to node by their counts.
use Rattle.std.proofs.Common.{◌≡◌, ◌∙◌, ℕ, zero, suc, ◌+◌, ◌-◌, ◌*◌, ◌/◌, ◌^◌, ◌<◌, ◌≤◌, ◌↔◌, List, [], ◌∷◌, ◌++◌}
use Rattle.std.proofs.Common.{length, cond, eq-eqb, append_assoc, arith, sym, ap, subst, refl, inl, inr}
use Rattle.std.specs.Ordering.{nat_cmp}
use Rattle.std.specs.List.Sorted.{IsSorted, IsPermutation}
use Rattle.std.specs.FinMap.{FinMap}
use Rattle.std.proofs.Math.Nat.{mul-suc, add-mul}
use Rattle.std.proofs.lemmas.Bool.{cond-true}
use Rattle.std.proofs.lemmas.List.Elements.{All-contains, All-filter}
use Rattle.std.proofs.lemmas.List.Kept.{IsStrictlyIncreasing-filter}
use Rattle.std.proofs.lemmas.List.Sums.{sum_by-cons}
use Rattle.sd_cover_tracing.proofs.Ancestry.{leaf_to_root}
use Rattle.sd_cover_tracing.proofs.Lists.{member_first, member_later}
use Rattle.sd_tree_keys.specs.SetNames.{set_cmp, AreAscending}
use Rattle.sd_tree_keys.specs.Leaves.{is_below, leaves}
use Rattle.sd_tree_keys.specs.declared.set.SetName.{SetName}
use Rattle.sd_tree_keys.specs.declared.set.SetName.TheVariants.{Whole}
use Rattle.sd_tree_keys.proofs.Members.{leaves_below, leaves_ascending}
use Rattle.sd_cover_tracing.specs.Chains.{IsInTree, HasOneChild, HasTwoChildren, IsChainCover}
use Rattle.sd_cover_tracing.specs.Walk.{StandsAt, node_at, of_ends, IsOnChain, AddsChains}
use Rattle.sd_cover_tracing.proofs.Ends.{AreLeaves}
use Rattle.sd_cover_tracing.proofs.Levels.{child_stands, below_by_halvings, in_tree_to}
use Rattle.sd_cover_tracing.proofs.AtNode.{walk_leaf, walk_one, walk_two, on_chain_child, on_chain_begun}
use Rattle.sd_cover_tracing.proofs.TreeWalks.{on_chain_left, on_chain_right}
use Rattle.sd_cover_tracing.specs.Cover.{cover_of}
use Rattle.sd_cover_tracing.proofs.There.{the_cover}
use Rattle.sd_cover_tracing.proofs.Sorting.{sorted_chains}
use Rattle.sd_cover_tracing.specs.Tally.{tally_at}
use Rattle.sd_cover_tracing.specs.Index.{count_below, counts_one, indexed_leaves, IsIndex, AreRevocable}
use Rattle.sd_cover_tracing.proofs.Bridge.{counts_in_tree, count_children, stands_low, stands_high}

-- the revoked leaves are leaves of the tree, ascending
pub revocable : (d : ℕ) (m : FinMap nat_cmp ℕ) → AreRevocable d (indexed_leaves d m)
unfolding indexed_leaves
revocable d m = record {
  leaves = All-filter (counts_one d m) (λ u. u < 2 ^ d) (leaves d) (leaves_below d);
  ascending = IsStrictlyIncreasing-filter (counts_one d m) (leaves d) (leaves_ascending d);
}

pub are_leaves : (d : ℕ) (m : FinMap nat_cmp ℕ) → AreLeaves d (indexed_leaves d m)
are_leaves d m u c = All-contains (λ w. w < 2 ^ d) (indexed_leaves d m) u (revocable d m).leaves c

-- the cover, by both definitions
abbrev IsListed : ℕ → List ℕ → List SetName → Type 0
IsListed d revoked sets = (sets ≡ cover_of d revoked) × IsChainCover d revoked sets

-- a child stands one step lower
pub stands_child : (d level v w : ℕ) → 0 < level → StandsAt d level v → w / 2 ≡ v → StandsAt d (level - 1) w
stands_child d zero v w up at e = absurd (omega arith)
stands_child d (suc k) v w up at e =
    let s : suc k - 1 ≡ k = omega arith in
    rw s (child_stands d k v w at e)

-- the root stands above all
pub stands_root : (d : ℕ) → StandsAt d d 1
stands_root d =
    let e : d - d ≡ 0 = omega arith in
    record { within = omega arith; at = rw e (record { low = omega arith; high = omega arith }) }

module _ (d : ℕ) (m : FinMap nat_cmp ℕ) (small : d < 32) (is : IsIndex d m) where
  -- a node's count is above 0 exactly where the node is in the tree
  pub in_tree : (level v : ℕ) → StandsAt d level v → (0 < tally_at m v) ↔ IsInTree d (indexed_leaves d m) v
  in_tree level v at =
      subst (λ (n : ℕ). (0 < n) ↔ IsInTree d (indexed_leaves d m) v)
      (sym (is.count v (stands_low d level v at) (stands_high d level v at)))
      (counts_in_tree d level v (indexed_leaves d m) small (are_leaves d m) at)

  -- a node above the leaves counts as its children do together
  pub children : (level v : ℕ) → 0 < level → StandsAt d level v → tally_at m v ≡ tally_at m (2 * v)
      + tally_at m (2 * v + 1)
  children zero v up at = absurd (omega arith)
  children (suc k) v up at =
      let left = child_stands d k v (2 * v) at (omega arith) in
      let right = child_stands d k v (2 * v + 1) at (omega arith) in
      let whole = is.count v (stands_low d (suc k) v at) (stands_high d (suc k) v at) in
      let a = is.count (2 * v) (stands_low d k (2 * v) left) (stands_high d k (2 * v) left) in
      let b = is.count (2 * v + 1) (stands_low d k (2 * v + 1) right) (stands_high d k (2 * v + 1) right) in
      let sum = count_children d k v (indexed_leaves d m) small at in
      omega arith

  -- a node that doesn't count isn't in the tree
  outside : (level v : ℕ) → StandsAt d level v → tally_at m v ≡ 0 → IsInTree d (indexed_leaves d m) v → ⊥
  outside level v at none t = let some = (in_tree level v at).1 t in omega arith

  -- at a revoked leaf's node
  pub added_leaf : (level head v : ℕ) (old new : List SetName) → level ≡ 0 → StandsAt d level v →
      IsOnChain d (indexed_leaves d m) head v → new ≡ old ++ of_ends head v →
      AddsChains d (indexed_leaves d m) head v old new
  added_leaf level head v old new bottom at on added =
      let at' = subst (λ (l : ℕ). StandsAt d l v) bottom at in
      let to = in_tree_to d 0 v (indexed_leaves d m) (are_leaves d m) at' on.inside in
      let u = to.0 in
      let is_node : (2 ^ d + u) / 1 ≡ v = to.2 in
      let same : v ≡ 2 ^ d + u = omega arith in (
        of_ends head v,
        added,
        walk_leaf d (indexed_leaves d m) head v (are_leaves d m) on (omega arith)
            (inl (u, to.1, same)),
      )

  -- the root counts all revoked leaves
  pub root_counts : tally_at m 1 ≡ length (indexed_leaves d m)
  unfolding count_below
  root_counts =
      let at = is.count 1 (omega arith) (stands_high d d 1 (stands_root d)) in
      at ∙ all_below (indexed_leaves d m) (are_leaves d m)
    where
      all_below : (us : List ℕ) → AreLeaves d us → count_below d us 1 ≡ length us
      all_below [] leaves = refl
      all_below (u ∷ us) leaves =
          let rest = all_below us (λ w c. leaves w (member_later u us w c)) in
          let h = leaves u (member_first u us) in
          let here = below_by_halvings d d 1 u small (stands_root d) ∙ eq-eqb (node_at d d u) 1 (leaf_to_root d u h) in
          let one = cond-true {A = ℕ} (is_below d 1 u) 1 0 here in
          sum_by-cons (λ w. cond (is_below d 1 w) 1 0) u us ∙ omega arith

  -- where it counts, it begins a chain
  pub chain_root : 0 < tally_at m 1 → IsOnChain d (indexed_leaves d m) 1 1
  chain_root some = on_chain_begun d (indexed_leaves d m) 1 (inl refl) ((in_tree d 1 (stands_root d)).0 some)

  -- a chain cover is the list of the definition
  listed : (sets : List SetName) → IsChainCover d (indexed_leaves d m) sets → IsListed d (indexed_leaves d m) sets
  listed sets c = ((the_cover d (indexed_leaves d m) sets small (are_leaves d m)).0 c, c)

  -- what the walk from the root adds, sorted, is the cover
  pub cover_of_walk : (old sets sorted : List SetName) → 0 < tally_at m 1 → old ≡ [] →
      AddsChains d (indexed_leaves d m) 1 1
      old sets → IsPermutation sets sorted → IsSorted set_cmp sorted → IsListed d (indexed_leaves d m) sorted
  cover_of_walk old sets sorted some none added moved up =
      let all = root_counts in
      let is_added : sets ≡ added.0 = added.1 ∙ ap (λ (xs : List SetName). xs ++ added.0) none in
      listed sorted (sorted_chains d (indexed_leaves d m) added.0 sorted (λ e. let n = ap length e in
      omega arith) added.2
      (subst (λ (xs : List SetName). IsPermutation xs sorted) is_added moved) up)

  -- the whole set is the cover where no leaf is revoked
  pub cover_of_none : (sets : List SetName) → tally_at m 1 ≡ 0 → sets ≡ Whole ∷ [] →
      IsListed d (indexed_leaves d m) sets
  cover_of_none sets none whole =
      let all = root_counts in
      let empty : indexed_leaves d m ≡ [] = none_of_length (indexed_leaves d m) (omega arith) in
      listed sets (record {
        ascending = subst AreAscending (sym whole)
            (λ i j x below within. absurd (let h : j < 1 = within in omega arith));
        none_revoked = λ e. whole;
        chains = λ some. absurd (some empty);
      })
    where
      none_of_length : (us : List ℕ) → length us ≡ 0 → us ≡ []
      none_of_length [] e = refl
      none_of_length (u ∷ us) e = absurd (omega arith)

-- an inner node of the walk: it stands above the leaves, on the chain that begins at head
pub record IsInner (d : ℕ) (m : FinMap nat_cmp ℕ) (level head v : ℕ) : Type 0 where
  pub small : d < 32
  pub index : IsIndex d m
  pub up : 0 < level
  pub at : StandsAt d level v
  pub on : IsOnChain d (indexed_leaves d m) head v

module _ {d : ℕ} {m : FinMap nat_cmp ℕ} {level head v : ℕ} (here : IsInner d m level head v) where
  inside : (k w : ℕ) → StandsAt d k w → (0 < tally_at m w) ↔ IsInTree d (indexed_leaves d m) w
  inside = in_tree d m here.small here.index

  pub at_left : StandsAt d (level - 1) (2 * v)
  at_left = stands_child d level v (2 * v) here.up here.at (omega arith)

  pub at_right : StandsAt d (level - 1) (2 * v + 1)
  at_right = stands_child d level v (2 * v + 1) here.up here.at (omega arith)

  -- it counts as its children do together
  pub sum : tally_at m v ≡ tally_at m (2 * v) + tally_at m (2 * v + 1)
  sum = children d m here.small here.index level v here.up here.at

  -- it counts
  pub some_count : 0 < tally_at m v
  some_count = (inside level v here.at).1 here.on.inside

  -- what is left of its count is the right child's
  pub split : (whole l : ℕ) → whole ≡ tally_at m v → l ≡ tally_at m (2 * v) →
      (l ≤ whole) × (whole - l ≡ tally_at m (2 * v + 1))
  split whole l a b = let s = sum in (omega arith, omega arith)

  -- where the right child doesn't count, the left one alone is in the tree
  one_left : tally_at m (2 * v + 1) ≡ 0 → HasOneChild d (indexed_leaves d m) v × IsInTree d (indexed_leaves d m) (2 * v)
  one_left none =
      let s = sum in
      let some = some_count in
      let l = (inside (level - 1) (2 * v) at_left).0 (omega arith) in
      (inl (l, outside d m here.small here.index (level - 1) (2 * v + 1) at_right none), l)

  one_right : tally_at m (2 * v) ≡ 0 → HasOneChild d (indexed_leaves d m) v × IsInTree d (indexed_leaves d m)
      (2 * v + 1)
  one_right none =
      let s = sum in
      let some = some_count in
      let r = (inside (level - 1) (2 * v + 1) at_right).0 (omega arith) in
      (inr (outside d m here.small here.index (level - 1) (2 * v) at_left none, r), r)

  two : 0 < tally_at m (2 * v) → 0 < tally_at m (2 * v + 1) → HasTwoChildren d (indexed_leaves d m) v
  two l r = ((inside (level - 1) (2 * v) at_left).0 l, (inside (level - 1) (2 * v + 1) at_right).0 r)

  -- where one child counts, the chain goes on there
  pub chain_left : tally_at m (2 * v + 1) ≡ 0 → IsOnChain d (indexed_leaves d m) head (2 * v)
  chain_left none =
      let one = one_left none in
      on_chain_child d (indexed_leaves d m) head v (2 * v) (are_leaves d m) here.on one.0 (omega arith) one.1

  pub chain_right : tally_at m (2 * v) ≡ 0 → IsOnChain d (indexed_leaves d m) head (2 * v + 1)
  chain_right none =
      let one = one_right none in
      on_chain_child d (indexed_leaves d m) head v (2 * v + 1) (are_leaves d m) here.on one.0 (omega arith) one.1

  -- where both count, each begins a chain
  pub begins_left : 0 < tally_at m (2 * v) → 0 < tally_at m (2 * v + 1) →
      IsOnChain d (indexed_leaves d m) (2 * v) (2 * v)
  begins_left l r = on_chain_left d v (indexed_leaves d m) (two l r)

  pub begins_right : 0 < tally_at m (2 * v) → 0 < tally_at m (2 * v + 1) →
      IsOnChain d (indexed_leaves d m) (2 * v + 1) (2 * v + 1)
  begins_right l r = on_chain_right d v (indexed_leaves d m) (two l r)

  -- what the walk adds
  pub added_left : (old new : List SetName) → tally_at m (2 * v + 1) ≡ 0 →
      AddsChains d (indexed_leaves d m) head (2 * v) old new → AddsChains d (indexed_leaves d m) head v old new
  added_left old new none added =
      let one = one_left none in
      let sets = walk_one d (indexed_leaves d m) head v (2 * v) added.0 here.on.inside.0 one.0 (omega arith) one.1
      added.2 in
      (added.0, added.1, sets)

  pub added_right : (old new : List SetName) → tally_at m (2 * v) ≡ 0 →
      AddsChains d (indexed_leaves d m) head (2 * v + 1) old new → AddsChains d (indexed_leaves d m) head v old new
  added_right old new none added =
      let one = one_right none in
      let low = here.on.inside.0 in
      let sets = walk_one d (indexed_leaves d m) head v (2 * v + 1) added.0 low one.0 (omega arith) one.1 added.2 in
      (added.0, added.1, sets)

  pub added_both : (old first mid new : List SetName) → 0 < tally_at m (2 * v) → 0 < tally_at m (2 * v + 1) →
      first ≡ old ++ of_ends head v → AddsChains d (indexed_leaves d m) (2 * v) (2 * v) first mid →
      AddsChains d (indexed_leaves d m) (2 * v + 1) (2 * v + 1) mid new →
      AddsChains d (indexed_leaves d m) head v old new
  added_both old first mid new l r begun a b = (
    of_ends head v ++ (a.0 ++ b.0),
    b.1 ∙ (ap (λ (xs : List SetName). xs ++ b.0) (a.1 ∙ ap (λ (xs : List SetName). xs ++ a.0) begun) ∙
        (append_assoc (old ++ of_ends head v) a.0 b.0 ∙ append_assoc old (of_ends head v) (a.0 ++ b.0))),
    walk_two d (indexed_leaves d m) head v a.0 b.0 (are_leaves d m) here.on (two l r) a.2 b.2,
  )

-- the steps of a walk: one for each node above the leaves that is at or above a revoked leaf
pub steps_one : (c level : ℕ) → 0 < c → 0 < level → 1 + c * (level - 1) ≤ c * level
steps_one c zero some up = absurd (omega arith)
steps_one c (suc k) some up =
    let e : suc k - 1 ≡ k = omega arith in
    let more = mul-suc c k in
    rw e (omega arith)

pub steps_two : (l r level : ℕ) → 0 < l → 0 < level → 1 + l * (level - 1) + r * (level - 1) ≤ (l + r) * level
steps_two l r level some up =
    let one = steps_one (l + r) level (omega arith) up in
    let both = add-mul l r (level - 1) in
    omega arith
