-- What each step of the walk adds.
use Rattle.std.proofs.Common.{◌≡◌, ◌∙◌, ◌⊎◌, inl, inr, ℕ, suc, zero, Contains, ◌+◌, ◌-◌, ◌*◌, ◌/◌, ◌^◌, ◌<◌, List, ◌++◌}
use Rattle.std.proofs.Common.{length, length-append, get_or, arith, append_assoc, subst, sym, ap}
use Rattle.std.proofs.lemmas.List.Elements.{Contains-get_or, Contains-append_left, Contains-append_right}
use Rattle.std.proofs.lemmas.List.Elements.{Contains-append_cases}
use Rattle.sd_tree_keys.specs.declared.set.SetName.{SetName}
use Rattle.sd_cover_tracing.specs.Chains.{IsInTree, HasOneChild, HasTwoChildren}
use Rattle.sd_cover_tracing.specs.Walk.{node_at, of_ends, IsOnChain, AreBelowNode, AreRevokedBelow, AddsChains}
use Rattle.sd_cover_tracing.specs.Walk.{AddsChainsBelow}
use Rattle.sd_cover_tracing.proofs.Ancestry.{halved_once_more}
use Rattle.sd_cover_tracing.specs.Walk.{StandsAt}
use Rattle.sd_cover_tracing.proofs.Levels.{child_stands, in_tree_from, in_tree_to}
use Rattle.sd_cover_tracing.proofs.AtNode.{walk_leaf, walk_two, walk_one, on_chain_child}
use Rattle.sd_cover_tracing.proofs.TreeWalks.{on_chain_left, on_chain_right}
use Rattle.sd_cover_tracing.proofs.Cuts.{level_of}

-- at a revoked leaf's node
pub added_leaf : (d level head v : ℕ) (leaves : List ℕ) (old new : List SetName) → level ≡ 0 → 0 < length leaves
    → AreBelowNode d level v leaves → new ≡ old ++ of_ends head v → AddsChainsBelow d level head v leaves old new
added_leaf d level head v leaves old new bottom some below is =
    subst (λ (l : ℕ). AddsChainsBelow d l head v leaves old new) (sym bottom) (record {
      adds =
          at (subst (λ (l : ℕ). AreBelowNode d l v leaves) bottom below);
    })
  where
    at : AreBelowNode d 0 v leaves → (revoked : List ℕ) → AreRevokedBelow d revoked 0 v leaves
        → IsOnChain d revoked head v → AddsChains d revoked head v old new
    at below revoked part on =
        let u = get_or leaves 0 0 in
        let m = Contains-get_or leaves 0 0 some in
        let node : (2 ^ d + u) / 1 ≡ v = (below.below u m).1 in
        let same : v ≡ 2 ^ d + u = omega arith in (
          of_ends head v,
          is,
          walk_leaf d revoked head v part.of_height on (omega arith) (inl (u, ((part.below u).0 m).0, same)),
        )

module _ (d level v : ℕ) (leaves left right : List ℕ) (whole : left
    ++ right ≡ leaves) (below : AreBelowNode d (suc level) v leaves) (on_left : AreBelowNode d level (2 * v) left)
    (on_right : AreBelowNode d level (2 * v + 1) right) (revoked : List ℕ)
    (part : AreRevokedBelow d revoked (suc level) v leaves) where
  -- a revoked leaf of a child is in the child's part
  from_child : (x u : ℕ) → x / 2 ≡ v → Contains revoked u → node_at d level u ≡ x → Contains left u ⊎ Contains right u
  from_child x u half m e =
      let node : node_at d (suc level) u ≡ v = halved_once_more (2 ^ d + u) level ∙ (ap (λ (y : ℕ). y / 2) e ∙ half) in
      let member = (part.below u).1 (m, node) in
      Contains-append_cases left right u (subst (λ (xs : List ℕ). Contains xs u) (sym whole) member)

  -- the leaves of the parts are revoked
  in_left : (u : ℕ) → Contains left u → Contains revoked u
  in_left u m =
      ((part.below u).0 (subst (λ (xs : List ℕ). Contains xs u) whole (Contains-append_left left right u m))).0

  in_right : (u : ℕ) → Contains right u → Contains revoked u
  in_right u m =
      ((part.below u).0 (subst (λ (xs : List ℕ). Contains xs u) whole (Contains-append_right left right u m))).0

  -- each part has the revoked leaves below its child
  pub part_left : AreRevokedBelow d revoked level (2 * v) left
  part_left = record {
    of_height = part.of_height;
    below = λ u. (
      λ m. (in_left u m, (on_left.below u m).1),
      λ r. elim (from_child (2 * v) u (omega arith) r.0 r.1) [
        | inl here ↦ here
        | inr there ↦ absurd (let e = (on_right.below u there).1 in let f = r.1 in omega arith)
      ],
    );
  }

  pub part_right : AreRevokedBelow d revoked level (2 * v + 1) right
  part_right = record {
    of_height = part.of_height;
    below = λ u. (
      λ m. (in_right u m, (on_right.below u m).1),
      λ r. elim (from_child (2 * v + 1) u (omega arith) r.0 r.1) [
        | inl there ↦ absurd (let e = (on_left.below u there).1 in let f = r.1 in omega arith)
        | inr here ↦ here
      ],
    );
  }

  -- the children are nodes of the level below
  at_left : (0 < length leaves) → StandsAt d level (2 * v)
  at_left some = child_stands d level v (2 * v) (level_of d (suc level) v leaves below some) (omega arith)

  at_right : (0 < length leaves) → StandsAt d level (2 * v + 1)
  at_right some = child_stands d level v (2 * v + 1) (level_of d (suc level) v leaves below some) (omega arith)

  -- a child is in the tree where it has a revoked leaf, and else not
  pub left_inside : (0 < length leaves) → 0 < length left → IsInTree d revoked (2 * v)
  left_inside some more =
      let m = Contains-get_or left 0 0 more in
      in_tree_from d level (2 * v) (get_or left 0 0) revoked (at_left some) (in_left (get_or left 0 0) m)
      (on_left.below (get_or left 0 0) m).1

  pub right_inside : (0 < length leaves) → 0 < length right → IsInTree d revoked (2 * v + 1)
  right_inside some more =
      let m = Contains-get_or right 0 0 more in
      in_tree_from d level (2 * v + 1) (get_or right 0 0) revoked (at_right some) (in_right (get_or right 0 0) m)
      (on_right.below (get_or right 0 0) m).1

  pub left_outside : (0 < length leaves) → length left ≡ 0 → IsInTree d revoked (2 * v) → ⊥
  left_outside some none t =
      let to = in_tree_to d level (2 * v) revoked part.of_height (at_left some) t in
      let m = (part_left.below to.0).1 (to.1, to.2) in
      let h = m.1 in
      omega arith

  pub right_outside : (0 < length leaves) → length right ≡ 0 → IsInTree d revoked (2 * v + 1) → ⊥
  right_outside some none t =
      let to = in_tree_to d level (2 * v + 1) revoked part.of_height (at_right some) t in
      let m = (part_right.below to.0).1 (to.1, to.2) in
      let h = m.1 in
      omega arith

  -- where the left child alone has revoked leaves
  walked_left : (head : ℕ) (old new : List SetName) → 0 < length leaves → length right ≡ 0
      → AddsChainsBelow d level head (2 * v) left old new → IsOnChain d revoked head v
      → AddsChains d revoked head v old new
  walked_left head old new some none more on =
      let long = ap length whole in
      let l = left_inside some (omega (arith, length-append left right)) in
      let one : HasOneChild d revoked v = inl (l, right_outside some none) in
      let added =
      more.adds revoked part_left (on_chain_child d revoked head v (2 * v) part.of_height on one (omega arith) l) in
      (added.0, added.1, walk_one d revoked head v (2 * v) added.0 on.inside.0 one (omega arith) l added.2)

  -- where the right one alone has
  walked_right : (head : ℕ) (old new : List SetName) → 0 < length leaves → length left ≡ 0
      → AddsChainsBelow d level head (2 * v + 1) right old new → IsOnChain d revoked head v
      → AddsChains d revoked head v old new
  walked_right head old new some none more on =
      let long = ap length whole in
      let r = right_inside some (omega (arith, length-append left right)) in
      let one : HasOneChild d revoked v = inr (left_outside some none, r) in
      let added =
      more.adds revoked part_right
      (on_chain_child d revoked head v (2 * v + 1) part.of_height on one (omega arith) r) in
      (added.0, added.1, walk_one d revoked head v (2 * v + 1) added.0 on.inside.0 one (omega arith) r added.2)

  -- where both have
  walked_both : (head : ℕ) (old first mid new : List SetName) → 0 < length leaves → 0 < length left → 0 < length right
      → first ≡ old ++ of_ends head v → AddsChainsBelow d level (2 * v) (2 * v) left first mid
      → AddsChainsBelow d level (2 * v + 1) (2 * v + 1) right mid new → IsOnChain d revoked head v
      → AddsChains d revoked head v old new
  walked_both head old first mid new some some_left some_right is more most on =
      let two : HasTwoChildren d revoked v = (left_inside some some_left, right_inside some some_right) in
      let a = more.adds revoked part_left (on_chain_left d v revoked two) in
      let b = most.adds revoked part_right (on_chain_right d v revoked two) in (
        of_ends head v ++ (a.0 ++ b.0),
        b.1 ∙ (ap (λ (xs : List SetName). xs ++ b.0) (a.1 ∙ ap (λ (xs : List SetName). xs ++ a.0) is)
            ∙ (append_assoc (old ++ of_ends head v) a.0 b.0 ∙ append_assoc old (of_ends head v) (a.0 ++ b.0))),
        walk_two d revoked head v a.0 b.0 part.of_height on two a.2 b.2,
      )

-- where the left child alone has revoked leaves, with the level as the code has it
pub added_left : (d level head v : ℕ) (leaves left right : List ℕ) (old new : List SetName) → 0 < level
    → 0 < length leaves → AreBelowNode d level v leaves → left ++ right ≡ leaves
    → AreBelowNode d (level - 1) (2 * v) left → AreBelowNode d (level - 1) (2 * v + 1) right → length right ≡ 0
    → AddsChainsBelow d (level - 1) head (2 * v) left old new → AddsChainsBelow d level head v leaves old new
added_left d zero head v leaves left right old new up some below whole l r none more = absurd (omega arith)
added_left d (suc k) head v leaves left right old new up some below whole l r none more =
    let e : suc k - 1 ≡ k = omega arith in
    let l' = subst (λ (n : ℕ). AreBelowNode d n (2 * v) left) e l in
    let r' = subst (λ (n : ℕ). AreBelowNode d n (2 * v + 1) right) e r in
    let more' = subst (λ (n : ℕ). AddsChainsBelow d n head (2 * v) left old new) e more in
    record {
      adds =
          λ revoked part on. walked_left d k v leaves left right whole below l' r' revoked part head old new some none
          more' on;
    }

-- where the right child alone has, with the level as the code has it
pub added_right : (d level head v : ℕ) (leaves left right : List ℕ) (old new : List SetName) → 0 < level
    → 0 < length leaves → AreBelowNode d level v leaves → left ++ right ≡ leaves
    → AreBelowNode d (level - 1) (2 * v) left → AreBelowNode d (level - 1) (2 * v + 1) right → length left ≡ 0
    → AddsChainsBelow d (level - 1) head (2 * v + 1) right old new → AddsChainsBelow d level head v leaves old new
added_right d zero head v leaves left right old new up some below whole l r none more = absurd (omega arith)
added_right d (suc k) head v leaves left right old new up some below whole l r none more =
    let e : suc k - 1 ≡ k = omega arith in
    let l' = subst (λ (n : ℕ). AreBelowNode d n (2 * v) left) e l in
    let r' = subst (λ (n : ℕ). AreBelowNode d n (2 * v + 1) right) e r in
    let more' = subst (λ (n : ℕ). AddsChainsBelow d n head (2 * v + 1) right old new) e more in
    record {
      adds =
          λ revoked part on. walked_right d k v leaves left right whole below l' r' revoked part head old new some none
          more' on;
    }

-- where both children have, with the level as the code has it
pub added_both : (d level head v : ℕ) (leaves left right : List ℕ) (old first mid new : List SetName) → 0 < level
    → 0 < length leaves → AreBelowNode d level v leaves → left ++ right ≡ leaves
    → AreBelowNode d (level - 1) (2 * v) left → AreBelowNode d (level - 1) (2 * v + 1) right → 0 < length left
    → 0 < length right → first ≡ old ++ of_ends head v → AddsChainsBelow d (level - 1) (2 * v) (2 * v) left first mid
    → AddsChainsBelow d (level - 1) (2 * v + 1) (2 * v + 1) right mid new
    → AddsChainsBelow d level head v leaves old new
added_both d zero head v leaves left right old first mid new up some below whole l r more_left more_right is more most =
    absurd (omega arith)
added_both d (suc k) head v leaves left right old first mid new up some below whole l r more_left more_right is more
    most =
    let e : suc k - 1 ≡ k = omega arith in
    let l' = subst (λ (n : ℕ). AreBelowNode d n (2 * v) left) e l in
    let r' = subst (λ (n : ℕ). AreBelowNode d n (2 * v + 1) right) e r in
    let more' = subst (λ (n : ℕ). AddsChainsBelow d n (2 * v) (2 * v) left first mid) e more in
    let most' = subst (λ (n : ℕ). AddsChainsBelow d n (2 * v + 1) (2 * v + 1) right mid new) e most in
    record {
      adds =
          λ revoked part on. walked_both d k v leaves left right whole below l' r' revoked part head old first mid new
          some more_left more_right is more' most' on;
    }
