-- Ascending leaves, cut before the first leaf below a node.
use Rattle.std.proofs.Common.{◌≡◌, ◌∙◌, ℕ, suc, Contains, ◌+◌, ◌-◌, ◌*◌, ◌/◌, ◌^◌, ◌<◌, ◌≤◌, List, length, get_or, take}
use Rattle.std.proofs.Common.{drop, nat_lt, true, false, ltb-true, ltb-false, length-drop, arith, subst, sym}
use Rattle.std.specs.List.Sorted.{IsStrictlyIncreasing, IsNonDecreasingBy, IsPartitionPoint}
use Rattle.std.proofs.Math.Decide.{dec_lt}
use Rattle.std.proofs.Math.Nat.{div-mul-le_self, div-le_self}
use Rattle.std.proofs.Math.Pow.{pow_mono}
use Rattle.std.proofs.lemmas.List.Elements.{Contains-get_or}
use Rattle.std.proofs.lemmas.Nat.{le-div, pow_pos}
use Rattle.std.proofs.lemmas.List.{get_or-drop, get_or-take, length-take-le}
use Rattle.std.proofs.lemmas.List.Kept.{AllPairs-from_increasing}
use Rattle.sd_cover_tracing.specs.Walk.{node_at, AreBelowNode}
use Rattle.sd_cover_tracing.proofs.Ancestry.{halved_once_more}
use Rattle.sd_cover_tracing.specs.Walk.{StandsAt}
use Rattle.sd_cover_tracing.proofs.Levels.{node_stands}

-- the nodes of a level above ascending leaves don't descend
pub nodes_ascend : (d level : ℕ) (leaves : List ℕ) → IsStrictlyIncreasing leaves
    → IsNonDecreasingBy (node_at d level) leaves
nodes_ascend d level leaves up i j x below within =
    elim (dec_lt i j) [
      | yes lt ↦
          let rise = AllPairs-from_increasing leaves up i j x lt within in
          let low = div-mul-le_self (2 ^ d + get_or leaves i x) (2 ^ level) in
          le-div (node_at d level (get_or leaves i x)) (2 ^ d + get_or leaves j x) (2 ^ level) (pow_pos level)
          (omega arith)
      | no ge ↦
          let same : i ≡ j = omega arith in
          subst (λ (k : ℕ). node_at d level (get_or leaves i x) ≤ node_at d level (get_or leaves k x)) same
          (omega arith)
    ]

-- how many leaves come before the right child of v, as `partition_point` finds it
abbrev pub IsCut : ℕ → ℕ → ℕ → ℕ → List ℕ → Type 0
IsCut d level right mid leaves =
    IsPartitionPoint (λ u. nat_lt (node_at d level u) right ≡ true) (λ u. nat_lt (node_at d level u) right ≡ false)
    leaves mid

-- the leaves before the cut are below the left child
cut_left : (d level v mid : ℕ) (leaves : List ℕ) → AreBelowNode d (suc level) v leaves → mid ≤ length leaves
    → IsCut d level (2 * v + 1) mid leaves → AreBelowNode d level (2 * v) (take mid leaves)
cut_left d level v mid leaves below within point = record {
  within = (let h = below.within in omega arith);
  below = at;
  ascending = λ k h.
      let long = length-take-le mid leaves within in
      rw (
        get_or-take mid leaves k 0 (omega arith),
        get_or-take mid leaves (k + 1) 0 (omega arith),
      ) (below.ascending k (omega arith));
}
  where
    at : (u : ℕ) → Contains (take mid leaves) u → (u < 2 ^ d) × (node_at d level u ≡ 2 * v)
    at u (k, h, e) =
        let long = length-take-le mid leaves within in
        let early : k < mid = omega arith in
        let is : get_or leaves k u ≡ u = sym (get_or-take mid leaves k u early) ∙ e in
        let all = below.below u (k, omega arith, is) in
        let less : node_at d level u < 2 * v + 1 =
        subst (λ (w : ℕ). node_at d level w < 2 * v + 1) is
        (ltb-true (node_at d level (get_or leaves k u)) (2 * v + 1) (point.0 k u (omega arith) early)) in
        let half : node_at d level u / 2 ≡ v = sym (halved_once_more (2 ^ d + u) level) ∙ all.1 in
        (all.0, omega arith)

-- the leaves after the cut are below the right child
cut_right : (d level v mid : ℕ) (leaves : List ℕ) → AreBelowNode d (suc level) v leaves → mid ≤ length leaves
    → IsCut d level (2 * v + 1) mid leaves → AreBelowNode d level (2 * v + 1) (drop mid leaves)
cut_right d level v mid leaves below within point = record {
  within = (let h = below.within in omega arith);
  below = at;
  ascending = λ k h.
      let long = length-drop mid leaves in
      let place : mid + k + 1 ≡ mid + (k + 1) = omega arith in
      let rise = below.ascending (mid + k) (omega arith) in
      rw (
        get_or-drop mid leaves k 0,
        get_or-drop mid leaves (k + 1) 0,
      )
      (subst (λ (m : ℕ). get_or leaves (mid + k) 0 < get_or leaves m 0) place rise);
}
  where
    at : (u : ℕ) → Contains (drop mid leaves) u → (u < 2 ^ d) × (node_at d level u ≡ 2 * v + 1)
    at u (k, h, e) =
        let long = length-drop mid leaves in
        let is : get_or leaves (mid + k) u ≡ u = sym (get_or-drop mid leaves k u) ∙ e in
        let all = below.below u (mid + k, omega arith, is) in
        let more : 2 * v + 1 ≤ node_at d level u =
        subst (λ (w : ℕ). 2 * v + 1 ≤ node_at d level w) is
        (ltb-false (node_at d level (get_or leaves (mid + k) u)) (2 * v + 1)
        (point.1 (mid + k) u (omega arith) (omega arith))) in
        let half : node_at d level u / 2 ≡ v = sym (halved_once_more (2 ^ d + u) level) ∙ all.1 in
        (all.0, omega arith)

-- v stands so many steps above the leaves
pub level_of : (d level v : ℕ) (leaves : List ℕ) → AreBelowNode d level v leaves → 0 < length leaves
    → StandsAt d level v
level_of d level v leaves below some =
    let first = below.below (get_or leaves 0 0) (Contains-get_or leaves 0 0 some) in
    subst (StandsAt d level) first.1 (node_stands d level (get_or leaves 0 0) below.within first.0)

-- its number has at most 21 bits
pub node_fits : (d level v : ℕ) (leaves : List ℕ) → AreBelowNode d level v leaves → 0 < length leaves → d ≤ 20
    → v < 2 ^ 21
node_fits d level v leaves below some small =
    let first = below.below (get_or leaves 0 0) (Contains-get_or leaves 0 0 some) in
    let le = div-le_self (2 ^ d + get_or leaves 0 0) (2 ^ level) in
    let high : 2 ^ d ≤ 2 ^ 20 = pow_mono {i = d} {j = 20} small in
    let lt = first.0 in
    let is : (2 ^ d + get_or leaves 0 0) / 2 ^ level ≡ v = first.1 in
    omega arith

-- the level is one above the level below it
lower : (d level v : ℕ) (leaves : List ℕ) → 0 < level → AreBelowNode d level v leaves
    → AreBelowNode d (suc (level - 1)) v leaves
lower d level v leaves some below =
    let e : level ≡ suc (level - 1) = omega arith in
    subst (λ (l : ℕ). AreBelowNode d l v leaves) e below

-- the part before the cut, with the level as the code has it
pub left_part : (d level v mid : ℕ) (leaves : List ℕ) → 0 < level → AreBelowNode d level v leaves → mid ≤ length leaves
    → IsCut d (level - 1) (2 * v + 1) mid leaves → AreBelowNode d (level - 1) (2 * v) (take mid leaves)
left_part d level v mid leaves some below within point =
    cut_left d (level - 1) v mid leaves (lower d level v leaves some below) within point

-- the part after the cut, with the level as the code has it
pub right_part : (d level v mid : ℕ) (leaves : List ℕ) → 0 < level → AreBelowNode d level v leaves → mid ≤ length leaves
    → IsCut d (level - 1) (2 * v + 1) mid leaves → AreBelowNode d (level - 1) (2 * v + 1) (drop mid leaves)
right_part d level v mid leaves some below within point =
    cut_right d (level - 1) v mid leaves (lower d level v leaves some below) within point
