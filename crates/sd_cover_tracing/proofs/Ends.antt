-- The nodes of the chains of the Steiner tree, and where the chains end.
use Rattle.std.proofs.Common.{◌≡◌, ◌≢◌, ℕ, subst, ◌⊎◌, inl, inr, ◌+◌, ◌*◌, ◌/◌, ◌%◌, ◌^◌, ◌<◌, ◌≤◌, List, [], ◌∷◌}
use Rattle.std.proofs.Common.{Contains, arith, ap, sym, ◌∙◌, refl}
use Rattle.std.proofs.Math.Decide.{dec_lt}
use Rattle.std.proofs.lemmas.Bool.Decides.{eqb_tells}
use Rattle.sd_tree_keys.specs.Node.{IsAbove}
use Rattle.sd_tree_keys.specs.Paths.{sibling_of}
use Rattle.sd_cover_tracing.specs.Chains.{IsInTree, AreLinked, IsChainEnd, IsChainHead, HasOneChild, EndsChain, last_of}
use Rattle.sd_cover_tracing.specs.Walk.{ChainEndsAt}
use Rattle.sd_tree_keys.proofs.Ancestors.{above_le, above_trans}

-- the numbers are of leaves of the tree
abbrev pub AreLeaves : ℕ → List ℕ → Type 0
AreLeaves d revoked = (u : ℕ) → Contains revoked u → u < 2 ^ d

-- the tree has no node below the leaves
pub within_tree : (d : ℕ) (revoked : List ℕ) (v : ℕ) → AreLeaves d revoked → IsInTree d revoked v → v < 2 * 2 ^ d
within_tree d revoked v leaves (h, t) =
    let lt : t.0 < 2 ^ d = leaves t.0 t.1 in
    let le = above_le v (2 ^ d + t.0) t.2 in
    omega arith

-- what is at or above a node of the tree is in the tree
pub tree_upward : (d : ℕ) (revoked : List ℕ) (v i : ℕ) → 1 ≤ v → IsAbove v i → IsInTree d revoked i
    → IsInTree d revoked v
tree_upward d revoked v i h a (low, (u, m, b)) = (h, (u, m, above_trans v i (2 ^ d + u) a b))

-- the first node of a chain is in the tree
pub linked_start : (d : ℕ) (revoked nodes : List ℕ) (v : ℕ) → AreLinked d revoked (v ∷ nodes) → IsInTree d revoked v
linked_start d revoked [] v l = l.0
linked_start d revoked (w ∷ nodes) v l = l.0

-- the last node of a chain is in the tree, and ends the chain
pub linked_end : (d : ℕ) (revoked : List ℕ) (nodes : List ℕ) (v : ℕ) → AreLinked d revoked (v ∷ nodes)
    → IsInTree d revoked (last_of v nodes) × IsChainEnd d revoked (last_of v nodes)
linked_end d revoked [] v l = l
linked_end d revoked (w ∷ nodes) v l = linked_end d revoked nodes w l.3

-- a node that ends a chain has not one child
end_not_one : (d : ℕ) (revoked : List ℕ) (v : ℕ) → AreLeaves d revoked → IsChainEnd d revoked v
    → HasOneChild d revoked v → ⊥
end_not_one d revoked v leaves (inr two) (inl one) = one.1 two.1
end_not_one d revoked v leaves (inr two) (inr one) = one.0 two.0
end_not_one d revoked v leaves (inl leaf) (inl one) =
    let lt = within_tree d revoked (2 * v) leaves one.0 in
    let is : v ≡ 2 ^ d + leaf.0 = leaf.2 in
    omega arith
end_not_one d revoked v leaves (inl leaf) (inr one) =
    let lt = within_tree d revoked (2 * v + 1) leaves one.1 in
    let is : v ≡ 2 ^ d + leaf.0 = leaf.2 in
    omega arith

-- a child is the left or the right one
pub child_cases : (v w : ℕ) → w / 2 ≡ v → (w ≡ 2 * v) ⊎ (w ≡ 2 * v + 1)
child_cases v w e = elim (dec_lt (2 * v) w) [
  | yes lt ↦ inr (omega arith)
  | no ge ↦ inl (omega arith)
]

-- a node and its sibling are the two children of a node
pub sibling_cases : (v : ℕ) → ((m : ℕ) × (v ≡ 2 * m) × (sibling_of v ≡ 2 * m + 1))
    ⊎ ((m : ℕ) × (v ≡ 2 * m + 1) × (sibling_of v ≡ 2 * m))
sibling_cases v = elim (eqb_tells (v % 2) 0) [
  | inl h ↦ inl (v / 2, omega arith, rw h.0 (omega arith))
  | inr h ↦ inr (v / 2, omega arith, rw h.0 (omega arith))
]

-- of a node with one child the child in the tree is that one
pub one_child_is : (d : ℕ) (revoked : List ℕ) (v w x : ℕ) → HasOneChild d revoked v → w / 2 ≡ v → x / 2 ≡ v
    → IsInTree d revoked w → IsInTree d revoked x → w ≡ x
one_child_is d revoked v w x one e f t s = elim one [
  | inl left ↦ is_left left.1 w e t ∙ sym (is_left left.1 x f s)
  | inr right ↦ is_right right.0 w e t ∙ sym (is_right right.0 x f s)
]
  where
    is_left : (IsInTree d revoked (2 * v + 1) → ⊥) → (y : ℕ) → y / 2 ≡ v → IsInTree d revoked y → y ≡ 2 * v
    is_left none y e t = elim (child_cases v y e) [
      | inl left ↦ left
      | inr right ↦ absurd (none (subst (IsInTree d revoked) right t))
    ]

    is_right : (IsInTree d revoked (2 * v) → ⊥) → (y : ℕ) → y / 2 ≡ v → IsInTree d revoked y → y ≡ 2 * v + 1
    is_right none y e t = elim (child_cases v y e) [
      | inl left ↦ absurd (none (subst (IsInTree d revoked) left t))
      | inr right ↦ right
    ]

-- an end of a chain leads to itself alone
pub end_leads : (d : ℕ) (revoked : List ℕ) (v : ℕ) → IsInTree d revoked v → IsChainEnd d revoked v
    → ChainEndsAt d revoked v v
end_leads d revoked v t e = record { nodes = []; linked = (t, e); last = refl }

-- it leads to nothing else
pub end_leads_only : (d : ℕ) (revoked : List ℕ) (v j : ℕ) → AreLeaves d revoked → IsChainEnd d revoked v
    → ChainEndsAt d revoked v j → j ≡ v
end_leads_only d revoked v j leaves e l = only l.nodes l.linked l.last
  where
    only : (nodes : List ℕ) → AreLinked d revoked (v ∷ nodes) → last_of v nodes ≡ j → j ≡ v
    only [] linked last = sym last
    only (w ∷ nodes) linked last = absurd (end_not_one d revoked v leaves e linked.1)

-- a node with one child leads to where the child leads
pub leads_from_child : (d : ℕ) (revoked : List ℕ) (v w j : ℕ) → IsInTree d revoked v → HasOneChild d revoked v
    → w / 2 ≡ v → ChainEndsAt d revoked w j → ChainEndsAt d revoked v j
leads_from_child d revoked v w j t one e l =
    record { nodes = w ∷ l.nodes; linked = (t, one, e, l.linked); last = l.last }

-- the child in the tree leads to where the node does
pub leads_to_child : (d : ℕ) (revoked : List ℕ) (v w j : ℕ) → AreLeaves d revoked → HasOneChild d revoked v → w / 2 ≡ v
    → IsInTree d revoked w → ChainEndsAt d revoked v j → ChainEndsAt d revoked w j
leads_to_child d revoked v w j leaves one e t l = go l.nodes l.linked l.last
  where
    go : (nodes : List ℕ) → AreLinked d revoked (v ∷ nodes) → last_of v nodes ≡ j → ChainEndsAt d revoked w j
    go [] linked last = absurd (end_not_one d revoked v leaves linked.1 one)
    go (x ∷ nodes) linked last =
        let same = one_child_is d revoked v x w one linked.2 e (linked_start d revoked nodes x linked.3) t in
        record {
          nodes = nodes;
          linked = subst (λ (y : ℕ). AreLinked d revoked (y ∷ nodes)) same linked.3;
          last = subst (λ (y : ℕ). last_of y nodes ≡ j) same last;
        }

-- the last node of a chain has no lower number than the first
linked_rises : (d : ℕ) (revoked nodes : List ℕ) (v : ℕ) → AreLinked d revoked (v ∷ nodes) → v ≤ last_of v nodes
linked_rises d revoked [] v l = omega arith
linked_rises d revoked (w ∷ nodes) v l =
    let half : w / 2 ≡ v = l.2 in
    let rest = linked_rises d revoked nodes w l.3 in
    omega arith

-- a chain of more than one node leads from its first node to another one
pub chain_leads : (d : ℕ) (revoked : List ℕ) (i j : ℕ) → EndsChain d revoked i j → ChainEndsAt d revoked i j × (i ≢ j)
chain_leads d revoked i j c =
    (record { nodes = c.nodes; linked = c.linked; last = c.last }, go c.nodes c.several c.linked c.last)
  where
    go : (nodes : List ℕ) → nodes ≢ [] → AreLinked d revoked (i ∷ nodes) → last_of i nodes ≡ j → i ≢ j
    go [] several linked last = absurd (several refl)
    go (w ∷ nodes) several linked last =
        let low : 1 ≤ i = (linked.0).0 in
        let half : w / 2 ≡ i = linked.2 in
        let rest = linked_rises d revoked nodes w linked.3 in
        λ same. omega arith

-- from a head that leads to another node there is such a chain
pub chain_from_leads : (d : ℕ) (revoked : List ℕ) (i j : ℕ) → IsChainHead d revoked i → ChainEndsAt d revoked i j →
    i ≢ j
    → EndsChain d revoked i j
chain_from_leads d revoked i j h l other = record {
  nodes = l.nodes;
  several = λ e. other (ap (last_of i) (sym e) ∙ l.last);
  head = h;
  linked = l.linked;
  last = l.last;
}
