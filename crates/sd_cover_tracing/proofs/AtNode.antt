-- What the walk over the Steiner tree finds at a node: at a revoked leaf, with two children in the tree, with one.
use Rattle.std.proofs.Common.{◌≡◌, ◌≢◌, ℕ, subst, inl, inr, ◌+◌, ◌*◌, ◌/◌, ◌^◌, ◌≤◌, ◌==◌, if◌then◌else◌, List, [], ◌∷◌}
use Rattle.std.proofs.Common.{◌++◌, Contains, AllPairs, true, false, eq-eqb, ne_eqb, arith, sym, ◌∙◌, refl}
use Rattle.std.proofs.lemmas.Bool.Decides.{eqb_tells}
use Rattle.std.proofs.lemmas.List.Elements.{Contains-append_left, Contains-append_right, Contains-append_cases}
use Rattle.sd_tree_keys.specs.Node.{IsAbove}
use Rattle.sd_tree_keys.specs.declared.set.SetName.{SetName}
use Rattle.sd_tree_keys.specs.declared.set.SetName.TheVariants.{Whole, Diff}
use Rattle.sd_tree_keys.specs.Paths.{sibling_of}
use Rattle.sd_cover_tracing.specs.Chains.{IsInTree, IsChainEnd, IsChainHead, HasOneChild, HasTwoChildren, EndsChain}
use Rattle.sd_cover_tracing.specs.Chains.{IsOfChain}
use Rattle.sd_cover_tracing.specs.Walk.{ChainEndsAt, IsOnChain, BeginsBy, AreChainsFrom, of_ends}
use Rattle.sd_tree_keys.proofs.Ancestors.{above_self, above_le, above_trans, above_through_child}
use Rattle.sd_cover_tracing.proofs.Ancestry.{below_parent, siblings_apart}
use Rattle.sd_cover_tracing.proofs.Lists.{member_cases, member_first, no_member, once_append}
use Rattle.sd_cover_tracing.proofs.Ends.{AreLeaves, linked_start, sibling_cases, within_tree, tree_upward, one_child_is}
use Rattle.sd_cover_tracing.proofs.Ends.{end_leads, end_leads_only, leads_from_child, leads_to_child, chain_leads}
use Rattle.sd_cover_tracing.proofs.Ends.{chain_from_leads}

-- a chain of one node has no set
pub of_ends_same : (i j : ℕ) → i ≡ j → of_ends i j ≡ []
of_ends_same i j e = rw (eq-eqb i j e) refl

-- a chain of several nodes has one set
pub of_ends_other : (i j : ℕ) → i ≢ j → of_ends i j ≡ Diff i j ∷ []
of_ends_other i j n = rw (ne_eqb i j n) refl

-- no set stands twice among the sets of one chain
of_ends_once : (i j : ℕ) → AllPairs (λ a b. a ≢ b) (of_ends i j)
of_ends_once i j = elim (i == j) as (λ b. AllPairs (λ x y. x ≢ y) (if b then [] else Diff i j ∷ [])) [
  | true ↦ λ k l x below within. absurd (omega arith)
  | false ↦ λ k l x below within. absurd (omega arith)
]

-- at a node with one child the chain goes on there
pub on_chain_child : (d : ℕ) (revoked : List ℕ) (head v w : ℕ) → AreLeaves d revoked → IsOnChain d revoked head v
    → HasOneChild d revoked v → w / 2 ≡ v → IsInTree d revoked w → IsOnChain d revoked head w
on_chain_child d revoked head v w leaves on one e t = record {
  begins = on.begins;
  inside = t;
  above = above_trans head v w on.above (1, e);
  ends = λ j. (
    λ l. leads_to_child d revoked v w j leaves one e t ((on.ends j).0 l),
    λ l. (on.ends j).1 (leads_from_child d revoked v w j on.inside one e l),
  );
}

-- a node with a sibling in the tree begins a chain
pub on_chain_begun : (d : ℕ) (revoked : List ℕ) (v : ℕ) → IsChainHead d revoked v → IsInTree d revoked v
    → IsOnChain d revoked v v
on_chain_begun d revoked v h t = record {
  begins = h;
  inside = t;
  above = above_self v;
  ends = λ j. (λ l. l, λ l. l);
}

-- a set of a chain has its ends, and they differ
end_is : (head v : ℕ) (name : SetName) → Contains (of_ends head v) name → (Diff head v ≡ name) × (head ≢ v)
end_is head v name m = elim (eqb_tells head v) [
  | inl same ↦ absurd (no_member name (subst (λ (xs : List SetName). Contains xs name) (of_ends_same head v same.1) m))
  | inr other ↦ elim
      (member_cases (Diff head v) [] name
      (subst (λ (xs : List SetName). Contains xs name) (of_ends_other head v other.1) m)) [
        | inl is ↦ (is, other.1)
        | inr none ↦ absurd (no_member name none)
      ]
]

-- what is found where a chain ends is its set
end_found : (d : ℕ) (revoked : List ℕ) (head v : ℕ) (name : SetName) → IsOnChain d revoked head v
    → IsChainEnd d revoked v → Contains (of_ends head v) name → IsOfChain d revoked name × BeginsBy head v name
end_found d revoked head v name on e m =
    let is = end_is head v name m in
    let chain = chain_from_leads d revoked head v on.begins ((on.ends v).1 (end_leads d revoked v on.inside e)) is.1 in
    subst (λ (a : SetName). IsOfChain d revoked a × BeginsBy head v a) is.0 (chain, inl refl)

-- the set of each chain from the head is found where it ends
end_made : (d : ℕ) (revoked : List ℕ) (head v i j : ℕ) → AreLeaves d revoked → IsOnChain d revoked head v
    → IsChainEnd d revoked v → EndsChain d revoked i j → i ≡ head → Contains (of_ends head v) (Diff i j)
end_made d revoked head v i j leaves on e c same =
    let leads = chain_leads d revoked i j c in
    let from = subst (λ (x : ℕ). ChainEndsAt d revoked x j) same leads.0 in
    let last : j ≡ v = end_leads_only d revoked v j leaves e ((on.ends j).0 from) in
    let other : head ≢ v = λ f. leads.1 (same ∙ (f ∙ sym last)) in
    let first = member_first (Diff head v) [] in
    let as_diff : Diff head v ≡ Diff i j = cc in
    subst (λ (xs : List SetName). Contains xs (Diff i j)) (sym (of_ends_other head v other))
    (subst (Contains (Diff head v ∷ [])) as_diff first)

-- at a revoked leaf's node the sets are those of the chain that ends there
pub walk_leaf : (d : ℕ) (revoked : List ℕ) (head v : ℕ) → AreLeaves d revoked → IsOnChain d revoked head v → 2 ^ d ≤ v
    → IsChainEnd d revoked v → AreChainsFrom d revoked head v (of_ends head v)
walk_leaf d revoked head v leaves on low e = record {
  chains = λ name. (end_found d revoked head v name on e, λ p. made name p.0 p.1);
  once = of_ends_once head v;
}
  where
    made : (name : SetName) → IsOfChain d revoked name → BeginsBy head v name → Contains (of_ends head v) name
    made Whole c b = absurd c
    made (Diff i j) c (inl same) = end_made d revoked head v i j leaves on e c same
    made (Diff i j) c (inr below) =
        let lt = within_tree d revoked i leaves (linked_start d revoked c.nodes i c.linked) in
        elim (above_through_child v i below) [
          | inl left ↦ let le = above_le (2 * v) i left in absurd (omega arith)
          | inr right ↦ let le = above_le (2 * v + 1) i right in absurd (omega arith)
        ]

-- what begins by a child begins below the node
begins_below : (v w : ℕ) (name : SetName) → 1 ≤ v → w / 2 ≡ v → BeginsBy w w name → (head : ℕ) → BeginsBy head v name
begins_below v w Whole h e b head = absurd b
begins_below v w (Diff i j) h e (inl same) head =
    inr (below_parent v w i h e (subst (IsAbove w) (sym same) (above_self w)))
begins_below v w (Diff i j) h e (inr below) head = inr (below_parent v w i h e below.0)

-- what is at or below a node begins by it
begins_by : (w i j : ℕ) → IsAbove w i → BeginsBy w w (Diff i j)
begins_by w i j a = elim (eqb_tells i w) [
  | inl same ↦ inl same.1
  | inr other ↦ inr (a, λ e. other.1 (sym e))
]

-- what begins by a node is at or below it
begins_at : (w i j : ℕ) → BeginsBy w w (Diff i j) → IsAbove w i
begins_at w i j (inl same) = subst (IsAbove w) (sym same) (above_self w)
begins_at w i j (inr below) = below.0

-- a name that begins by w and by x begins at or below both
begins_both : (w x : ℕ) (name : SetName) → BeginsBy w w name → BeginsBy x x name → (i : ℕ) × IsAbove w i × IsAbove x i
begins_both w x Whole b c = absurd b
begins_both w x (Diff i j) b c = (i, begins_at w i j b, begins_at x i j c)

-- at a node with two children in the tree a chain ends, and one begins at each of them
pub walk_two : (d : ℕ) (revoked : List ℕ) (head v : ℕ) (left right : List SetName) → AreLeaves d revoked
    → IsOnChain d revoked head v → HasTwoChildren d revoked v → AreChainsFrom d revoked (2 * v) (2 * v) left
    → AreChainsFrom d revoked (2 * v + 1) (2 * v + 1) right
    → AreChainsFrom d revoked head v (of_ends head v ++ (left ++ right))
walk_two d revoked head v left right leaves on two p q = record {
  chains = λ name. (found name, λ b. made name b.0 b.1);
  once = once_append (of_ends head v) (left
      ++ right) (of_ends_once head v) (once_append left right p.once q.once apart) above;
}
  where
    low : 1 ≤ v
    low = on.inside.0

    half_left : 2 * v / 2 ≡ v
    half_left = omega arith

    half_right : (2 * v + 1) / 2 ≡ v
    half_right = omega arith

    found : (name : SetName) → Contains (of_ends head v ++ (left ++ right)) name → IsOfChain d revoked name
        × BeginsBy head v name
    found name m = elim (Contains-append_cases (of_ends head v) (left ++ right) name m) [
      | inl here ↦ end_found d revoked head v name on (inr two) here
      | inr below ↦ elim (Contains-append_cases left right name below) [
        | inl a ↦ let c = (p.chains name).0 a in (c.0, begins_below v (2 * v) name low half_left c.1 head)
        | inr b ↦ let c = (q.chains name).0 b in (c.0, begins_below v (2 * v + 1) name low half_right c.1 head)
      ]
    ]

    made : (name : SetName) → IsOfChain d revoked name → BeginsBy head v name
        → Contains (of_ends head v ++ (left ++ right)) name
    made Whole c b = absurd c
    made (Diff i j) c (inl same) =
        Contains-append_left (of_ends head v) (left
        ++ right) (Diff i j) (end_made d revoked head v i j leaves on (inr two) c same)
    made (Diff i j) c (inr below) =
        Contains-append_right (of_ends head v) (left ++ right) (Diff i j) (elim (above_through_child v i below) [
          | inl a ↦ Contains-append_left left right (Diff i j) ((p.chains (Diff i j)).1 (c, begins_by (2 * v) i j a))
          | inr a ↦ Contains-append_right left right (Diff i j)
              ((q.chains (Diff i j)).1 (c, begins_by (2 * v + 1) i j a))
        ])

    apart : (name : SetName) → Contains left name → Contains right name → ⊥
    apart name m n =
        let both = begins_both (2 * v) (2 * v + 1) name ((p.chains name).0 m).1 ((q.chains name).0 n).1 in
        siblings_apart both.0 v low both.1 both.2

    above : (name : SetName) → Contains (of_ends head v) name → Contains (left ++ right) name → ⊥
    above name m n =
        let is = sym (end_is head v name m).0 in
        let lower = above_le head v on.above in
        elim (Contains-append_cases left right name n) [
          | inl a ↦
              let at = begins_at (2 * v) head v (subst (BeginsBy (2 * v) (2 * v)) is ((p.chains name).0 a).1) in
              let le = above_le (2 * v) head at in
              omega arith
          | inr b ↦
              let at = begins_at (2 * v + 1) head v
              (subst (BeginsBy (2 * v + 1) (2 * v + 1)) is ((q.chains name).0 b).1) in
              let le = above_le (2 * v + 1) head at in
              omega arith
        ]

-- a chain doesn't begin at an only child
no_head : (d : ℕ) (revoked : List ℕ) (v w : ℕ) → 1 ≤ v → HasOneChild d revoked v → w / 2 ≡ v → IsInTree d revoked w
    → IsChainHead d revoked w → ⊥
no_head d revoked v w low one e t (inl root) = omega arith
no_head d revoked v w low one e t (inr beside) = elim (sibling_cases w) [
  | inl left ↦
      let half : sibling_of w / 2 ≡ v = omega arith in
      let same = one_child_is d revoked v w (sibling_of w) one e half t beside in
      omega arith
  | inr right ↦
      let half : sibling_of w / 2 ≡ v = omega arith in
      let same = one_child_is d revoked v w (sibling_of w) one e half t beside in
      omega arith
]

-- at a node with one child in the tree the walk goes on there
pub walk_one : (d : ℕ) (revoked : List ℕ) (head v w : ℕ) (sets : List SetName) → 1 ≤ v → HasOneChild d revoked v
    → w / 2 ≡ v → IsInTree d revoked w → AreChainsFrom d revoked head w sets → AreChainsFrom d revoked head v sets
walk_one d revoked head v w sets low one e t p = record {
  chains = λ name. (
    λ m. let c =
        (p.chains name).0 m in (c.0, up name c.1),
    λ c. (p.chains name).1 (c.0, down name c.0 c.1),
  );
  once = p.once;
}
  where
    up : (name : SetName) → BeginsBy head w name → BeginsBy head v name
    up Whole b = absurd b
    up (Diff i j) (inl same) = inl same
    up (Diff i j) (inr below) = inr (below_parent v w i low e below.0)

    at_child : (x i j : ℕ) → x / 2 ≡ v → EndsChain d revoked i j → IsAbove x i → BeginsBy head w (Diff i j)
    at_child x i j f c a =
        let inside = linked_start d revoked c.nodes i c.linked in
        let above = tree_upward d revoked x i (omega arith) a inside in
        let same = one_child_is d revoked v x w one f e above t in
        inr (
          subst (λ (y : ℕ). IsAbove y i) same a,
          λ is. no_head d revoked v w low one e t (subst (IsChainHead d revoked) (sym is) c.head),
        )

    down : (name : SetName) → IsOfChain d revoked name → BeginsBy head v name → BeginsBy head w name
    down Whole c b = absurd c
    down (Diff i j) c (inl same) = inl same
    down (Diff i j) c (inr below) = elim (above_through_child v i below) [
      | inl a ↦ at_child (2 * v) i j (omega arith) c a
      | inr a ↦ at_child (2 * v + 1) i j (omega arith) c a
    ]
