-- The sets of a chain cover are of the tree's height.
use Rattle.std.proofs.Common.{ℕ, ◌*◌, ◌/◌, ◌^◌, ◌<◌, ◌≡◌, List, [], ◌∷◌, get_or, refl, subst, inl, inr}
use Rattle.std.proofs.Common.{arith}
use Rattle.std.specs.Prelude.{Contains, All}
use Rattle.std.proofs.lemmas.List.Elements.{All-contains, Contains-get_or}
use Rattle.sd_tree_keys.specs.Node.{IsAbove}
use Rattle.sd_tree_keys.specs.SetNames.{IsPair, IsOfHeight}
use Rattle.sd_tree_keys.specs.declared.set.SetName.{SetName}
use Rattle.sd_tree_keys.specs.declared.set.SetName.TheVariants.{Whole, Diff}
use Rattle.sd_tree_keys.proofs.Levels.{doubled}
use Rattle.sd_tree_keys.proofs.Ancestors.{above_le, above_self, above_trans, above_parent}
use Rattle.sd_cover_tracing.specs.Chains.{IsChainCover, AreLinked, EndsChain, last_of}
use Rattle.sd_cover_tracing.proofs.Ends.{AreLeaves, within_tree, linked_start, linked_end, chain_leads}
use Rattle.sd_cover_tracing.proofs.Lists.{member_cases, no_member}

-- the first node of a chain is above the last
pub linked_above : (d : ℕ) (leaves nodes : List ℕ) (v : ℕ) → AreLinked d leaves (v ∷ nodes) →
    IsAbove v (last_of v nodes)
linked_above d leaves [] v l = above_self v
linked_above d leaves (w ∷ nodes) v l = above_trans v w (last_of w nodes) (1, l.2) (linked_above d leaves nodes w l.3)

-- the first and the last node of a chain make a set of the tree
ends_are_pair : (d : ℕ) (leaves : List ℕ) (i j : ℕ) → AreLeaves d leaves → EndsChain d leaves i j → IsPair d i j
ends_are_pair d leaves i j all chain =
    let start = linked_start d leaves chain.nodes i chain.linked in
    let end = linked_end d leaves chain.nodes i chain.linked in
    let above : IsAbove i j = subst (IsAbove i) chain.last (linked_above d leaves chain.nodes i chain.linked) in
    let apart = (chain_leads d leaves i j chain).1 in
    let within : j < 2 * 2 ^ d =
    subst (λ (v : ℕ). v < 2 * 2 ^ d) chain.last (within_tree d leaves (last_of i chain.nodes) all end.0) in
    let half = above_le i (j / 2) (above_parent i j (above, apart)) in
    record {
      inner = (start.0, omega arith);
      node = omega (arith, doubled d);
      above = (above, apart);
    }

-- the whole set alone has no other set
only_whole : (name : SetName) → Contains (Whole ∷ []) name → Whole ≡ name
only_whole name m = elim (member_cases Whole [] name m) [
  | inl same ↦ same
  | inr none ↦ absurd (no_member name none)
]

-- each set of a chain cover is of the tree's height
pub of_height : (d : ℕ) (leaves : List ℕ) (sets : List SetName) → AreLeaves d leaves → IsChainCover d leaves sets →
    (name : SetName) → Contains sets name → IsOfHeight d name
of_height d [] sets all cover name m =
    subst (IsOfHeight d)
    (only_whole name (subst (λ (names : List SetName). Contains names name) (cover.none_revoked refl) m)) tt
of_height d (u ∷ us) sets all cover Whole m = tt
of_height d (u ∷ us) sets all cover (Diff i j) m =
    ends_are_pair d (u ∷ us) i j all ((cover.chains (λ e. absurd (cc)) (Diff i j)).0 m)

-- and so are all of them
pub cover_of_height : (d : ℕ) (revoked : List ℕ) (sets : List SetName) → All (λ u. u < 2 ^ d) revoked →
    IsChainCover d revoked sets → All (IsOfHeight d) sets
cover_of_height d revoked sets leaves cover k other within =
    of_height d revoked sets (λ u m. All-contains (λ w. w < 2 ^ d) revoked u leaves m) cover
    (get_or sets k other) (Contains-get_or sets k other within)
