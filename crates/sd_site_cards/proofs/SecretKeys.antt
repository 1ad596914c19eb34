-- The keys that the secrets of a leaf's names lead to, whichever of its names these are.
use Rattle.std.proofs.Common.{ℕ, ◌^◌, ◌<◌, ◌≤◌, ◌≡◌, true, List, [], length, get_or, refl, sym, ap, ◌∙◌, arith}
use Rattle.std.specs.Prelude.{slice_get, Some}
use Rattle.std.proofs.lemmas.Option.{get_or_from_slice_get, slice_get_read}
use Rattle.sd_tree_keys.specs.Node.{depth}
use Rattle.sd_tree_keys.specs.Paths.{path_node, sibling_of}
use Rattle.sd_tree_keys.specs.SetNames.{IsPair}
use Rattle.sd_tree_keys.specs.declared.set.SetName.TheVariants.{Whole as WholeSet, Diff}
use Rattle.sd_tree_keys.specs.Leaves.{is_member}
use Rattle.sd_tree_keys.proofs.Ancestors.{above_le}
use Rattle.sd_tree_keys.proofs.Members.{member_of_pair}
use Rattle.sd_tree_keys.specs.declared.name.Name.{Name}
use Rattle.sd_tree_keys.specs.declared.name.Name.TheVariants.{Pair}
use Rattle.sd_site_cards.specs.Hanging.{IsHanging}
use Rattle.sd_site_cards.specs.Secrets.{HoldsSecret, DerivesPair, key_held}
use Rattle.sd_site_cards.proofs.Held.{AreOfLeaf, derived_is_among}
use Rattle.sd_site_cards.proofs.Paths.{node_within, ancestor_on_path}

-- the lower node of a pair is a node of 32 bits
pub pair_node : (d i j : ℕ) → d ≤ 20 → IsPair d i j → (1 ≤ j) × (j < 2 ^ 32)
pair_node d i j low pair =
    let le = above_le i j pair.above.0 in
    (omega (arith, pair.inner.0), node_within d j low pair.node)

-- a member's pair is with a node that hangs below the set's upper node
pub hangs_below : (d u i j w : ℕ) → d ≤ 20 → u < 2 ^ d → IsPair d i j → is_member d (Diff i j) u ≡ true
    → IsHanging d u j w → depth i < depth w
hangs_below d u i j w low leaf pair member hanging =
    let beside = (member_of_pair d i j u low pair leaf).0 member in
    hanging.below i pair.inner.0 pair.above.0 beside.0

-- the secret at the place of that pair among the names is held for it
pub held_at : (d u i j w k : ℕ) (names : List Name) (secrets : List (List ℕ)) (label : List ℕ) → d ≤ 20 → u < 2 ^ d
    → IsPair d i j → is_member d (Diff i j) u ≡ true → IsHanging d u j w
    → slice_get names k ≡ Some (Pair (path_node d u (depth i)) (sibling_of (path_node d u (depth w))))
    → slice_get secrets k ≡ Some label → HoldsSecret names secrets (Pair i w) label
held_at d u i j w k names secrets label low leaf pair member hanging there held =
    let beside = (member_of_pair d i j u low pair leaf).0 member in
    let upper = ancestor_on_path d u i low leaf pair.inner.0 beside.0 in
    let lower = hanging.sibling in (
      k,
      there ∙ (ap (λ (v : ℕ). Some (Pair v (sibling_of (path_node d u (depth w))))) upper
          ∙ ap (λ (v : ℕ). Some (Pair i v)) (sym lower)),
      held,
    )

-- what is derived for a pair is the key that the names and their secrets give
pub derived_is_held : (d u i j : ℕ) (names : List Name) (secrets : List (List ℕ)) (key : List ℕ) (taken : ℕ)
    → AreOfLeaf d u names → IsPair d i j → DerivesPair names secrets i j key taken
    → key ≡ key_held names secrets (Diff i j)
unfolding key_held
derived_is_held d u i j names secrets key taken of pair derives =
    let node = pair_node d i j of.height pair in
    derived_is_among d u i j names secrets key taken of node.0 node.1 derives

-- the first of some secrets is there
pub first_read : (secrets : List (List ℕ)) (key : List ℕ) → 0 < length secrets → key ≡ get_or secrets 0 key
    → slice_get secrets 0 ≡ Some key
first_read secrets key some is = slice_get_read secrets _ 0 key refl some is

-- and the first secret is the key that they give for the whole set
pub first_is_held : (names : List Name) (secrets : List (List ℕ)) (key : List ℕ) → slice_get secrets 0 ≡ Some key
    → key ≡ key_held names secrets WholeSet
unfolding key_held
first_is_held names secrets key is = sym (get_or_from_slice_get secrets 0 key [] is)
