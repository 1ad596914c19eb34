-- Which pairs a leaf is given.
use Rattle.std.proofs.Common.{ℕ, suc, zero, ◌+◌, ◌-◌, ◌^◌, ◌<◌, ◌≤◌, ◌≡◌, List, [], ◌∷◌, map, refl, sym, ◌∙◌, inl, inr}
use Rattle.std.proofs.Common.{⊎_elim, arith}
use Rattle.std.specs.Prelude.{◌↔◌, Contains}
use Rattle.std.specs.List.{range_with_len, flat_map}
use Rattle.std.proofs.lemmas.Bool.{cases_lt}
use Rattle.std.proofs.lemmas.List.Concat.{flat_map-cons}
use Rattle.std.proofs.lemmas.List.Elements.{Contains-append_left, Contains-append_right, Contains-append_cases}
use Rattle.std.proofs.lemmas.List.FromFn.{length-map-range_with_len, get_or-map-range_with_len}
use Rattle.sd_tree_keys.proofs.Ancestors.{node_level, leaf_level, above_le, above_trans, above_by_levels}
use Rattle.sd_tree_keys.proofs.Ancestors.{properly_above_by_levels}
use Rattle.sd_tree_keys.specs.declared.name.Name.{Name}
use Rattle.sd_tree_keys.specs.declared.name.Name.TheVariants.{Whole, Pair}
use Rattle.sd_tree_keys.specs.Names.{IsGivenPair, names_of_receiver, pair_names_under}
use Rattle.sd_tree_keys.specs.Paths.{path_node, sibling_of}
use Rattle.sd_tree_keys.proofs.Paths.{path_is_node, path_over_leaf, path_above}

-- what is in the lists of some numbers in a row is in one of them
pub from_lists : {X : Type 0} (f : ℕ → List X) (a n : ℕ) (x : X) → Contains (flat_map f (range_with_len a n)) x
    → (k : ℕ) × (a ≤ k) × (k < a + n) × Contains (f k) x
from_lists f a zero x (k, within, is) = absurd (omega arith)
from_lists f a (suc n) x held =
    elim (Contains-append_cases (f a) (flat_map f (range_with_len (a + 1) n)) x
    (rw (flat_map-cons f a (range_with_len (a + 1) n)) at held)) [
      | inl here ↦ (a, omega arith, omega arith, here)
      | inr there ↦ let (k, low, high, is) = from_lists f (a + 1) n x there in (k, omega arith, omega arith, is)
    ]

-- what is in the list of one of some numbers in a row is in all of their lists together
pub to_lists : {X : Type 0} (f : ℕ → List X) (a n : ℕ) (x : X) (k : ℕ) → a ≤ k → k < a + n → Contains (f k) x
    → Contains (flat_map f (range_with_len a n)) x
to_lists f a zero x k low high held = absurd (omega arith)
to_lists f a (suc n) x k low high held =
    rw (flat_map-cons f a (range_with_len (a + 1) n))
    (⊎_elim
    (λ (h : a < k). Contains-append_right (f a) (flat_map f (range_with_len (a + 1) n)) x
    (to_lists f (a + 1) n x k (omega arith) (omega arith) held))
    (λ (h : k ≤ a). let e : k ≡ a =
    omega arith in Contains-append_left (f a) (flat_map f (range_with_len (a + 1) n)) x (rw e at held))
    (cases_lt a k))

-- what is among the values at some numbers in a row is the value at one of them
pub from_values : {X : Type 0} (f : ℕ → X) (a n : ℕ) (x : X) → Contains (map f (range_with_len a n)) x → (k : ℕ)
    × (a ≤ k) × (k < a + n) × (f k ≡ x)
from_values f a n x (i, within, is) =
    let short : i < n = omega (arith, length-map-range_with_len f a n) in
    (a + i, omega arith, omega arith, sym (get_or-map-range_with_len f a n i (a + i) x short refl) ∙ is)

-- the value at one of some numbers in a row is among their values
pub to_values : {X : Type 0} (f : ℕ → X) (a n : ℕ) (x : X) (k : ℕ) → a ≤ k → k < a + n → f k ≡ x
    → Contains (map f (range_with_len a n)) x
to_values f a n x k low high is = (
  k - a,
  omega (arith, length-map-range_with_len f a n),
  get_or-map-range_with_len f a n (k - a) k x (omega arith) (omega arith) ∙ is,
)

-- a path node's sibling hangs below each path node above it
pub path_pair : (d u a b : ℕ) → u < 2 ^ d → a < b → b ≤ d
    → IsGivenPair d u (path_node d u a) (sibling_of (path_node d u b))
path_pair d u a b leaf less le = record {
  node = path_node d u b;
  inner = path_is_node d u a leaf (omega arith);
  ancestor = path_above d u a b leaf less le;
  path = path_over_leaf d u b;
  hanging = refl;
}

-- one name is of one pair
pub same_pair : (d u i w i' w' : ℕ) → Pair i w ≡ Pair i' w' → IsGivenPair d u i w → IsGivenPair d u i' w'
same_pair d u i w i' w' is names_of_receiver =
    let ancestor : i ≡ i' = cc in
    let hanging : w ≡ w' = cc in
    rw ancestor at (rw hanging at names_of_receiver)

-- the pairs of one ancestor
pub under_is_hanging : (d u a i w : ℕ) → u < 2 ^ d → a < d → Contains (pair_names_under d u a) (Pair i w)
    → IsGivenPair d u i w
unfolding pair_names_under
under_is_hanging d u a i w leaf less held =
    let (b, low, high, is) =
    from_values (λ b. Pair (path_node d u a) (sibling_of (path_node d u b))) (a + 1) (d - a) (Pair i w) held in
    same_pair d u _ _ i w is (path_pair d u a b leaf (omega arith) (omega arith))

-- only these pairs are given
pub given_is_hanging : (d u i w : ℕ) → u < 2 ^ d → Contains (names_of_receiver d u) (Pair i w) → IsGivenPair d u i w
unfolding names_of_receiver
given_is_hanging d u i w leaf held =
    elim (Contains-append_cases (Whole ∷ []) (flat_map (pair_names_under d u) (range_with_len 0 d)) (Pair i w) held) [
      | inl here ↦ only_whole here
      | inr there ↦ let (a, low, high, is) =
          from_lists (pair_names_under d u) 0 d (Pair i w) there in under_is_hanging d u a i w leaf (omega arith) is
    ]
  where
    only_whole : Contains (Whole ∷ []) (Pair i w) → IsGivenPair d u i w
    only_whole (zero, within, is) = cc
    only_whole (suc k, within, is) = absurd (omega arith)

-- each of these pairs is given
pub hanging_is_given : (d u i w : ℕ) → u < 2 ^ d → IsGivenPair d u i w → Contains (names_of_receiver d u) (Pair i w)
unfolding names_of_receiver pair_names_under
hanging_is_given d u i w leaf pair =
    let le = above_le i pair.node pair.ancestor.0 in
    let (a, at_i) = node_level i pair.inner in
    let (b, at_v) = node_level pair.node (omega (arith, pair.inner)) in
    let at_leaf = leaf_level d u leaf in
    let less = properly_above_by_levels i pair.node a b at_i at_v pair.ancestor in
    let down = above_by_levels pair.node (2 ^ d + u) b d at_v at_leaf pair.path in
    let up = above_by_levels i (2 ^ d + u) a d at_i at_leaf
    (above_trans i pair.node (2 ^ d + u) pair.ancestor.0 pair.path) in
    let f : ℕ → Name = λ k. Pair (path_node d u a) (sibling_of (path_node d u k)) in
    let is : f b ≡ Pair i w = rw (up.1, down.1, pair.hanging) refl in
    let under = to_values f (a + 1) (d - a) (Pair i w) b (omega (arith, less.0)) (omega (arith, down.0, less.0)) is in
    Contains-append_right (Whole ∷ []) (flat_map (pair_names_under d u) (range_with_len 0 d)) (Pair i w)
    (to_lists (pair_names_under d u) 0 d (Pair i w) a (omega arith) (omega (arith, down.0, less.0)) under)

-- the pairs that are given are those of the path's siblings
pub given_pairs : (d u i w : ℕ) → u < 2 ^ d → Contains (names_of_receiver d u) (Pair i w) ↔ IsGivenPair d u i w
given_pairs d u i w leaf = (given_is_hanging d u i w leaf, hanging_is_given d u i w leaf)

-- the whole set is given
pub given_whole : (d u : ℕ) → Contains (names_of_receiver d u) Whole
unfolding names_of_receiver
given_whole d u = (0, omega arith, refl)
