-- The names of a leaf, as they are added one after another.
use Rattle.std.proofs.Common.{ℕ, ◌+◌, ◌-◌, ◌≡◌, List, [], ◌∷◌, ◌++◌, map, refl, sym, ap, ◌∙◌, append_assoc}
use Rattle.std.proofs.Common.{arith}
use Rattle.std.specs.List.{range_with_len, flat_map}
use Rattle.std.proofs.lemmas.List.{flat_map_more}
use Rattle.std.proofs.lemmas.List.FromFn.{map-range_with_len_more}
use Rattle.sd_base.proofs.Ranges.{range_more}
use Rattle.sd_tree_keys.specs.declared.name.Name.{Name}
use Rattle.sd_tree_keys.specs.declared.name.Name.TheVariants.{Whole, Pair}
use Rattle.sd_tree_keys.specs.Names.{names_of_receiver, pair_names_under}
use Rattle.sd_tree_keys.specs.Paths.{path_node, sibling_of}

-- the first n pairs of the leaf's ancestor at depth a
abbrev pub first_pairs : ℕ → ℕ → ℕ → ℕ → List Name
first_pairs d u a n = map (λ b. Pair (path_node d u a) (sibling_of (path_node d u b))) (range_with_len (a + 1) n)

-- one pair more after some names
pub pair_more : (d u a n b : ℕ) (before : List Name) → a + 1 + n ≡ b → (before ++ first_pairs d u a n)
    ++ Pair (path_node d u a) (sibling_of (path_node d u b)) ∷ [] ≡ before ++ first_pairs d u a (n + 1)
pair_more d u a n b before at =
    append_assoc before (first_pairs d u a n) (Pair (path_node d u a) (sibling_of (path_node d u b)) ∷ [])
    ∙ ap (λ (xs : List Name). before
    ++ xs) (sym
    (map-range_with_len_more (λ b. Pair (path_node d u a) (sibling_of (path_node d u b))) (a + 1) n b at))

-- all pairs of the ancestor
pub pairs_all : (d u a n : ℕ) → n ≡ d - a → first_pairs d u a n ≡ pair_names_under d u a
unfolding pair_names_under
pairs_all d u a n all = rw all refl

-- what is given under a leaf's first k ancestors, after the whole set
abbrev pub first_given : ℕ → ℕ → ℕ → List Name
first_given d u k = Whole ∷ [] ++ flat_map (pair_names_under d u) (range_with_len 0 k)

-- one ancestor more
pub ancestor_more : (d u k : ℕ) → first_given d u k ++ pair_names_under d u k ≡ first_given d u (k + 1)
ancestor_more d u k =
    let e : 0 + k ≡ k = omega arith in
    flat_map_more (pair_names_under d u) (Whole ∷ []) (range_with_len 0 k) k
    ∙ ap (λ (ks : List ℕ). Whole ∷ [] ++ flat_map (pair_names_under d u) ks) (sym (rw e at (range_more 0 k)))

-- all ancestors
pub ancestors_all : (d u k : ℕ) → k ≡ d → first_given d u k ≡ names_of_receiver d u
unfolding names_of_receiver
ancestors_all d u k all = rw all refl
