-- The names that a leaf is given in layers.
use Rattle.std.proofs.Common.{ℕ, ◌+◌, ◌-◌, ◌/◌, ◌%◌, ◌^◌, ◌<◌, ◌≤◌, ◌≡◌, ◌||◌, ◌==◌, ◌⊎◌, Bool, true}
use Rattle.std.proofs.Common.{false, cond, min, List, ◌∷◌, map, take, length, get_or, refl, sym, ap, ◌∙◌, ⊎_elim}
use Rattle.std.proofs.Common.{arith}
use Rattle.std.specs.Prelude.{All, Contains, filter, sum_by, nat_le}
use Rattle.std.proofs.lemmas.List.Elements.{Contains-get_or}
use Rattle.std.specs.List.{range_with_len, flat_map}
use Rattle.std.proofs.Math.Nat.{le-min, min-le_left, min-le_right}
use Rattle.std.proofs.Math.Pow.{pow_mono}
use Rattle.std.proofs.lemmas.Bool.{le-leb, lt-leb, cases_lt}
use Rattle.std.proofs.lemmas.List.{length-take-le}
use Rattle.std.proofs.lemmas.List.Concat.{length-flat_map}
use Rattle.sd_tree_keys.specs.Node.{depth}
use Rattle.sd_tree_keys.specs.Paths.{path_node, sibling_of}
use Rattle.sd_tree_keys.specs.SetNames.{IsOfHeight, IsPair}
use Rattle.sd_tree_keys.proofs.Levels.{doubled}
use Rattle.sd_tree_keys.proofs.Ancestors.{above_le, above_parent, properly_above_from_parent}
use Rattle.sd_tree_keys.proofs.Paths.{path_depth, path_level, path_is_node, sibling_half}
use Rattle.sd_tree_keys.specs.declared.name.Name.{Name}
use Rattle.sd_tree_keys.specs.declared.name.Name.TheVariants.{Whole, Pair}
use Rattle.sd_tree_keys.specs.Names.{names_of_receiver, pair_names_under, IsGivenPair}
use Rattle.sd_tree_keys.proofs.NameCounts.{length_given_under}
use Rattle.sd_tree_keys.proofs.Descents.{child_level}
use Rattle.sd_tree_keys.proofs.Pairs.{given_is_hanging}
use Rattle.sd_site_cards.proofs.MadeSecrets.{path_half}
use Rattle.sd_lsd.specs.Layers.{is_useful, layer_end}
use Rattle.sd_lsd.proofs.Layers.{useful_everywhere}
use Rattle.sd_lsd.specs.LayerNames.{set_of, is_useful_name, layer_given, pairs_under, pairs_above, layer_count}
use Rattle.sd_lsd.proofs.Pairs.{under_within}
use Rattle.sd_lsd.proofs.Filters.{all_kept, first_kept, lists_kept}

-- ---- sets of names

-- a pair that a leaf is given is of a set of the tree
pub given_is_pair : (d u i x : ℕ) → u < 2 ^ d → IsGivenPair d u i x → IsPair d i x
given_is_pair d u i x leaf pair =
    let v : ℕ = pair.node in
    let on_path = above_le v (2 ^ d + u) pair.path in
    let up = above_parent i v pair.ancestor in
    let high = above_le i (v / 2) up in
    let half : x / 2 ≡ v / 2 = rw pair.hanging (sibling_half v) in
    let low = pair.inner in
    record {
      inner = (low, omega arith);
      node = omega (arith, half, doubled d);
      above = properly_above_from_parent i x (omega (arith, half)) (rw half up);
    }

-- and each name that it is given
pub given_of_height : (d u : ℕ) → u < 2 ^ d → (name : Name) → Contains (names_of_receiver d u) name →
    IsOfHeight d (set_of name)
given_of_height d u leaf Whole m = tt
given_of_height d u leaf (Pair i x) m = given_is_pair d u i x leaf (given_is_hanging d u i x leaf m)

-- so all are
pub all_of_height : (d u : ℕ) → u < 2 ^ d → All (λ name. IsOfHeight d (set_of name)) (names_of_receiver d u)
all_of_height d u leaf = λ k x within.
    given_of_height d u leaf (get_or (names_of_receiver d u) k x) (Contains-get_or (names_of_receiver d u) k x within)

-- of width 1, and of the tree's height, a leaf is given all names
pub all_given : (d w u : ℕ) → d ≤ 20 → u < 2 ^ d → (w ≡ 1) ⊎ (w ≡ d) → layer_given d w u ≡ names_of_receiver d u
unfolding layer_given
all_given d w u low leaf wide =
    all_kept (is_useful_name w) (names_of_receiver d u)
    (λ name m. useful_everywhere d w (set_of name) low (given_of_height d u leaf name m) wide)

-- ---- the pairs of an ancestor

-- a path node's sibling stands as deep
sibling_depth : (d u b : ℕ) → d ≤ 20 → u < 2 ^ d → 1 ≤ b → b ≤ d → depth (sibling_of (path_node d u b)) ≡ b
sibling_depth d u b low leaf some le =
    let v : ℕ = path_node d u b in
    let x : ℕ = sibling_of v in
    let e : b - 1 + 1 ≡ b = omega arith in
    let up : v / 2 ≡ path_node d u (b - 1) = rw e at (path_half d u (b - 1) (omega arith)) in
    let half : x / 2 ≡ v / 2 = sibling_half v in
    let parent = path_is_node d u (b - 1) leaf (omega arith) in
    let level = path_level d u b leaf le in
    let word = pow_mono {i = b + 1} {j = 21} (omega arith) in
    let at_x = child_level x (omega (arith, half, up, parent)) (omega (arith, half, level.high, word)) in
    let at_v = child_level v (omega (arith, up, parent)) (omega (arith, level.high, word)) in
    let same : depth x ≡ depth v = rw half at at_x ∙ sym at_v in
    same ∙ path_depth d u b low leaf le

-- the pair of the path node at depth a and the node that hangs at depth b
abbrev pub pair_of : ℕ → ℕ → ℕ → ℕ → Name
pair_of d u a b = Pair (path_node d u a) (sibling_of (path_node d u b))

-- whether it is of a useful set
pair_useful : (d w u a b : ℕ) → d ≤ 20 → u < 2 ^ d → a < b → b ≤ d
    → is_useful_name w (pair_of d u a b) ≡ ((a % w == 0) || nat_le b (layer_end w a))
unfolding is_useful
pair_useful d w u a b low leaf less le =
    let upper = path_depth d u a low leaf (omega arith) in
    let lower = sibling_depth d u b low leaf (omega arith) le in
    rw (upper, lower) refl

-- the pairs of an ancestor that are of useful sets are the first
abbrev pub useful_under : ℕ → ℕ → ℕ → ℕ → List Name
useful_under d w u a = take (pairs_under d w a) (pair_names_under d u a)

useful_by : (d w u a : ℕ) (t : Bool) → (a % w == 0) ≡ t → d ≤ 20 → u < 2 ^ d → a < d
    → filter (is_useful_name w) (map (pair_of d u a) (range_with_len (a + 1) (d - a)))
    ≡ take (cond t (d - a) (min (layer_end w a) d - a)) (map (pair_of d u a) (range_with_len (a + 1) (d - a)))
useful_by d w u a true e low leaf less =
    first_kept (is_useful_name w) (pair_of d u a) (a + 1) (d - a) (d - a) (omega arith)
    (λ b from to. pair_useful d w u a b low leaf (omega arith) (omega arith) ∙ rw e refl)
    (λ b from to. absurd (omega arith))
useful_by d w u a false e low leaf less =
    let end : ℕ = layer_end w a in
    first_kept (is_useful_name w) (pair_of d u a) (a + 1) (d - a) (min end d - a)
    (omega (arith, min-le_right end d))
    (λ b from to. pair_useful d w u a b low leaf (omega arith) (omega (arith, min-le_right end d))
    ∙ rw e (le-leb b end (omega (arith, min-le_left end d))))
    (λ b from to. pair_useful d w u a b low leaf (omega arith) (omega arith)
    ∙ rw e (lt-leb b end (past b end d a from (omega arith) (omega arith))))
  where
    past : (b end d a : ℕ) → a + 1 + (min end d - a) ≤ b → b ≤ d → a < d → end < b
    past b end d a from le less =
        ⊎_elim (λ (h : end < b). h)
        (λ (h : b ≤ end). absurd (omega (arith, le-min h le)))
        (cases_lt end b)

pub useful_are : (d w u a : ℕ) → d ≤ 20 → u < 2 ^ d → a < d
    → filter (is_useful_name w) (pair_names_under d u a) ≡ useful_under d w u a
unfolding pair_names_under pairs_under
useful_are d w u a low leaf less = useful_by d w u a (a % w == 0) refl low leaf less

-- what a leaf is given in layers under its first k ancestors, and the whole set
abbrev pub layer_first : ℕ → ℕ → ℕ → ℕ → List Name
layer_first d w u k = Whole ∷ flat_map (useful_under d w u) (range_with_len 0 k)

-- under all ancestors it is all
pub layer_given_parts : (d w u : ℕ) → d ≤ 20 → u < 2 ^ d → layer_given d w u ≡ layer_first d w u d
unfolding layer_given names_of_receiver is_useful
layer_given_parts d w u low leaf =
    ap (λ (names : List Name). Whole ∷ names)
    (lists_kept (is_useful_name w) (pair_names_under d u) (useful_under d w u) 0 d
    (λ a from to. useful_are d w u a low leaf (omega arith)))

-- ---- their number

length_useful : (d w u a : ℕ) → length (useful_under d w u a) ≡ pairs_under d w a
length_useful d w u a =
    length-take-le (pairs_under d w a) (pair_names_under d u a)
    (omega (arith, under_within d w a, length_given_under d u a))

length_first : (d w u k : ℕ) → length (flat_map (useful_under d w u) (range_with_len 0 k)) ≡ pairs_above d w k
unfolding pairs_above
length_first d w u k =
    length-flat_map (useful_under d w u) (range_with_len 0 k)
    ∙ ap (λ (f : ℕ → ℕ). sum_by f (range_with_len 0 k)) (λ i a. length_useful d w u a i)

pub length_layer_given : (d w u : ℕ) → d ≤ 20 → u < 2 ^ d → length (layer_given d w u) ≡ layer_count d w + 1
unfolding layer_count
length_layer_given d w u low leaf =
    ap length (layer_given_parts d w u low leaf) ∙ omega (arith, length_first d w u d)
