-- A leaf is given each name once.
use Rattle.std.proofs.Common.{ℕ, zero, suc, ◌+◌, ◌-◌, ◌/◌, ◌^◌, ◌<◌, ◌≤◌, ◌≡◌, ◌≢◌, List, [], ◌∷◌, ◌++◌, map, sym, ap}
use Rattle.std.proofs.Common.{◌∙◌}
use Rattle.std.proofs.Common.{arith}
use Rattle.std.specs.Prelude.{AllPairs}
use Rattle.std.specs.List.{AllByRecursion, range_with_len, flat_map}
use Rattle.std.proofs.lemmas.List.Concat.{flat_map-cons}
use Rattle.std.proofs.lemmas.List.Elements.{All-from_recursion}
use Rattle.std.proofs.lemmas.List.Kept.{AllPairs-cons}
use Rattle.sd_tree_keys.proofs.Levels.{same_level}
use Rattle.sd_tree_keys.specs.Paths.{path_node, sibling_of}
use Rattle.sd_tree_keys.specs.Names.{names_of_receiver, pair_names_under}
use Rattle.sd_tree_keys.specs.declared.name.Name.{Name}
use Rattle.sd_tree_keys.specs.declared.name.Name.TheVariants.{Whole, Pair}
use Rattle.sd_tree_keys.proofs.Paths.{path_level, sibling_half}
use Rattle.sd_site_cards.proofs.MadeSecrets.{path_half}

-- R is of each element and each later one, by recursion
abbrev Pairs : {X : Type 0} → (X → X → Type 0) → List X → Type 0
Pairs R [] = Unit {0}
Pairs R (x ∷ xs) = AllByRecursion (R x) xs × Pairs R xs

-- which is the same by places
all_pairs : {X : Type 0} (R : X → X → Type 0) (xs : List X) → Pairs R xs → AllPairs R xs
all_pairs R [] pairs = λ i j d lt le. absurd (omega arith)
all_pairs R (x ∷ xs) pairs = AllPairs-cons R x xs (All-from_recursion (R x) xs pairs.0) (all_pairs R xs pairs.1)

-- what is true of each element of two lists is true of them together
all_append : {X : Type 0} (P : X → Type 0) (xs ys : List X) → AllByRecursion P xs → AllByRecursion P ys
    → AllByRecursion P (xs ++ ys)
all_append P [] ys p q = q
all_append P (x ∷ xs) ys p q = (p.0, all_append P xs ys p.1 q)

pairs_append : {X : Type 0} (R : X → X → Type 0) (xs ys : List X) → Pairs R xs → Pairs R ys
    → AllByRecursion (λ x. AllByRecursion (R x) ys) xs → Pairs R (xs ++ ys)
pairs_append R [] ys p q across = q
pairs_append R (x ∷ xs) ys p q across =
    (all_append (R x) xs ys p.0 across.0, pairs_append R xs ys p.1 q across.1)

-- path nodes at different depths differ
depths_apart : (d u s t : ℕ) → u < 2 ^ d → s < t → t ≤ d → path_node d u s ≢ path_node d u t
depths_apart d u s t leaf less le e =
    let here = rw e at (path_level d u s leaf (omega arith)) in
    let same = same_level (path_node d u t) s t here (path_level d u t leaf le) in
    omega arith

-- and so do their siblings
siblings_apart : (d u s t : ℕ) → u < 2 ^ d → 1 ≤ s → s < t → t ≤ d
    → sibling_of (path_node d u s) ≢ sibling_of (path_node d u t)
siblings_apart d u s t leaf some less le e =
    let up : s - 1 + 1 ≡ s = omega arith in
    let over : t - 1 + 1 ≡ t = omega arith in
    let half_s : path_node d u s / 2 ≡ path_node d u (s - 1) = rw up at (path_half d u (s - 1) (omega arith)) in
    let half_t : path_node d u t / 2 ≡ path_node d u (t - 1) = rw over at (path_half d u (t - 1) (omega arith)) in
    let halves : path_node d u s / 2 ≡ path_node d u t / 2 =
    sym (sibling_half (path_node d u s)) ∙ (ap (λ (v : ℕ). v / 2) e ∙ sibling_half (path_node d u t)) in
    depths_apart d u (s - 1) (t - 1) leaf (omega arith) (omega arith) (sym half_s ∙ (halves ∙ half_t))

-- pairs of one ancestor
abbrev pairs_under : ℕ → ℕ → ℕ → ℕ → ℕ → List Name
pairs_under d u a s n = map (λ b. Pair (path_node d u a) (sibling_of (path_node d u b))) (range_with_len s n)

-- what is true of all pairs of an ancestor is true of each of these
each_pair : (P : Name → Type 0) (d u a s n : ℕ) → ((w : ℕ) → P (Pair (path_node d u a) w))
    → AllByRecursion P (pairs_under d u a s n)
each_pair P d u a s zero of = tt
each_pair P d u a s (suc n) of = (of (sibling_of (path_node d u s)), each_pair P d u a (s + 1) n of)

-- and of those that are given under several ancestors
each_given : (P : Name → Type 0) (d u s n : ℕ)
    → ((k w : ℕ) → s ≤ k → k < s + n → P (Pair (path_node d u k) w))
    → AllByRecursion P (flat_map (pair_names_under d u) (range_with_len s n))
unfolding pair_names_under
each_given P d u s zero of = tt
each_given P d u s (suc n) of =
    let rest = flat_map (pair_names_under d u) (range_with_len (s + 1) n) in
    rw (flat_map-cons (pair_names_under d u) s (range_with_len (s + 1) n)) (
    all_append P (pair_names_under d u s) rest
    (each_pair P d u s (s + 1) (d - s) (λ w. of s w (omega arith) (omega arith)))
    (each_given P d u (s + 1) n (λ k w low high. of k w (omega arith) (omega arith))))

-- a pair differs from the later ones of its ancestor
pair_apart : (d u a s t n : ℕ) → u < 2 ^ d → 1 ≤ s → s < t → t + n ≤ d + 1
    → AllByRecursion (λ y. Pair (path_node d u a) (sibling_of (path_node d u s)) ≢ y) (pairs_under d u a t n)
pair_apart d u a s t zero leaf some less le = tt
pair_apart d u a s t (suc n) leaf some less le = (
  λ e. siblings_apart d u s t leaf some less (omega arith) cc,
  pair_apart d u a s (t + 1) n leaf some (omega arith) (omega arith),
)

-- an ancestor's pairs differ
under_once : (d u a s n : ℕ) → u < 2 ^ d → 1 ≤ s → s + n ≤ d + 1 → Pairs (λ x y. x ≢ y) (pairs_under d u a s n)
under_once d u a s zero leaf some le = tt
under_once d u a s (suc n) leaf some le = (
  pair_apart d u a s (s + 1) n leaf some (omega arith) (omega arith),
  under_once d u a (s + 1) n leaf (omega arith) (omega arith),
)

-- and so do those of several ancestors
from_once : (d u s n : ℕ) → u < 2 ^ d → s + n ≡ d
    → Pairs (λ x y. x ≢ y) (flat_map (pair_names_under d u) (range_with_len s n))
unfolding pair_names_under
from_once d u s zero leaf e = tt
from_once d u s (suc n) leaf e =
    let rest = flat_map (pair_names_under d u) (range_with_len (s + 1) n) in
    rw (flat_map-cons (pair_names_under d u) s (range_with_len (s + 1) n)) (
    pairs_append (λ x y. x ≢ y) (pair_names_under d u s) rest
    (under_once d u s (s + 1) (d - s) leaf (omega arith) (omega arith))
    (from_once d u (s + 1) n leaf (omega arith))
    (each_pair (λ x. AllByRecursion (λ y. x ≢ y) rest) d u s (s + 1) (d - s)
    (λ w. each_given (λ y. Pair (path_node d u s) w ≢ y) d u (s + 1) n
    (λ k v low high same. depths_apart d u s k leaf (omega arith) (omega arith) cc))))

-- all names that a leaf is given differ
pub given_once : (d u : ℕ) → u < 2 ^ d → AllPairs (λ a b. a ≢ b) (names_of_receiver d u)
unfolding names_of_receiver
given_once d u leaf = all_pairs (λ x y. x ≢ y) (names_of_receiver d u) (
  each_given (λ y. Whole ≢ y) d u 0 d (λ k w low high same. cc),
  from_once d u 0 d leaf (omega arith),
)
