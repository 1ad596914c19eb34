-- Where a pair stands among the names that a leaf is given.
use Rattle.std.proofs.Common.{ℕ, suc, zero, ◌+◌, ◌-◌, ◌*◌, ◌/◌, ◌<◌, ◌≤◌, ◌≡◌, List, [], ◌∷◌, ◌++◌, length, map, refl}
use Rattle.std.proofs.Common.{ap, ◌∙◌, arith}
use Rattle.std.specs.Prelude.{slice_get, Some}
use Rattle.std.specs.List.{range_with_len, flat_map}
use Rattle.std.proofs.Math.Nat.{mul-le-mul_right}
use Rattle.std.proofs.lemmas.Option.{slice_get-get_or}
use Rattle.std.proofs.lemmas.List.Concat.{flat_map-cons}
use Rattle.std.proofs.lemmas.List.FromFn.{length-map-range_with_len, get_or-map-range_with_len}
use Rattle.sd_tree_keys.specs.declared.name.Name.{Name}
use Rattle.sd_tree_keys.specs.declared.name.Name.TheVariants.{Whole, Pair}
use Rattle.sd_tree_keys.specs.Names.{names_of_receiver, pair_names_under}
use Rattle.sd_tree_keys.specs.Paths.{path_node, sibling_of}
use Rattle.sd_tree_keys.proofs.NameCounts.{length_given_under}

-- an element of the first of two lists
pub get_first : {X : Type 0} (xs ys : List X) (k : ℕ) → k < length xs → slice_get (xs ++ ys) k ≡ slice_get xs k
get_first [] ys k h = absurd (omega arith)
get_first (x ∷ xs) ys zero h = refl
get_first (x ∷ xs) ys (suc k) h = get_first xs ys k (omega arith)

-- an element of the second
pub get_after : {X : Type 0} (xs ys : List X) (k n : ℕ) → n ≡ length xs + k → slice_get (xs ++ ys) n ≡ slice_get ys k
get_after [] ys k n e = let s : n ≡ k = omega arith in rw s refl
get_after (x ∷ xs) ys k zero e = absurd (omega arith)
get_after (x ∷ xs) ys k (suc n) e = get_after xs ys k n (omega arith)

-- a pair among those of its ancestor
pub pair_under : (d u a b r : ℕ) → a + 1 + r ≡ b → b ≤ d
    → slice_get (pair_names_under d u a) r ≡ Some (Pair (path_node d u a) (sibling_of (path_node d u b)))
unfolding pair_names_under
pair_under d u a b r e le =
    let f : ℕ → Name = λ k. Pair (path_node d u a) (sibling_of (path_node d u k)) in
    let within : r < length (map f (range_with_len (a + 1) (d - a))) =
    omega (arith, length-map-range_with_len f (a + 1) (d - a)) in
    slice_get-get_or (map f (range_with_len (a + 1) (d - a))) r Whole within
    ∙ ap Some (get_or-map-range_with_len f (a + 1) (d - a) r b Whole (omega arith) e)

-- a pair among those of the n lowest ancestors, from depth s on: after those of m of them and r of its own
pub pair_from : (d u s n m p r k a b : ℕ) → s + n ≡ d → m + p + 1 ≡ n → r ≤ p → 2 * k ≡ m * (m + 2 * p + 3) + 2 * r
    → s + m ≡ a → a + 1 + r ≡ b
    → slice_get (flat_map (pair_names_under d u) (range_with_len s n)) k
    ≡ Some (Pair (path_node d u a) (sibling_of (path_node d u b)))
pair_from d u s zero m p r k a b whole parts own place from to = absurd (omega arith)
pair_from d u s (suc n) zero p r k a b whole parts own place from to =
    let first : k ≡ r = omega arith in
    let at : s ≡ a = omega arith in
    rw (flat_map-cons (pair_names_under d u) s (range_with_len (s + 1) n))
    (get_first (pair_names_under d u s) (flat_map (pair_names_under d u) (range_with_len (s + 1) n)) k
    (omega (arith, length_given_under d u s))
    ∙ rw (first, at) (pair_under d u a b r to (omega arith)))
pair_from d u s (suc n) (suc m) p r k a b whole parts own place from to =
    rw (flat_map-cons (pair_names_under d u) s (range_with_len (s + 1) n))
    (get_after (pair_names_under d u s) (flat_map (pair_names_under d u) (range_with_len (s + 1) n)) (k - (m + p + 2)) k
    (omega (arith, length_given_under d u s))
    ∙ pair_from d u (s + 1) n m p r (k - (m + p + 2)) a b (omega arith) (omega arith) own (omega arith) (omega arith)
    to)

-- a(a + 3) is even
even_product : (a : ℕ) → (t : ℕ) × (a * (a + 3) ≡ 2 * t)
even_product zero = (0, refl)
even_product (suc a) = let (t, e) = even_product a in (t + a + 2, omega (arith, e))

-- the pair of the path node at depth a and the node that hangs at depth b
pub pair_at : (d u a b : ℕ) → a < b → b ≤ d
    → slice_get (names_of_receiver d u) (a * (2 * d - a + 1) / 2 + (b - a))
    ≡ Some (Pair (path_node d u a) (sibling_of (path_node d u b)))
unfolding names_of_receiver
pair_at d u a b less le =
    let (t, even) = even_product a in
    let p : ℕ = d - a - 1 in
    let r : ℕ = b - a - 1 in
    let width : 2 * d - a + 1 ≡ a + 3 + 2 * p = omega arith in
    let wide : a * (2 * d - a + 1) ≡ a * (a + 3 + 2 * p) = ap (λ (n : ℕ). a * n) width in
    let place : a * (2 * d - a + 1) / 2 + (b - a) ≡ suc (t + a * p + r) = omega (arith, wide, even) in
    rw place (pair_from d u 0 d a p r (t + a * p + r) a b (omega arith) (omega arith) (omega arith)
    (omega (arith, even)) (omega arith) (omega arith))

-- that place is among those of all names
pub place_within : (d a b : ℕ) → a < b → b ≤ d → a * (2 * d - a + 1) / 2 + (b - a) < d * (d + 1) / 2 + 1
place_within d a b less le =
    let q : ℕ = d - a in
    let width : 2 * d - a + 1 ≡ a + 1 + 2 * q = omega arith in
    let wide : a * (2 * d - a + 1) ≡ a * (a + 1 + 2 * q) = ap (λ (n : ℕ). a * n) width in
    let whole : a + q ≡ d = omega arith in
    let all : (a + q) * (a + q + 1) ≡ d * (d + 1) = ap (λ (n : ℕ). n * (n + 1)) whole in
    let more : 1 * q ≤ q * q = mul-le-mul_right q (let some : 1 ≤ q = omega arith in some) in
    omega (arith, wide, all, more)
