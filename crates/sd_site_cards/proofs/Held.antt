-- The key of a pair, from the one name of it that leads there.
use Rattle.std.proofs.Common.{ℕ, zero, suc, ◌+◌, ◌/◌, ◌^◌, ◌<◌, ◌≤◌, ◌≡◌, ◌≢◌, Bool, true, false, eqb, List, [], ◌∷◌}
use Rattle.std.proofs.Common.{map, cond, refl, sym, ap, ◌∙◌, ⊎_elim, eq-eqb, arith}
use Rattle.std.specs.Prelude.{◌↔◌, ◌&&◌, slice_get, Some, Contains, AllPairs}
use Rattle.std.proofs.Math.Pow.{pow_mono}
use Rattle.std.proofs.lemmas.Bool.{eqb-true, and_parts, cases_eq}
use Rattle.std.proofs.lemmas.Option.{same_Some, slice_get-map, slice_get-get_or, slice_get_within}
use Rattle.std.proofs.lemmas.Option.{get_or_from_slice_get}
use Rattle.sd_tree_keys.specs.Node.{depth, IsAbove}
use Rattle.sd_tree_keys.proofs.Levels.{doubled}
use Rattle.sd_tree_keys.proofs.Ancestors.{above_le, above_trans, above_parent, parent_above, above_comparable}
use Rattle.sd_tree_keys.proofs.Ancestors.{above_tested}
use Rattle.sd_tree_keys.specs.Labels.{label_of, descended, middle_of}
use Rattle.sd_tree_keys.specs.Names.{IsGivenPair}
use Rattle.sd_tree_keys.specs.declared.name.Name.{Name}
use Rattle.sd_tree_keys.specs.declared.name.Name.TheVariants.{Whole, Pair}
use Rattle.sd_tree_keys.proofs.Descents.{level_of, held_gives_label}
use Rattle.sd_tree_keys.proofs.Hanging.{one_child_above}
use Rattle.sd_tree_keys.proofs.Paths.{sibling_half, sibling_apart}
use Rattle.sd_site_cards.specs.Secrets.{secret_of, DerivesPair, is_at_or_above, key_among}

-- the halvings between the depths tell which node is above
pub above_by_test : (w j : ℕ) → 1 ≤ w → w < 2 ^ 32 → 1 ≤ j → j < 2 ^ 32 → (is_at_or_above w j ≡ true) ↔ IsAbove w j
above_by_test w j some word node within =
    let tested = above_tested w j (depth w) (depth j) (level_of w some word) (level_of j node within) in
    (λ e. tested.0 (eqb-true _ _ e), λ above. eq-eqb _ _ (tested.1 above))

-- ---- one name leads to the key of a pair

-- what is among the later names is among all
later : (name : Name) (names : List Name) (x : Name) → Contains names x → Contains (name ∷ names) x
later name names x (k, within, is) = (suc k, omega arith, is)

-- names that differ differ without the first
rest_differ : (name : Name) (names : List Name) → AllPairs (λ a b. a ≢ b) (name ∷ names) → AllPairs (λ a b. a ≢ b) names
rest_differ name names differ i j d less within = differ (suc i) (suc j) d (omega arith) (omega arith)

-- a test that holds is passed, and one that doesn't is gone over
taken : (t : Bool) (x y : List ℕ) → t ≡ true → cond t x y ≡ x
taken true x y e = refl
taken false x y e = absurd cc

skipped : (t : Bool) (x y : List ℕ) → t ≡ false → cond t x y ≡ y
skipped true x y e = absurd cc
skipped false x y e = refl

-- the only name that leads to the key gives it
pub among : (names : List Name) (secrets : List (List ℕ)) (i j w k : ℕ) (secret : List ℕ)
    → AllPairs (λ a b. a ≢ b) names
    → ((v : ℕ) → Contains names (Pair i v) → is_at_or_above v j ≡ true → v ≡ w)
    → is_at_or_above w j ≡ true → slice_get names k ≡ Some (Pair i w) → slice_get secrets k ≡ Some secret
    → key_among names secrets i j ≡ middle_of (descended secret w j)
unfolding key_among
among [] secrets i j w k secret differ one above is held = absurd cc
among (name ∷ names) [] i j w k secret differ one above is held = absurd cc
among (Whole ∷ names) (s ∷ secrets) i j w zero secret differ one above is held = absurd cc
among (Pair a v ∷ names) (s ∷ secrets) i j w zero secret differ one above is held =
    let same : Pair a v ≡ Pair i w = same_Some _ _ is in
    let upper : a ≡ i = cc in
    let lower : v ≡ w = cc in
    let first : s ≡ secret = same_Some _ _ held in
    rw (upper, lower, first, above) (
    taken (eqb i i && true) _ _ (rw (eq-eqb i i refl) refl))
among (Whole ∷ names) (s ∷ secrets) i j w (suc k) secret differ one above is held =
    among names secrets i j w k secret (rest_differ Whole names differ)
    (λ v there over. one v (later Whole names (Pair i v) there) over) above is held
among (Pair a v ∷ names) (s ∷ secrets) i j w (suc k) secret differ one above is held =
    let within = slice_get_within names k (Pair i w) is in
    let there = get_or_from_slice_get names k (Pair i w) (Pair i w) is in
    let other : Pair a v ≢ Pair i w = rw there at (differ 0 (suc k) (Pair i w) (omega arith) (omega arith)) in
    let never : eqb a i ≡ true → is_at_or_above v j ≡ true → ⊥ = λ upper over.
    let same = eqb-true a i upper in
    let lower = one v (0, omega arith, rw same refl) over in
    other (rw (same, lower) refl) in
    let not : (t : Bool) → (eqb a i && is_at_or_above v j) ≡ t → t ≡ false = λ t e. judged t a v i j never e in
    skipped (eqb a i && is_at_or_above v j) _ _ (not _ refl)
    ∙ among names secrets i j w k secret (rest_differ (Pair a v) names differ)
    (λ b below over. one b (later (Pair a v) names (Pair i b) below) over) above is held
  where
    judged : (t : Bool) (a v i j : ℕ) → (eqb a i ≡ true → is_at_or_above v j ≡ true → ⊥)
        → (eqb a i && is_at_or_above v j) ≡ t → t ≡ false
    judged true a v i j never e = let both = and_parts _ _ e in absurd (never both.0 both.1)
    judged false a v i j never e = refl

-- ---- the names of a leaf

-- a given pair's lower node hangs off the path
hangs_off : (d u i v : ℕ) → IsGivenPair d u i v → (1 ≤ v) × (v / 2 ≡ 0 → ⊥) × (IsAbove v (2 ^ d + u) → ⊥)
hangs_off d u i v pair =
    let low = pair.inner in
    let up = above_le i (pair.node / 2) (above_parent i pair.node pair.ancestor) in
    let half : v / 2 ≡ pair.node / 2 = rw pair.hanging (sibling_half pair.node) in
    let apart : v ≢ pair.node = λ e. sibling_apart pair.node (sym pair.hanging ∙ e) in (
      omega (arith, half),
      λ none. omega (arith, half),
      λ over. one_child_above pair.node v (2 ^ d + u) (omega (arith, half)) (omega arith) half apart pair.path over,
    )

-- one that is above another hangs off the path to it too
not_over : (d u i v w : ℕ) → IsGivenPair d u i v → IsGivenPair d u i w → IsAbove v w → v ≡ w
not_over d u i v w upper lower over =
    let half : w / 2 ≡ lower.node / 2 = rw lower.hanging (sibling_half lower.node) in
    let on_path : IsAbove (w / 2) (2 ^ d + u) =
    above_trans (w / 2) lower.node (2 ^ d + u) (rw half (parent_above lower.node)) lower.path in
    ⊎_elim (λ (e : v ≡ w). e)
    (λ (apart : v ≢ w).
    absurd ((hangs_off d u i v upper).2 (above_trans v (w / 2) (2 ^ d + u) (above_parent v w (over, apart)) on_path)))
    (cases_eq v w)

-- of an ancestor's pairs one alone has its node above j
pub one_above : (d u i j v w : ℕ) → IsGivenPair d u i v → IsGivenPair d u i w → IsAbove v j → IsAbove w j → v ≡ w
one_above d u i j v w first second over_v over_w =
    ⊎_elim (λ (h : IsAbove v w). not_over d u i v w first second h)
    (λ (h : IsAbove w v). sym (not_over d u i w v second first h))
    (above_comparable v w j over_v over_w)

-- the node of a given pair has 32 bits
given_word : (d u i v : ℕ) → d ≤ 20 → u < 2 ^ d → IsGivenPair d u i v → v < 2 ^ 32
given_word d u i v low leaf pair =
    let le = above_le pair.node (2 ^ d + u) pair.path in
    let half : v / 2 ≡ pair.node / 2 = rw pair.hanging (sibling_half pair.node) in
    omega (arith, half, doubled d, pow_mono {i = d + 1} {j = 31} (omega arith))

-- names of a leaf, each once
pub record AreOfLeaf (d u : ℕ) (names : List Name) : Type 0 where
  pub height : d ≤ 20
  pub leaf : u < 2 ^ d
  pub differ : AllPairs (λ a b. a ≢ b) names
  pub given : (i w : ℕ) → Contains names (Pair i w) → IsGivenPair d u i w

-- a name at a place is among the names
at_place : (names : List Name) (k : ℕ) (name : Name) → slice_get names k ≡ Some name → Contains names name
at_place names k name is = (k, slice_get_within names k name is, get_or_from_slice_get names k name name is)

-- what is derived from the secrets of a leaf's names is the key among them
pub derived_is_among : (d u i j : ℕ) (names : List Name) (secrets : List (List ℕ)) (key : List ℕ) (steps : ℕ)
    → AreOfLeaf d u names → 1 ≤ j → j < 2 ^ 32 → DerivesPair names secrets i j key steps
    → key ≡ key_among names secrets i j
derived_is_among d u i j names secrets key steps of node word derives =
    let w = derives.node in
    let (k, is, held) = derives.held in
    let pair = of.given i w (at_place names k (Pair i w) is) in
    let tested : (v : ℕ) → IsGivenPair d u i v → (is_at_or_above v j ≡ true) ↔ IsAbove v j = λ v given.
    above_by_test v j (hangs_off d u i v given).0 (given_word d u i v of.height of.leaf given) node word in
    let one : (v : ℕ) → Contains names (Pair i v) → is_at_or_above v j ≡ true → v ≡ w = λ v there over.
    let given = of.given i v there in
    one_above d u i j v w given pair ((tested v given).0 over) derives.above in
    derives.value
    ∙ sym (among names secrets i j w k derives.label of.differ one ((tested w pair).1 derives.above) is held)

-- where the names have a pair above j, the secrets that a master gives them lead to the pair's key
pub own_among : (master : List ℕ) (d u i w j : ℕ) (names : List Name) → AreOfLeaf d u names → 1 ≤ j → j < 2 ^ 32
    → Contains names (Pair i w) → IsAbove w j
    → key_among names (map (secret_of master) names) i j ≡ middle_of (label_of master i j)
unfolding secret_of
own_among master d u i w j names of node word (k, within, is) above =
    let pair = of.given i w (k, within, is) in
    let there : slice_get names k ≡ Some (Pair i w) = slice_get-get_or names k (Pair i w) within ∙ ap Some is in
    let held : slice_get (map (secret_of master) names) k ≡ Some (label_of master i w) =
    (let e = slice_get-map (secret_of master) names k in rw there at e) in
    let over : IsAbove i w = rw pair.hanging (above_trans i (pair.node / 2) _ (above_parent i pair.node pair.ancestor)
    (1, sibling_half pair.node)) in
    let derives : DerivesPair names (map (secret_of master) names) i j (middle_of (label_of master i j)) _ = record {
      node = w;
      label = label_of master i w;
      held = (k, there, held);
      above = above;
      value = ap middle_of (sym (held_gives_label master i w j pair.inner word over above));
      steps = refl;
    } in
    sym (derived_is_among d u i j names (map (secret_of master) names) _ _ of node word derives)
