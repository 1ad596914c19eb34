-- Ascending lists of names are told by their members.
use Rattle.std.proofs.Common.{◌≡◌, ◌≢◌, ℕ, suc, inl, inr, List, [], ◌∷◌, Contains, AllPairs, get_or, arith, refl, sym}
use Rattle.std.proofs.Common.{subst}
use Rattle.std.specs.declared.cmp.Ordering.TheVariants.{Less}
use Rattle.std.proofs.lemmas.Bool.Decides.{nat_tests}
use Rattle.sd_tree_keys.specs.declared.set.SetName.{SetName}
use Rattle.sd_tree_keys.specs.declared.set.SetName.TheVariants.{Whole, Diff}
use Rattle.sd_tree_keys.specs.SetNames.{set_cmp, AreAscending}
use Rattle.sd_cover_tracing.specs.Chains.{IsChainCover}
use Rattle.sd_cover_tracing.proofs.Lists.{member_cases, member_first, member_later, no_member}

-- no name stands before itself, nor before one that stands before it
pub not_both : (a b : SetName) → set_cmp a b ≡ Less → set_cmp b a ≡ Less → ⊥
not_both Whole Whole p q = cc
not_both Whole (Diff k l) p q = cc
not_both (Diff i j) Whole p q = cc
not_both (Diff i j) (Diff k l) p q = grind (arith, nat_tests)

-- the first name stands before all others
pub first_before : (x : SetName) (xs : List SetName) → AreAscending (x ∷ xs) → (y : SetName) → Contains xs y
    → set_cmp x y ≡ Less
first_before x xs a y (k, h, e) =
    subst (λ (z : SetName). set_cmp x z ≡ Less) e (a 0 (suc k) y (omega arith) (omega arith))

-- the rest ascends too
pub rest_ascending : (x : SetName) (xs : List SetName) → AreAscending (x ∷ xs) → AreAscending xs
rest_ascending x xs a i j d below within = a (suc i) (suc j) d (omega arith) (omega arith)

-- in an ascending list none stands twice
pub ascending_once : (sets : List SetName) → AreAscending sets → AllPairs (λ a b. a ≢ b) sets
ascending_once sets a i j d below within same =
    let less = a i j d below within in
    let itself = subst (λ (x : SetName). set_cmp x (get_or sets j d) ≡ Less) same less in
    not_both (get_or sets j d) (get_or sets j d) itself itself

-- each name of b is in a
abbrev pub HasAllOf : List SetName → List SetName → Type 0
HasAllOf a b = (name : SetName) → Contains b name → Contains a name

-- two ascending lists with the same members begin alike
same_first : (x y : SetName) (xs ys : List SetName) → AreAscending (x ∷ xs) → AreAscending (y ∷ ys)
    → HasAllOf (y ∷ ys) (x ∷ xs) → HasAllOf (x ∷ xs) (y ∷ ys) → y ≡ x
same_first x y xs ys a b all back = elim (member_cases y ys x (all x (member_first x xs))) [
  | inl same ↦ same
  | inr later ↦ elim (member_cases x xs y (back y (member_first y ys))) [
    | inl same ↦ sym same
    | inr after ↦ absurd (not_both x y (first_before x xs a y after) (first_before y ys b x later))
  ]
]

-- after a first name that both have, what one has the other has
rest_has : (x : SetName) (xs ys : List SetName) → AreAscending (x ∷ xs) → HasAllOf (x ∷ ys) (x ∷ xs) → HasAllOf ys xs
rest_has x xs ys a all name m = elim (member_cases x ys name (all name (member_later x xs name m))) [
  | inl same ↦
      let before = first_before x xs a name m in
      let itself = subst (λ (z : SetName). set_cmp z name ≡ Less) same before in
      absurd (not_both name name itself itself)
  | inr later ↦ later
]

-- two ascending lists with the same members are equal
pub same_ascending : (a b : List SetName) → AreAscending a → AreAscending b → HasAllOf b a → HasAllOf a b → a ≡ b
same_ascending [] [] a b all back = refl
same_ascending [] (y ∷ ys) a b all back = absurd (no_member y (back y (member_first y ys)))
same_ascending (x ∷ xs) [] a b all back = absurd (no_member x (all x (member_first x xs)))
same_ascending (x ∷ xs) (y ∷ ys) a b all back =
    let e : y ≡ x = same_first x y xs ys a b all back in
    let b' = subst (λ (z : SetName). AreAscending (z ∷ ys)) e b in
    let all' = subst (λ (z : SetName). HasAllOf (z ∷ ys) (x ∷ xs)) e all in
    let back' = subst (λ (z : SetName). HasAllOf (x ∷ xs) (z ∷ ys)) e back in
    let rest =
    same_ascending xs ys (rest_ascending x xs a) (rest_ascending x ys b') (rest_has x xs ys a all')
    (rest_has x ys xs b' back') in
    cc

-- there is one chain cover
pub one_cover : (d : ℕ) (revoked : List ℕ) (a b : List SetName) → IsChainCover d revoked a → IsChainCover d revoked b
    → a ≡ b
one_cover d [] a b p q =
    let first = p.none_revoked refl in
    let second = q.none_revoked refl in
    cc
one_cover d (u ∷ us) a b p q =
    let some : u ∷ us ≢ [] = λ e. absurd (cc) in
    same_ascending a b p.ascending q.ascending
    (λ name m. (q.chains some name).1 ((p.chains some name).0 m))
    (λ name m. (p.chains some name).1 ((q.chains some name).0 m))
