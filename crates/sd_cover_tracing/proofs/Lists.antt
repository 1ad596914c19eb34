-- Members of lists, lists in which none stands twice, and counts and sums over lists.
use Rattle.std.proofs.Common.{◌≡◌, ◌≢◌, ℕ, suc, zero, ◌⊎◌, inl, inr, ◌+◌, ◌≤◌, Bool, true, false, ◌&&◌, ◌||◌, nat_eq}
use Rattle.std.proofs.Common.{List, [], ◌∷◌, ◌++◌, length, Contains, AllPairs, count_by, sum_by, cond, remove, subst}
use Rattle.std.proofs.Common.{arith, ap, sym, ◌∙◌, refl}
use Rattle.std.specs.List.{list_any}
use Rattle.std.specs.List.Sorted.{IsPermutation}
use Rattle.std.proofs.lemmas.Bool.Decides.{eqb_tells}
use Rattle.std.proofs.lemmas.List.Elements.{Contains-get_or, All-append}
use Rattle.std.proofs.lemmas.List.Kept.{AllPairs-cons}
use Rattle.std.proofs.lemmas.List.Sums.{sum_by-cons}
use Rattle.std.proofs.lemmas.List.Sorted.{IsPermutation-remove, sum_by-IsPermutation, Contains-permutation}

-- a member of a list is its first element or one of the rest
pub member_cases : {X : Type 0} (y : X) (ys : List X) (x : X) → Contains (y ∷ ys) x → (y ≡ x) ⊎ Contains ys x
member_cases y ys x (zero, h, e) = inl e
member_cases y ys x (suc k, h, e) = inr (k, omega arith, e)

-- the first element is a member
pub member_first : {X : Type 0} (x : X) (xs : List X) → Contains (x ∷ xs) x
member_first x xs = (0, omega arith, refl)

-- each member of the rest is a member
pub member_later : {X : Type 0} (y : X) (ys : List X) (x : X) → Contains ys x → Contains (y ∷ ys) x
member_later y ys x (k, h, e) = (suc k, omega arith, e)

-- an empty list has no member
pub no_member : {X : Type 0} (x : X) → Contains {X = X} [] x → ⊥
no_member x (k, h, e) = omega arith

-- the only member of a list of one
pub only_member : {X : Type 0} (x y : X) → Contains (x ∷ []) y → y ≡ x
only_member x y m = elim (member_cases x [] y m) [
  | inl same ↦ sym same
  | inr none ↦ absurd (no_member y none)
]

-- a number that the test finds is a member
pub found_member : (u : ℕ) (xs : List ℕ) → list_any (nat_eq u) xs ≡ true → Contains xs u
found_member u [] e = absurd (cc)
found_member u (x ∷ xs) e = elim (eqb_tells u x) [
  | inl same ↦ (0, omega arith, sym same.1)
  | inr other ↦ member_later x xs u (found_member u xs (sym (rw other.0 refl) ∙ e))
]

-- lists in which none stands twice, without a member in common, make such a list
pub once_append : {X : Type 0} (xs ys : List X) → AllPairs (λ a b. a ≢ b) xs → AllPairs (λ a b. a ≢ b) ys
    → ((x : X) → Contains xs x → Contains ys x → ⊥) → AllPairs (λ a b. a ≢ b) (xs ++ ys)
once_append [] ys p q apart = q
once_append (x ∷ xs) ys p q apart =
    AllPairs-cons (λ a b. a ≢ b) x (xs ++ ys)
    (All-append (λ b. x ≢ b) xs ys
    (λ k d within. p 0 (suc k) d (omega arith) (omega arith))
    (λ k d within same. apart x (member_first x xs) (subst (Contains ys) (sym same) (Contains-get_or ys k d within))))
    (once_append xs ys (λ i j d below within. p (suc i) (suc j) d (omega arith) (omega arith)) q
    (λ y m n. apart y (member_later x xs y m) n))

-- a member that passes counts
pub counted_some : {X : Type 0} (p : X → Bool) (xs : List X) (x : X) → Contains xs x → p x ≡ true → 1 ≤ count_by p xs
counted_some p [] x m t = absurd (no_member x m)
counted_some p (y ∷ ys) x m t = rw (sum_by-cons (λ z. cond (p z) 1 0) y ys) (elim (member_cases y ys x m) [
  | inl same ↦ let is : p y ≡ true = ap p same ∙ t in rw is (omega arith)
  | inr later ↦ let rest = counted_some p ys x later t in omega arith
])

-- where one test is one of two others, which exclude each other, its count is the sum
pub counted_either : {X : Type 0} (p q r : X → Bool) (xs : List X) → ((x : X) → p x ≡ (q x || r x))
    → ((x : X) → (q x && r x) ≡ false) → count_by p xs ≡ count_by q xs + count_by r xs
counted_either p q r [] e n = refl
counted_either p q r (x ∷ xs) e n =
    let rest = counted_either p q r xs e n in
    rw (
      sum_by-cons (λ z. cond (p z) 1 0) x xs,
      sum_by-cons (λ z. cond (q z) 1 0) x xs,
      sum_by-cons (λ z. cond (r z) 1 0) x xs,
    )
    (let first = one_of (p x) (q x) (r x) (e x) (n x) in omega arith)
  where
    one_of : (a b c : Bool) → a ≡ (b || c) → (b && c) ≡ false → cond {A = ℕ} a 1 0 ≡ cond b 1 0 + cond c 1 0
    one_of a true true e n = absurd (cc)
    one_of a true false e n = rw e refl
    one_of a false true e n = rw e refl
    one_of a false false e n = rw e refl

-- a list in which none stands twice sums to no more than one that has all of it
pub sum_within : {X : Type 0} (f : X → ℕ) (xs ys : List X) → AllPairs (λ a b. a ≢ b) xs
    → ((x : X) → Contains xs x → Contains ys x) → sum_by f xs ≤ sum_by f ys
sum_within f [] ys once has = omega arith
sum_within {X = X} f (x ∷ xs) ys once has =
    let m = has x (member_first x xs) in
    let moved = IsPermutation-remove ys m.0 x m.1 (sym m.2) in
    let rest =
    sum_within f xs (remove ys m.0) (λ i j d below within. once (suc i) (suc j) d (omega arith) (omega arith))
    (left (remove ys m.0) moved) in
    let whole = sum_by-IsPermutation f ys (x ∷ remove ys m.0) moved in
    rw (sum_by-cons f x xs) (let e = sum_by-cons f x (remove ys m.0) in omega arith)
  where
    left : (zs : List X) → IsPermutation ys (x ∷ zs) → (y : X) → Contains xs y → Contains zs y
    left zs moved y n =
        elim (member_cases x zs y (Contains-permutation ys (x ∷ zs) y moved (has y (member_later x xs y n)))) [
          | inl same ↦ absurd (once 0 (suc n.0) y (omega arith) (let h = n.1 in omega arith) (same ∙ sym n.2))
          | inr later ↦ later
        ]

-- the length is a sum
pub length_sum : {X : Type 0} (xs : List X) → length xs ≡ sum_by (λ x. 1) xs
length_sum [] = refl
length_sum (x ∷ xs) = rw (sum_by-cons (λ y. 1) x xs) (let e = length_sum xs in omega arith)

-- a list with an element has a length above 0
pub not_empty : (xs : List ℕ) → xs ≢ [] → length xs ≡ 0 → ⊥
not_empty [] some e = some refl
not_empty (x ∷ xs) some e = omega arith
