-- The order of names, and ascending lists of them.
use Rattle.std.proofs.Common.{◌≡◌, ◌≢◌, ℕ, suc, inl, inr, ◌⊎◌, Bool, true, false, List, [], ◌∷◌, arith}
use Rattle.std.proofs.Common.{refl, sym, subst, ap, ◌∙◌, cond}
use Rattle.std.specs.Prelude.{Contains, All, AllPairs}
use Rattle.std.specs.Ordering.{nat_cmp, is_lt, on, then_cmp, ordering_reverse}
use Rattle.std.specs.Cmp.{IsTotalOrder}
use Rattle.std.specs.FinMap.{nat_cmp-IsAntisymmetric}
use Rattle.std.specs.List.Sorted.{IsPermutation}
use Rattle.std.specs.declared.cmp.Ordering.{Ordering}
use Rattle.std.specs.declared.cmp.Ordering.TheVariants.{Less, Equal, Greater}
use Rattle.std.proofs.lemmas.Cmp.{nat_cmp_total, then_total, on_total}
use Rattle.std.proofs.lemmas.List.Sorted.{All-permutation, Contains-permutation, IsPermutation-sym}
use Rattle.std.proofs.lemmas.List.Sorted.{IsPermutation-trans, IsPermutation-refl, IsPermutation-cons}
use Rattle.std.proofs.lemmas.List.Sorted.{IsPermutation-insert}
use Rattle.std.proofs.lemmas.List.Elements.{All-nil, All-cons, All-weaker}
use Rattle.std.proofs.lemmas.List.Kept.{AllPairs-cons}
use Rattle.sd_tree_keys.specs.SetNames.{set_cmp, AreAscending}
use Rattle.sd_tree_keys.specs.declared.set.SetName.{SetName}
use Rattle.sd_tree_keys.specs.declared.set.SetName.TheVariants.{Whole, Diff}
use Rattle.sd_cover_tracing.proofs.Lists.{member_first, member_later}
use Rattle.sd_cover_tracing.proofs.Names.{rest_ascending, same_ascending}
use Rattle.sd_lsd.specs.Cover.{with_name, in_order}

-- ---- the order

-- the numbers by which names stand: the whole set first, then by the upper node, then by the lower
rank : SetName → ℕ
rank Whole = 0
rank (Diff i j) = 1

upper : SetName → ℕ
upper Whole = 0
upper (Diff i j) = i

lower : SetName → ℕ
lower Whole = 0
lower (Diff i j) = j

abbrev by_numbers : SetName → SetName → Ordering
by_numbers = then_cmp (on rank nat_cmp) (then_cmp (on upper nat_cmp) (on lower nat_cmp))

numbers_total : IsTotalOrder by_numbers
numbers_total =
    then_total (on_total rank nat_cmp_total) (then_total (on_total upper nat_cmp_total) (on_total lower nat_cmp_total))

-- the order of names is theirs
numbers_order : (a b : SetName) → by_numbers a b ≡ set_cmp a b
unfolding rank upper lower
numbers_order Whole Whole = refl
numbers_order Whole (Diff k l) = refl
numbers_order (Diff i j) Whole = refl
numbers_order (Diff i j) (Diff k l) = refl

-- so it is total
pub names_total : IsTotalOrder set_cmp
names_total = subst IsTotalOrder (λ i a b. numbers_order a b i) numbers_total

-- names that tie are equal
pub tied_same : (a b : SetName) → set_cmp a b ≡ Equal → a ≡ b
tied_same Whole Whole e = refl
tied_same Whole (Diff k l) e = absurd cc
tied_same (Diff i j) Whole e = absurd cc
tied_same (Diff i j) (Diff k l) e = same_pair (nat_cmp i k) refl e
  where
    same_pair : (o : Ordering) → nat_cmp i k ≡ o → set_cmp (Diff i j) (Diff k l) ≡ Equal → Diff i j ≡ Diff k l
    same_pair Less p e = absurd (let before = rw p at e in cc)
    same_pair Equal p e =
        let first = nat_cmp-IsAntisymmetric i k p in
        let second = nat_cmp-IsAntisymmetric j l (rw p at e) in
        rw (first, second) refl
    same_pair Greater p e = absurd (let after = rw p at e in cc)

-- a name that doesn't stand before another one stands after it or is it
after_or_same : (a b : SetName) → is_lt (set_cmp b a) ≡ false → (set_cmp a b ≡ Less) ⊎ (a ≡ b)
after_or_same a b not_before = by_case (set_cmp a b) refl
  where
    by_case : (o : Ordering) → set_cmp a b ≡ o → (set_cmp a b ≡ Less) ⊎ (a ≡ b)
    by_case Less e = inl e
    by_case Equal e = inr (tied_same a b e)
    by_case Greater e =
        let back : set_cmp b a ≡ Less = names_total.antisymm b a ∙ ap ordering_reverse e in
        absurd (let before = rw back at not_before in cc)

-- ---- ascending lists

-- so ascending orders of one list are
pub same_order : (names a b : List SetName) → AreAscending a → AreAscending b → IsPermutation names a
    → IsPermutation names b → a ≡ b
same_order names a b up_a up_b of_a of_b =
    same_ascending a b up_a up_b
    (λ name m. Contains-permutation names b name of_b
    (Contains-permutation a names name (IsPermutation-sym names a of_a) m))
    (λ name m. Contains-permutation names a name of_a
    (Contains-permutation b names name (IsPermutation-sym names b of_b) m))

-- ---- a list in order

-- a name is put among others
with_moved : (name : SetName) (xs : List SetName) → IsPermutation (name ∷ xs) (with_name name xs)
with_moved name [] = IsPermutation-refl (name ∷ [])
with_moved name (x ∷ xs) = by_test (is_lt (set_cmp name x)) (with_moved name xs)
  where
    by_test : (b : Bool) → IsPermutation (name ∷ xs) (with_name name xs)
        → IsPermutation (name ∷ x ∷ xs) (cond b (name ∷ x ∷ xs) (x ∷ with_name name xs))
    by_test true rest = IsPermutation-refl (name ∷ x ∷ xs)
    by_test false rest =
        IsPermutation-trans (name ∷ x ∷ xs) (x ∷ name ∷ xs) (x ∷ with_name name xs)
        (IsPermutation-insert (x ∷ xs) 1 name) (IsPermutation-cons x (name ∷ xs) (with_name name xs) rest)

-- what ascends still does with a name in its place that is new
with_ascends : (name : SetName) (xs : List SetName) → AreAscending xs → ((x : SetName) → Contains xs x → name ≢ x)
    → AreAscending (with_name name xs)
with_ascends name [] up new = AllPairs-cons (λ a b. set_cmp a b ≡ Less) name [] (All-nil _) up
with_ascends name (x ∷ xs) up new =
    by_test (is_lt (set_cmp name x)) refl
    (with_ascends name xs (rest_ascending x xs up) (λ y m. new y (member_later x xs y m)))
  where
    first : All (λ y. set_cmp x y ≡ Less) xs
    first = λ i d within. up 0 (suc i) d (omega arith) (omega arith)

    less : is_lt (set_cmp name x) ≡ true → set_cmp name x ≡ Less
    less e = elim (set_cmp name x) as (λ o. is_lt o ≡ true → o ≡ Less) [
      | Less ↦ λ p. refl
      | Equal ↦ λ p. absurd cc
      | Greater ↦ λ p. absurd cc
    ] e

    by_test : (b : Bool) → is_lt (set_cmp name x) ≡ b → AreAscending (with_name name xs)
        → AreAscending (cond b (name ∷ x ∷ xs) (x ∷ with_name name xs))
    by_test true e rest =
        let before = less e in
        AllPairs-cons (λ a b. set_cmp a b ≡ Less) name (x ∷ xs)
        (All-cons (λ y. set_cmp name y ≡ Less) x xs before
        (All-weaker (λ y. set_cmp x y ≡ Less) (λ y. set_cmp name y ≡ Less)
        (λ y after. names_total.trans name x y before after) xs first)) up
    by_test false e rest = elim (after_or_same x name e) [
      | inl after ↦
          AllPairs-cons (λ a b. set_cmp a b ≡ Less) x (with_name name xs)
          (All-permutation (λ y. set_cmp x y ≡ Less) (name ∷ xs) (with_name name xs) (with_moved name xs)
          (All-cons (λ y. set_cmp x y ≡ Less) name xs after first)) rest
      | inr same ↦ absurd (new x (member_first x xs) (sym same))
    ]

-- a list in order has the same names
pub in_order_moved : (names : List SetName) → IsPermutation names (in_order names)
unfolding in_order
in_order_moved [] = IsPermutation-refl []
in_order_moved (name ∷ names) =
    IsPermutation-trans (name ∷ names) (name ∷ in_order names) (with_name name (in_order names))
    (IsPermutation-cons name names (in_order names) (in_order_moved names)) (with_moved name (in_order names))

-- and ascends where none stands twice
pub in_order_ascends : (names : List SetName) → AllPairs (λ a b. a ≢ b) names → AreAscending (in_order names)
unfolding in_order
in_order_ascends [] once = λ i j d below within. absurd (omega arith)
in_order_ascends (name ∷ names) once =
    with_ascends name (in_order names)
    (in_order_ascends names (λ i j d below within. once (suc i) (suc j) d (omega arith) (omega arith)))
    (λ x m same. apart x (Contains-permutation (in_order names) names x
    (IsPermutation-sym names (in_order names) (in_order_moved names)) m) same)
  where
    apart : (x : SetName) → Contains names x → name ≢ x
    apart x (k, within, is) same = once 0 (suc k) x (omega arith) (omega arith) (same ∙ sym is)
