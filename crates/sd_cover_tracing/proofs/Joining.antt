-- The list of leaves that are revoked or found, with one more.
use Rattle.std.proofs.Common.{◌≡◌, ◌≢◌, ℕ, nat_eq, List, [], ◌∷◌, ◌++◌, arith, sym, subst, inl, inr}
use Rattle.std.proofs.Common.{Decides, eq-eqb, eqb-true}
use Rattle.std.specs.Prelude.{◌⊎◌, ◌↔◌, Contains, AllPairs}
use Rattle.std.specs.Ordering.{nat_cmp}
use Rattle.std.specs.List.Sorted.{IsSorted, IsPermutation, IsStrictlyIncreasing}
use Rattle.std.proofs.lemmas.Bool.Decides.{nat_tests}
use Rattle.std.proofs.lemmas.List.Elements.{Contains-append_left, Contains-push, Contains-push_cases}
use Rattle.std.proofs.lemmas.List.Kept.{AllPairs-from_increasing}
use Rattle.std.proofs.lemmas.List.Sorted.{Contains-permutation, IsPermutation-sym, IsNonDecreasingBy-from_sort}
use Rattle.std.proofs.lemmas.Map.Keys.{IsDistinct-IsPermutation, IsStrictlyIncreasing-from_distinct}
use Rattle.std.proofs.lemmas.Map.Made.{IsDistinct-from_AllPairs}
use Rattle.sd_cover_tracing.proofs.Lists.{once_append, member_cases, no_member}

number_tells : (x y : ℕ) → Decides (nat_eq x y) (x ≡ y)
number_tells x y = (λ e. eqb-true x y e, λ e. eq-eqb x y e)

number_flips : (x y : ℕ) → nat_eq x y ≡ nat_eq y x
number_flips x y = grind (arith, nat_tests)

-- a leaf that isn't among ascending ones, and they, are all different
all_apart : (u : ℕ) (xs : List ℕ) → IsStrictlyIncreasing xs → ¬ Contains xs u → AllPairs (λ a b. a ≢ b) (xs ++ u ∷ [])
all_apart u xs up fresh =
    once_append xs (u ∷ []) (λ i j d below within same. let less = AllPairs-from_increasing xs up i j d below
    within in omega (arith, less, same))
    (λ i j d below within. absurd (omega (arith, below, within)))
    (λ y m n. elim (member_cases u [] y n) [
      | inl same ↦ fresh (subst (Contains xs) (sym same) m)
      | inr none ↦ no_member y none
    ])

-- sorted, they ascend
pub joined_ascending : (u : ℕ) (xs ys : List ℕ) → IsStrictlyIncreasing xs → ¬ Contains xs u →
    IsPermutation (xs ++ u ∷ []) ys → IsSorted nat_cmp ys → IsStrictlyIncreasing ys
joined_ascending u xs ys up fresh moved sorted =
    IsStrictlyIncreasing-from_distinct ys (IsNonDecreasingBy-from_sort (λ (x : ℕ). x) ys sorted)
    (IsDistinct-IsPermutation nat_eq number_flips (xs ++ u ∷ []) ys moved
    (IsDistinct-from_AllPairs number_tells (xs ++ u ∷ []) (all_apart u xs up fresh)))

-- they are the leaf and those before
pub joined_members : (u : ℕ) (xs ys : List ℕ) → IsPermutation (xs ++ u ∷ []) ys → (w : ℕ) →
    Contains ys w ↔ ((w ≡ u) ⊎ Contains xs w)
joined_members u xs ys moved w = (
  λ m. elim
      (Contains-push_cases xs u w
      (Contains-permutation ys (xs ++ u ∷ []) w (IsPermutation-sym (xs ++ u ∷ []) ys moved) m)) [
        | inl before ↦ inr before
        | inr same ↦ inl (sym same)
      ],
  λ m. elim m [
    | inl same ↦ subst (Contains ys) (sym same) (Contains-permutation (xs ++ u ∷ []) ys u moved (Contains-push xs u))
    | inr before ↦ Contains-permutation (xs ++ u ∷ []) ys w moved (Contains-append_left xs (u ∷ []) w before)
  ],
)
