-- The numbers on both sides of another, among those of a range that pass a test.
use Rattle.std.proofs.Common.{◌≡◌, refl, ℕ, zero, suc, ◌+◌, ◌<◌, ◌≤◌, ◌||◌, Bool, true, false, nat_le, nat_lt}
use Rattle.std.proofs.Common.{filter, Some, None, arith, ap, ◌∙◌, inl, inr, ◌⊎◌}
use Rattle.std.specs.List.{list_any, range_with_len}
use Rattle.std.proofs.lemmas.Bool.{cases_Bool, cases_eq, cases_lt, both_ways}
use Rattle.std.proofs.lemmas.Bool.Decides.{nat_tests}
use Rattle.sd_law_losses.specs.Kept.{greatest_at_most, least_above}

-- no number up to i passes the test
none_upto : (f : ℕ → Bool) (i s n : ℕ) → ((c : ℕ) → s ≤ c → c ≤ i → f c ≡ false) →
    list_any (λ b. nat_le b i) (filter f (range_with_len s n)) ≡ false
none_upto f i s zero none = refl
none_upto f i s (suc n) none = by_test (cases_Bool (f s))
    (none_upto f i (s + 1) n (λ c low high. none c (omega (arith, low)) high))
  where
    by_test : (f s ≡ true) ⊎ (f s ≡ false) →
        list_any (λ b. nat_le b i) (filter f (range_with_len (s + 1) n)) ≡ false →
        list_any (λ b. nat_le b i) (filter f (range_with_len s (suc n))) ≡ false
    by_test (inl is) rest = elim (cases_lt i s) [
      | inl above ↦ let not : nat_le s i ≡ false = grind (arith, nat_tests, above) in rw is (rw not rest)
      | inr within ↦ absurd (both_ways (f s) (none s (omega arith) within) is)
    ]
    by_test (inr is) rest = rw is rest

-- one does
some_upto : (f : ℕ → Bool) (i s n a : ℕ) → s ≤ a → a < s + n → a ≤ i → f a ≡ true →
    list_any (λ b. nat_le b i) (filter f (range_with_len s n)) ≡ true
some_upto f i s zero a low high within is = absurd (omega (arith, low, high))
some_upto f i s (suc n) a low high within is = elim (cases_eq s a) [
  | inl here ↦
      let first : f s ≡ true = ap f here ∙ is in
      let test : nat_le s i ≡ true = grind (arith, nat_tests, here, within) in
      rw first (rw test refl)
  | inr later ↦ by_test (cases_Bool (f s))
      (some_upto f i (s + 1) n a (omega (arith, low, later)) (omega (arith, high)) within is)
]
  where
    by_test : (f s ≡ true) ⊎ (f s ≡ false) →
        list_any (λ b. nat_le b i) (filter f (range_with_len (s + 1) n)) ≡ true →
        list_any (λ b. nat_le b i) (filter f (range_with_len s (suc n))) ≡ true
    by_test (inl is) rest = rw is (or_true (nat_le s i) rest)
      where
        or_true : (b : Bool) → list_any (λ b. nat_le b i) (filter f (range_with_len (s + 1) n)) ≡ true →
            (b || list_any (λ b. nat_le b i) (filter f (range_with_len (s + 1) n))) ≡ true
        or_true true rest = refl
        or_true false rest = rest
    by_test (inr is) rest = rw is rest

-- where none up to i passes, there is no greatest
pub greatest_none : (f : ℕ → Bool) (i s n : ℕ) → ((c : ℕ) → s ≤ c → c ≤ i → f c ≡ false) →
    greatest_at_most i (filter f (range_with_len s n)) ≡ None
unfolding greatest_at_most
greatest_none f i s zero none = refl
greatest_none f i s (suc n) none = by_test (cases_Bool (f s))
    (greatest_none f i (s + 1) n (λ c low high. none c (omega (arith, low)) high))
  where
    by_test : (f s ≡ true) ⊎ (f s ≡ false) →
        greatest_at_most i (filter f (range_with_len (s + 1) n)) ≡ None →
        greatest_at_most i (filter f (range_with_len s (suc n))) ≡ None
    by_test (inl is) rest = elim (cases_lt i s) [
      | inl above ↦ let test : nat_lt i s ≡ true = grind (arith, nat_tests, above) in rw is (rw test refl)
      | inr within ↦ absurd (both_ways (f s) (none s (omega arith) within) is)
    ]
    by_test (inr is) rest = rw is rest

-- the greatest one up to i
pub greatest_is : (f : ℕ → Bool) (i s n a : ℕ) → s ≤ a → a < s + n → a ≤ i → f a ≡ true →
    ((c : ℕ) → a < c → c ≤ i → f c ≡ false) → greatest_at_most i (filter f (range_with_len s n)) ≡ Some a
unfolding greatest_at_most
greatest_is f i s zero a low high within is none = absurd (omega (arith, low, high))
greatest_is f i s (suc n) a low high within is none = elim (cases_eq s a) [
  | inl here ↦
      let first : f s ≡ true = ap f here ∙ is in
      let test : nat_lt i s ≡ false = grind (arith, nat_tests, here, within) in
      let last = none_upto f i (s + 1) n (λ c from to. none c (omega (arith, here, from)) to) in
      rw first (rw test (rw last (ap Some here)))
  | inr later ↦ by_test (cases_Bool (f s)) (omega (arith, low, later))
      (greatest_is f i (s + 1) n a (omega (arith, low, later)) (omega (arith, high)) within is none)
]
  where
    by_test : (f s ≡ true) ⊎ (f s ≡ false) → s < a →
        greatest_at_most i (filter f (range_with_len (s + 1) n)) ≡ Some a →
        greatest_at_most i (filter f (range_with_len s (suc n))) ≡ Some a
    by_test (inl first) before rest =
        let test : nat_lt i s ≡ false = grind (arith, nat_tests, before, within) in
        let more = some_upto f i (s + 1) n a (omega (arith, before)) (omega (arith, high)) within is in
        rw first (rw test (rw more rest))
    by_test (inr first) before rest = rw first rest

-- where none above i passes, there is no least
pub least_none : (f : ℕ → Bool) (i s n : ℕ) → ((c : ℕ) → i < c → c < s + n → f c ≡ false) →
    least_above i (filter f (range_with_len s n)) ≡ None
unfolding least_above
least_none f i s zero none = refl
least_none f i s (suc n) none = by_test (cases_Bool (f s))
    (least_none f i (s + 1) n (λ c low high. none c low (omega (arith, high))))
  where
    by_test : (f s ≡ true) ⊎ (f s ≡ false) → least_above i (filter f (range_with_len (s + 1) n)) ≡ None →
        least_above i (filter f (range_with_len s (suc n))) ≡ None
    by_test (inl is) rest = elim (cases_lt i s) [
      | inl above ↦ absurd (both_ways (f s) (none s above (omega arith)) is)
      | inr within ↦ let test : nat_lt i s ≡ false = grind (arith, nat_tests, within) in rw is (rw test rest)
    ]
    by_test (inr is) rest = rw is rest

-- the least one above i
pub least_is : (f : ℕ → Bool) (i s n b : ℕ) → s ≤ b → b < s + n → i < b → f b ≡ true →
    ((c : ℕ) → i < c → c < b → f c ≡ false) → least_above i (filter f (range_with_len s n)) ≡ Some b
unfolding least_above
least_is f i s zero b low high above is none = absurd (omega (arith, low, high))
least_is f i s (suc n) b low high above is none = elim (cases_eq s b) [
  | inl here ↦
      let first : f s ≡ true = ap f here ∙ is in
      let test : nat_lt i s ≡ true = grind (arith, nat_tests, here, above) in
      rw first (rw test (ap Some here))
  | inr later ↦ by_test (cases_Bool (f s)) (omega (arith, low, later))
      (least_is f i (s + 1) n b (omega (arith, low, later)) (omega (arith, high)) above is none)
]
  where
    by_test : (f s ≡ true) ⊎ (f s ≡ false) → s < b →
        least_above i (filter f (range_with_len (s + 1) n)) ≡ Some b →
        least_above i (filter f (range_with_len s (suc n))) ≡ Some b
    by_test (inl first) before rest = elim (cases_lt i s) [
      | inl from ↦ absurd (both_ways (f s) (none s from before) first)
      | inr within ↦ let test : nat_lt i s ≡ false = grind (arith, nat_tests, within) in rw first (rw test rest)
    ]
    by_test (inr first) before rest = rw first rest
