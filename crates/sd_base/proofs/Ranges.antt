-- Numbers in a row.
use Rattle.std.proofs.Common.{◌≡◌, ◌⊎◌, ℕ, zero, suc, ◌+◌, ◌<◌, ◌≤◌, Bool, true, false, List, [], ◌∷◌, ◌++◌, filter}
use Rattle.std.proofs.Common.{None, arith, refl, sym, ap, ◌∙◌, inl, inr}
use Rattle.std.specs.Prelude.{find, Contains}
use Rattle.std.specs.List.{range_with_len}
use Rattle.std.proofs.lemmas.Bool.{cases_lt, cases_eq, cases_Bool}
use Rattle.std.proofs.lemmas.List.Elements.{Contains-append_right}
use Rattle.std.proofs.lemmas.List.FromFn.{get_or-range_with_len, length-range_with_len}

-- a range in two parts
pub range_parts : (s n m : ℕ) → range_with_len s (n + m) ≡ range_with_len s n ++ range_with_len (s + n) m
range_parts s zero m =
    let a : 0 + m ≡ m = omega arith in
    let b : s + 0 ≡ s = omega arith in
    rw a (rw b refl)
range_parts s (suc n) m =
    let a : suc n + m ≡ suc (n + m) = omega arith in
    let b : s + suc n ≡ (s + 1) + n = omega arith in
    rw a (rw b (ap (λ (xs : List ℕ). s ∷ xs) (range_parts (s + 1) n m)))

-- a range with one number more
pub range_more : (s n : ℕ) → range_with_len s (n + 1) ≡ range_with_len s n ++ (s + n) ∷ []
range_more s n = range_parts s n 1

-- the numbers that a range has
pub range_has : (a n v : ℕ) → a ≤ v → v < a + n → Contains (range_with_len a n) v
range_has a zero v low high = absurd (omega (arith, low, high))
range_has a (suc n) v low high = elim (cases_lt a v) [
  | inl lt ↦ Contains-append_right (a ∷ []) (range_with_len (a + 1) n) v
      (range_has (a + 1) n v (omega (arith, lt)) (omega (arith, high)))
  | inr le ↦
      let same : a ≡ v = omega (arith, low, le) in
      (0, omega arith, same)
]

-- a range has no others
pub in_range : (a n v : ℕ) → Contains (range_with_len a n) v → (a ≤ v) × (v < a + n)
in_range a n v (k, within, is) =
    let low : k < n = omega (arith, within, length-range_with_len a n) in
    let at = get_or-range_with_len a n k v low in
    (omega (arith, at, is), omega (arith, at, is, low))

-- tests that agree on a range pass the same numbers of it
pub filter_range : (p q : ℕ → Bool) (s n : ℕ) → ((x : ℕ) → s ≤ x → x < s + n → p x ≡ q x) →
    filter p (range_with_len s n) ≡ filter q (range_with_len s n)
filter_range p q s zero same = refl
filter_range p q s (suc n) same =
    let here : p s ≡ q s = same s (omega arith) (omega arith) in
    let rest = filter_range p q (s + 1) n (λ x low high. same x (omega (arith, low)) (omega (arith, high))) in
    rw here (rw rest refl)

-- if none of a range is found, none of it passes
pub none_found : (f : ℕ → Bool) (s n x : ℕ) → find f (range_with_len s n) ≡ None → s ≤ x → x < s + n → f x ≡ false
none_found f s zero x none low high = absurd (omega (arith, low, high))
none_found f s (suc n) x none low high = by_test (cases_Bool (f s)) (cases_eq s x)
    (λ rest low. none_found f (s + 1) n x rest low (omega (arith, high)))
  where
    by_test : (f s ≡ true) ⊎ (f s ≡ false) → (s ≡ x) ⊎ (s ≡ x → ⊥) →
        (find f (range_with_len (s + 1) n) ≡ None → s + 1 ≤ x → f x ≡ false) → f x ≡ false
    by_test (inl is) other rest = absurd (cc (rw is at none))
    by_test (inr is) (inl here) rest = ap f (sym here) ∙ is
    by_test (inr is) (inr later) rest = rest (rw is at none) (omega (arith, low, later))
