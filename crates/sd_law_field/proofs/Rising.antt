-- Lists of rising numbers.
use Rattle.std.proofs.Common.{◌≡◌, ℕ, zero, suc, ◌+◌, ◌<◌, ◌≤◌, Bool, true, false, List, [], ◌∷◌, ◌++◌, filter, length}
use Rattle.std.proofs.Common.{arith, subst, inl, inr, ◌⊎◌}
use Rattle.std.specs.Prelude.{All, get_or}
use Rattle.std.specs.List.{range_with_len}
use Rattle.std.specs.List.Sorted.{IsStrictlyIncreasing}
use Rattle.std.proofs.lemmas.Bool.{cases_Bool}
use Rattle.std.proofs.lemmas.List.Elements.{All-nil, All-cons, All-head, All-tail, All-weaker}
use Rattle.sd_law_losses.proofs.Losses.{all_second}

-- the numbers rise, from s on
abbrev pub Rises : ℕ → List ℕ → Type 0
Rises s [] = Unit {0}
Rises s (x ∷ xs) = (s ≤ x) × Rises (suc x) xs

-- from a smaller number on too
pub rises_lower : (r s : ℕ) (xs : List ℕ) → r ≤ s → Rises s xs → Rises r xs
rises_lower r s [] low h = tt
rises_lower r s (x ∷ xs) low h = let first = h.0 in (omega (arith, low, first), h.1)

-- strictly increasing numbers rise
from_first : (s x : ℕ) (xs : List ℕ) → s ≤ x → IsStrictlyIncreasing (x ∷ xs) → Rises s (x ∷ xs)
from_first s x [] low up = (low, tt)
from_first s x (y ∷ xs) low up =
    let next : x < y = up 0 (omega arith) in (
      low,
      from_first (suc x) y xs (omega (arith, next)) (λ k within.
          let e : suc k + 1 ≡ suc (k + 1) = omega arith in
          subst (λ n. get_or (y ∷ xs) k 0 < get_or (x ∷ y ∷ xs) n 0) e (up (suc k) (omega (arith, within)))),
    )

pub increasing_rises : (xs : List ℕ) → IsStrictlyIncreasing xs → Rises 0 xs
increasing_rises [] up = tt
increasing_rises (x ∷ xs) up = from_first 0 x xs (omega arith) up

-- and rising ones are strictly increasing
pub rises_increase : (s : ℕ) (xs : List ℕ) → Rises s xs → IsStrictlyIncreasing xs
rises_increase s [] h k within = absurd (omega (arith, within))
rises_increase s (x ∷ []) h k within = absurd (omega (arith, within))
rises_increase s (x ∷ y ∷ xs) h zero within = let next = h.1.0 in omega (arith, next)
rises_increase s (x ∷ y ∷ xs) h (suc k) within =
    let e : suc (k + 1) ≡ suc k + 1 = omega arith in
    subst (λ n. get_or (y ∷ xs) k 0 < get_or (x ∷ y ∷ xs) n 0) e
    (rises_increase (suc x) (y ∷ xs) h.1 k (omega (arith, within)))

-- none is below the number from which on they rise
pub rises_above : (s : ℕ) (xs : List ℕ) → Rises s xs → All (λ x. s ≤ x) xs
rises_above s [] h = All-nil (λ x. s ≤ x)
rises_above s (x ∷ xs) h =
    let first = h.0 in
    All-cons (λ y. s ≤ y) x xs first (rises_above s xs (rises_lower s (suc x) xs (omega (arith, first)) h.1))

-- if they rise in two lists together, they do in each, and those of the one are below those of the other
pub rises_first : (s : ℕ) (xs ys : List ℕ) → Rises s (xs ++ ys) → Rises s xs
rises_first s [] ys h = tt
rises_first s (x ∷ xs) ys h = (h.0, rises_first (suc x) xs ys h.1)

pub rises_second : (s : ℕ) (xs ys : List ℕ) → Rises s (xs ++ ys) → Rises s ys
rises_second s [] ys h = h
rises_second s (x ∷ xs) ys h =
    let first = h.0 in rises_lower s (suc x) ys (omega (arith, first)) (rises_second (suc x) xs ys h.1)

pub rises_apart : (s : ℕ) (xs ys : List ℕ) → Rises s (xs ++ ys) → All (λ x. All (λ y. x < y) ys) xs
rises_apart s [] ys h = All-nil (λ x. All (λ y. x < y) ys)
rises_apart s (x ∷ xs) ys h =
    All-cons (λ z. All (λ y. z < y) ys) x xs
    (All-weaker (λ y. suc x ≤ y) (λ y. x < y) (λ y low. omega (arith, low)) ys
    (all_second (λ y. suc x ≤ y) xs ys (rises_above (suc x) (xs ++ ys) h.1)))
    (rises_apart (suc x) xs ys h.1)

-- from a greater number on, if none is below it
from_all : (r s : ℕ) (xs : List ℕ) → All (λ x. r ≤ x) xs → Rises s xs → Rises r xs
from_all r s [] all h = tt
from_all r s (x ∷ xs) all h = (All-head (λ y. r ≤ y) x xs all, h.1)

-- and the other way round
pub rises_both : (s : ℕ) (xs ys : List ℕ) → Rises s xs → Rises s ys → All (λ x. All (λ y. x < y) ys) xs →
    Rises s (xs ++ ys)
rises_both s [] ys first last apart = last
rises_both s (x ∷ xs) ys first last apart = (
  first.0,
  rises_both (suc x) xs ys first.1
      (from_all (suc x) s ys (All-weaker (λ y. x < y) (λ y. suc x ≤ y) (λ y low. omega (arith, low)) ys
      (All-head (λ z. All (λ y. z < y) ys) x xs apart)) last)
      (All-tail (λ z. All (λ y. z < y) ys) x xs apart),
)

-- the numbers of a range that pass a test rise
pub range_rises : (p : ℕ → Bool) (s n : ℕ) → Rises s (filter p (range_with_len s n))
range_rises p s zero = tt
range_rises p s (suc n) = by_test (cases_Bool (p s)) (range_rises p (s + 1) n)
  where
    by_test : (p s ≡ true) ⊎ (p s ≡ false) → Rises (s + 1) (filter p (range_with_len (s + 1) n)) →
        Rises s (filter p (range_with_len s (suc n)))
    by_test (inl is) rest = rw is
        (omega arith, rises_lower (suc s) (s + 1) (filter p (range_with_len (s + 1) n)) (omega arith) rest)
    by_test (inr is) rest = rw is
        (rises_lower s (s + 1) (filter p (range_with_len (s + 1) n)) (omega arith) rest)

-- rising numbers below n are no more than n
pub rises_short : (s n : ℕ) (xs : List ℕ) → Rises s xs → All (λ x. x < n) xs → s ≤ n → s + length xs ≤ n
rises_short s n [] h all low = omega (arith, low)
rises_short s n (x ∷ xs) h all low =
    let first = h.0 in
    let here = All-head (λ y. y < n) x xs all in
    let rest = rises_short (suc x) n xs h.1 (All-tail (λ y. y < n) x xs all) (omega (arith, here)) in
    omega (arith, first, rest)
