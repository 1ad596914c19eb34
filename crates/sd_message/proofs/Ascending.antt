-- Lists in which each stands after all before it, by their neighbours, and by a test of each two.
use Rattle.std.proofs.Common.{◌≡◌, inl, inr, ℕ, ◌+◌, ◌-◌, ◌<◌, ◌≤◌, List, [], ◌∷◌, length, take, get_or}
use Rattle.std.proofs.Common.{get_or-take, length-take-le, arith, refl}
use Rattle.std.specs.Prelude.{Bool, ◌&&◌, All, AllPairs}
use Rattle.std.specs.Bool.{Decides}
use Rattle.std.specs.List.{list_all}
use Rattle.std.proofs.lemmas.Bool.{cases_lt}
use Rattle.std.proofs.lemmas.Bool.Decides.{Decides-and, Decides-by_and, Decides-like}
use Rattle.std.proofs.lemmas.List.{get_or_default, length-take, take_all}
use Rattle.std.proofs.lemmas.List.Kept.{AllPairs-cons}
use Rattle.sd_base.proofs.Lists.{pair_parts}
use Rattle.sd_message.specs.Items.{all_pairs}

-- one that stands after another stands after all before that
abbrev pub IsChained : {A : Type 0} → (A → A → Type 0) → Type 0
IsChained {A = A} R = (a b c : A) → R a b → R b c → R a c

-- one alone ascends
pub first_ascends : {A : Type 0} (R : A → A → Type 0) (xs : List A) (k : ℕ) → k ≤ 1 → AllPairs R (take k xs)
first_ascends R xs k h i j d below within = absurd (omega (arith, length-take k xs))

-- with one more that stands after the last
pub next_ascends : {A : Type 0} (R : A → A → Type 0) (xs : List A) (k : ℕ) (d e : A) → IsChained R → 1 ≤ k →
    k < length xs →
    AllPairs R (take k xs) → R (get_or xs (k - 1) d) (get_or xs k e) → AllPairs R (take (k + 1) xs)
next_ascends R xs k d e chained some within up less i j f below j_within =
    let long : length (take (k + 1) xs) ≡ k + 1 = length-take-le (k + 1) xs (omega arith) in
    let short : length (take k xs) ≡ k = length-take-le k xs (omega arith) in
    let at : (n : ℕ) → n < k + 1 → get_or (take (k + 1) xs) n f ≡ get_or xs n f = λ n h. get_or-take (k + 1) xs n f h in
    let before : (n : ℕ) → n < k → get_or (take k xs) n f ≡ get_or xs n f = λ n h. get_or-take k xs n f h in
    let all : (m n : ℕ) → m < n → n < k → R (get_or xs m f) (get_or xs n f) =
    λ m n h l. rw (before m (omega arith), before n l) at (up m n f h (omega arith)) in
    let last : R (get_or xs (k - 1) f) (get_or xs k f) =
    rw (get_or_default xs (k - 1) d f (omega arith), get_or_default xs k e f within) at less in
    rw (at i (omega arith), at j (omega arith)) (elim (cases_lt j k) [
      | inl h ↦ all i j below h
      | inr h ↦
          let e : j ≡ k = omega arith in
          rw e (elim (cases_lt i (k - 1)) [
            | inl g ↦ chained (get_or xs i f) (get_or xs (k - 1) f) (get_or xs k f) (all i (k - 1) g (omega arith)) last
            | inr g ↦ let f : i ≡ k - 1 = omega arith in rw f last
          ])
    ])

-- they don't ascend where one doesn't stand after the one before
pub not_after : {A : Type 0} (R : A → A → Type 0) (xs : List A) (k : ℕ) (d e : A) → 1 ≤ k → k < length xs →
    ¬ R (get_or xs (k - 1) d) (get_or xs k e) → ¬ AllPairs R xs
not_after R xs k d e some within unless up =
    unless (rw (get_or_default xs k d e within) at (up (k - 1) k d (omega arith) within))

-- all of them
pub all_ascend : {A : Type 0} (R : A → A → Type 0) (xs : List A) (k : ℕ) → length xs ≤ k → AllPairs R (take k xs) →
    AllPairs R xs
all_ascend R xs k past up = rw (take_all k xs past) at up

-- the test of each two tells whether they do
pub tells_pairs : {A : Type 0} (stands : A → A → Bool) (R : A → A → Type 0) →
    ((a b : A) → Decides (stands a b) (R a b)) →
    (xs : List A) → Decides (all_pairs stands xs) (AllPairs R xs)
unfolding all_pairs
tells_pairs stands R each [] = (λ yes i j d below within. absurd (omega arith), λ up. refl)
tells_pairs {A = A} stands R each (x ∷ xs) =
    let first : Decides (list_all (stands x) xs) (All (R x) xs) =
    Decides-by_and (stands x) (R x) (list_all (stands x)) (each x) refl (λ _ _. refl) xs in
    let rest = tells_pairs stands R each xs in
    Decides-like (list_all (stands x) xs && all_pairs stands xs) (λ both. AllPairs-cons R x xs both.0 both.1)
    (pair_parts R x xs) (Decides-and (list_all (stands x) xs) (all_pairs stands xs) first rest)
