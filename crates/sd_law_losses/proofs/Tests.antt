-- Tests over lists and ranges.
use Rattle.std.proofs.Common.{◌≡◌, refl, ℕ, zero, suc, ◌+◌, ◌<◌, ◌≤◌, Bool, true, false, ◌&&◌}
use Rattle.std.proofs.Common.{List, [], ◌∷◌, arith, ap, ◌∙◌, inl, inr}
use Rattle.std.specs.List.{list_any, list_all, range_with_len}
use Rattle.std.proofs.lemmas.Bool.{cases_eq, or_parts}

pub any_agree : {A : Type 0} (p q : A → Bool) (xs : List A) → ((x : A) → p x ≡ q x) → list_any p xs ≡ list_any q xs
any_agree p q [] same = refl
any_agree p q (x ∷ xs) same = rw (same x) (rw (any_agree p q xs same) refl)

pub all_agree : {A : Type 0} (p q : A → Bool) (xs : List A) → ((x : A) → p x ≡ q x) → list_all p xs ≡ list_all q xs
all_agree p q [] same = refl
all_agree p q (x ∷ xs) same = rw (same x) (rw (all_agree p q xs same) refl)

-- where none passes one test, none passes a narrower one
pub none_weaker : {A : Type 0} (p q : A → Bool) (xs : List A) → ((x : A) → q x ≡ false → p x ≡ false) →
    list_any q xs ≡ false → list_any p xs ≡ false
none_weaker p q [] narrow none = refl
none_weaker p q (x ∷ xs) narrow none =
    let parts = or_parts (q x) (list_any q xs) none in
    rw (narrow x parts.0) (none_weaker p q xs narrow parts.1)

-- all of a range pass
pub all_range : (p : ℕ → Bool) (s n : ℕ) → ((x : ℕ) → s ≤ x → x < s + n → p x ≡ true) →
    list_all p (range_with_len s n) ≡ true
all_range p s zero all = refl
all_range p s (suc n) all = rw (all s (omega arith) (omega arith))
    (all_range p (s + 1) n (λ x low high. all x (omega (arith, low)) (omega (arith, high))))

-- one doesn't
pub not_all_range : (p : ℕ → Bool) (s n x : ℕ) → s ≤ x → x < s + n → p x ≡ false →
    list_all p (range_with_len s n) ≡ false
not_all_range p s zero x low high fails = absurd (omega (arith, low, high))
not_all_range p s (suc n) x low high fails = elim (cases_eq s x) [
  | inl here ↦ rw (ap p here ∙ fails) refl
  | inr later ↦ by_test (p s) (not_all_range p (s + 1) n x (omega (arith, low, later)) (omega (arith, high)) fails)
]
  where
    by_test : (b : Bool) → list_all p (range_with_len (s + 1) n) ≡ false →
        (b && list_all p (range_with_len (s + 1) n)) ≡ false
    by_test true rest = rest
    by_test false rest = refl
