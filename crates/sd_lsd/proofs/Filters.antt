-- What a test keeps of a list.
use Rattle.std.proofs.Common.{ℕ, zero, suc, ◌+◌, ◌<◌, ◌≤◌, ◌≡◌, Bool, true, false, List, [], ◌∷◌, ◌++◌, map, take}
use Rattle.std.proofs.Common.{refl, subst, ap, sym, ◌∙◌, inl, inr, cond, arith, length, get_or}
use Rattle.std.specs.Prelude.{Contains, filter}
use Rattle.std.specs.List.{range_with_len, flat_map}
use Rattle.std.proofs.lemmas.List.{append-nil, take_more}
use Rattle.std.proofs.lemmas.List.Concat.{flat_map-cons}
use Rattle.std.proofs.lemmas.List.Elements.{filter-append}
use Rattle.sd_cover_tracing.proofs.Lists.{member_cases, member_first, member_later, no_member}

-- what is kept is of the list and passes
from_by : {X : Type 0} (test : X → Bool) (y : X) (xs kept : List X) (x : X)
    → ((z : X) → Contains kept z → Contains xs z × (test z ≡ true)) → (b : Bool) → test y ≡ b
    → Contains (cond b (y ∷ kept) kept) x → Contains (y ∷ xs) x × (test x ≡ true)
from_by test y xs kept x rest true e m = elim (member_cases y kept x m) [
  | inl same ↦ subst (λ (z : _). Contains (y ∷ xs) z × (test z ≡ true)) same (member_first y xs, e)
  | inr later ↦ let r = rest x later in (member_later y xs x r.0, r.1)
]
from_by test y xs kept x rest false e m = let r = rest x m in (member_later y xs x r.0, r.1)

pub from_filter : {X : Type 0} (test : X → Bool) (xs : List X) (x : X) → Contains (filter test xs) x
    → Contains xs x × (test x ≡ true)
from_filter test [] x m = absurd (no_member x m)
from_filter test (y ∷ xs) x m =
    from_by test y xs (filter test xs) x (λ z n. from_filter test xs z n) (test y) refl m

-- what is of the list and passes is kept
to_by : {X : Type 0} (y : X) (kept : List X) (x : X) (b : Bool) → Contains kept x → Contains (cond b (y ∷ kept) kept) x
to_by y kept x true m = member_later y kept x m
to_by y kept x false m = m

pub to_filter : {X : Type 0} (test : X → Bool) (xs : List X) (x : X) → Contains xs x → test x ≡ true
    → Contains (filter test xs) x
to_filter test [] x m e = absurd (no_member x m)
to_filter test (y ∷ xs) x m e = elim (member_cases y xs x m) [
  | inl same ↦ rw (ap test same ∙ e) (subst (λ (z : _). Contains (y ∷ filter test xs) z) same
      (member_first y (filter test xs)))
  | inr later ↦ to_by y (filter test xs) x (test y) (to_filter test xs x later e)
]

-- where all pass, all are kept
pub all_kept : {X : Type 0} (test : X → Bool) (xs : List X) → ((x : X) → Contains xs x → test x ≡ true)
    → filter test xs ≡ xs
all_kept test [] all = refl
all_kept test (x ∷ xs) all =
    rw (all x (member_first x xs)) (ap (λ (kept : List _). x ∷ kept)
    (all_kept test xs (λ y m. all y (member_later x xs y m))))

-- of the values at numbers in a row those at the first m, where just these pass
pub first_kept : {X : Type 0} (test : X → Bool) (f : ℕ → X) (s n m : ℕ) → m ≤ n
    → ((b : ℕ) → s ≤ b → b < s + m → test (f b) ≡ true) → ((b : ℕ) → s + m ≤ b → b < s + n → test (f b) ≡ false)
    → filter test (map f (range_with_len s n)) ≡ take m (map f (range_with_len s n))
first_kept test f s zero zero le passing not_later = refl
first_kept test f s zero (suc m) le passing not_later = absurd (omega arith)
first_kept test f s (suc n) zero le passing not_later =
    rw (not_later s (omega arith) (omega arith))
    (first_kept test f (s + 1) n zero (omega arith) (λ b low high. absurd (omega arith))
    (λ b low high. not_later b (omega arith) (omega arith)))
first_kept test f s (suc n) (suc m) le passing not_later =
    rw (passing s (omega arith) (omega arith)) (ap (λ (kept : List _). f s ∷ kept)
    (first_kept test f (s + 1) n m (omega arith) (λ b low high. passing b (omega arith) (omega arith))
    (λ b low high. not_later b (omega arith) (omega arith))))

-- what is kept of some lists joined is what is kept of each, joined
pub lists_kept : {X : Type 0} (test : X → Bool) (f g : ℕ → List X) (s n : ℕ)
    → ((a : ℕ) → s ≤ a → a < s + n → filter test (f a) ≡ g a)
    → filter test (flat_map f (range_with_len s n)) ≡ flat_map g (range_with_len s n)
lists_kept test f g s zero each = refl
lists_kept test f g s (suc n) each =
    rw (flat_map-cons f s (range_with_len (s + 1) n), flat_map-cons g s (range_with_len (s + 1) n))
    (filter-append test (f s) (flat_map f (range_with_len (s + 1) n))
    ∙ rw (each s (omega arith) (omega arith)) (ap (λ (rest : List _). g s ++ rest)
    (lists_kept test f g (s + 1) n (λ a low high. each a (omega arith) (omega arith)))))

-- what is kept of the first ones and the next, which passes
pub kept_more : {X : Type 0} → (p : X → Bool) (xs : List X) (i : ℕ) (x : X) → i < length xs
    → p (get_or xs i x) ≡ true → filter p (take i xs) ++ get_or xs i x ∷ [] ≡ filter p (take (i + 1) xs)
kept_more {X} p xs i x within passes =
    let one : filter p (get_or xs i x ∷ []) ≡ get_or xs i x ∷ [] = rw passes refl in
    rw (take_more xs i x within, filter-append p (take i xs) (get_or xs i x ∷ []), one) refl

-- and of the first ones and the next, which doesn't
pub left_more : {X : Type 0} → (p : X → Bool) (xs : List X) (i : ℕ) (x : X) → i < length xs
    → p (get_or xs i x) ≡ false → filter p (take i xs) ≡ filter p (take (i + 1) xs)
left_more {X} p xs i x within fails =
    let none : filter p (get_or xs i x ∷ []) ≡ [] = rw fails refl in
    rw (take_more xs i x within, filter-append p (take i xs) (get_or xs i x ∷ []), none)
    (sym (append-nil (filter p (take i xs))))
