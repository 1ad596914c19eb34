-- Counts over the numbers from one on.
use Rattle.std.proofs.Common.{ℕ, suc, zero, ◌+◌, ◌-◌, ◌<◌, ◌≤◌, ◌≡◌, Bool, true, false, cond, min, max, List, ◌∷◌, refl}
use Rattle.std.proofs.Common.{⊎_elim, arith}
use Rattle.std.specs.List.{count_by, range_with_len}
use Rattle.std.proofs.lemmas.List.Sums.{sum_by-cons}
use Rattle.std.proofs.lemmas.Bool.{cases_lt}

count_cons : (p : ℕ → Bool) (x : ℕ) (xs : List ℕ) → count_by p (x ∷ xs) ≡ cond (p x) 1 0 + count_by p xs
count_cons p x xs = sum_by-cons (λ i. cond (p i) 1 0) x xs

-- of n numbers from a on, a test that passes from lo up to hi passes as many as both have
pub count_interval : (p : ℕ → Bool) (lo hi a n : ℕ) → lo ≤ hi → ((i : ℕ) → lo ≤ i → i < hi → p i ≡ true)
    → ((i : ℕ) → i < lo → p i ≡ false) → ((i : ℕ) → hi ≤ i → p i ≡ false)
    → count_by p (range_with_len a n) ≡ min (a + n) hi - max a lo
count_interval p lo hi a zero le inside before after = omega arith
count_interval p lo hi a (suc n) le inside before after =
    let rest = count_interval p lo hi (a + 1) n le inside before after in
    let step = count_cons p a (range_with_len (a + 1) n) in
    ⊎_elim (λ (h : a < lo). let s = rw (before a h) at step in omega arith)
    (λ (g : lo ≤ a). ⊎_elim (λ (h : a < hi). let s = rw (inside a g h) at step in omega arith) (λ (h : hi ≤ a). let s =
    rw (after a h) at step in omega arith) (cases_lt a hi)) (cases_lt a lo)

-- where a test passes exactly what one of two tests passes, and these have nothing in common, it passes as many as both
pub count_split : (p q r : ℕ → Bool) (a n : ℕ)
    → ((i : ℕ) → i < a + n → cond (p i) 1 0 ≡ cond (q i) 1 0 + cond (r i) 1 0)
    → count_by p (range_with_len a n) ≡ count_by q (range_with_len a n) + count_by r (range_with_len a n)
count_split p q r a zero each = refl
count_split p q r a (suc n) each =
    let rest = count_split p q r (a + 1) n (λ i h. each i (omega arith)) in
    let xs : List ℕ = range_with_len (a + 1) n in
    omega (arith, rest, each a (omega arith), count_cons p a xs, count_cons q a xs, count_cons r a xs)
