-- What is found among numbers, and what a filter of them has.
use Rattle.std.proofs.Common.{arith, ◌≡◌, ℕ, zero, suc, ◌+◌, ◌<◌, ◌≤◌, Bool, true, false, cond, List, [], ◌∷◌}
use Rattle.std.proofs.Common.{Some, None, filter, refl, sym, ap, ◌∙◌, inl, inr}
use Rattle.std.specs.Prelude.{find, Contains, ◌⊎◌}
use Rattle.std.specs.List.{range_with_len}
use Rattle.std.proofs.lemmas.Bool.{cases_lt}
use Rattle.std.proofs.lemmas.List.Elements.{All-contains, filter_passes, Contains-append_right}
use Rattle.sd_base.proofs.Ranges.{none_found}
use Rattle.sd_run_books.specs.Apart.{differ, first_differing}

-- the least number from a on, below a + n, that passes the test
pub record IsLeast (test : ℕ → Bool) (a n u : ℕ) : Type 0 where
  pub low : a ≤ u
  pub high : u < a + n
  pub yes : test u ≡ true
  pub least : (v : ℕ) → a ≤ v → v < u → test v ≡ false

least_more : (test : ℕ → Bool) (a n u : ℕ) → test a ≡ false → IsLeast test (a + 1) n u → IsLeast test a (suc n) u
least_more test a n u fails rest = record {
  low = omega (arith, rest.low);
  high = omega (arith, rest.high);
  yes = rest.yes;
  least = λ v low below. elim (cases_lt a v) [
    | inl lt ↦ rest.least v (omega (arith, lt)) below
    | inr le ↦
        let same : v ≡ a = omega (arith, low, le) in
        ap test same ∙ fails
  ];
}

pub find_least : (test : ℕ → Bool) (a n u : ℕ) → find test (range_with_len a n) ≡ Some u → IsLeast test a n u
find_least test a zero u h = absurd cc
find_least test a (suc n) u h = by_test (test a) refl (find_least test (a + 1) n u) h
  where
    by_test : (t : Bool) → test a ≡ t →
        (find test (range_with_len (a + 1) n) ≡ Some u → IsLeast test (a + 1) n u) →
        cond t (Some a) (find test (range_with_len (a + 1) n)) ≡ Some u → IsLeast test a (suc n) u
    by_test false e rest h = least_more test a n u e (rest h)
    by_test true e rest h =
        let same : a ≡ u = cc in
        record {
          low = omega (arith, same);
          high = omega (arith, same);
          yes = ap test (sym same) ∙ e;
          least = λ v low below. absurd (omega (arith, same, low, below));
        }

pub all_fail : (test : ℕ → Bool) (a n : ℕ) → ((v : ℕ) → a ≤ v → v < a + n → test v ≡ false) →
    find test (range_with_len a n) ≡ None
all_fail test a zero fails = refl
all_fail test a (suc n) fails =
    ap (λ (t : Bool). cond t (Some a) (find test (range_with_len (a + 1) n))) (fails a (omega arith) (omega arith))
    ∙ all_fail test (a + 1) n (λ v low high. fails v (omega (arith, low)) (omega (arith, high)))

-- what a filter of numbers has
pub kept : (test : ℕ → Bool) (a n x : ℕ) → a ≤ x → x < a + n → test x ≡ true →
    Contains (filter test (range_with_len a n)) x
kept test a zero x low high pass = absurd (omega (arith, low, high))
kept test a (suc n) x low high pass = elim (cases_lt a x) [
  | inl lt ↦ by_test (test a) (kept test (a + 1) n x (omega (arith, lt)) (omega (arith, high)) pass)
  | inr le ↦
      let same : a ≡ x = omega (arith, low, le) in
      at_head (test a) (ap test same ∙ pass) same
]
  where
    by_test : (t : Bool) → Contains (filter test (range_with_len (a + 1) n)) x →
        Contains (cond t (a ∷ filter test (range_with_len (a + 1) n)) (filter test (range_with_len (a + 1) n))) x
    by_test true rest = Contains-append_right (a ∷ []) (filter test (range_with_len (a + 1) n)) x rest
    by_test false rest = rest

    at_head : (t : Bool) → t ≡ true → a ≡ x →
        Contains (cond t (a ∷ filter test (range_with_len (a + 1) n)) (filter test (range_with_len (a + 1) n))) x
    at_head true e same = (0, omega arith, same)
    at_head false e same = absurd cc

pub passes : (test : ℕ → Bool) (xs : List ℕ) (x : ℕ) → Contains (filter test xs) x → test x ≡ true
passes test xs x has = All-contains (λ y. test y ≡ true) (filter test xs) x (filter_passes test xs) has

-- two answers that are other ones, and two that aren't
pub one_alone : (p q : Bool) → differ p q ≡ true → ((p ≡ true) × (q ≡ false)) ⊎ ((q ≡ true) × (p ≡ false))
one_alone true false h = inl (refl, refl)
one_alone false true h = inr (refl, refl)
one_alone true true h = absurd cc
one_alone false false h = absurd cc

pub both_same : (p q : Bool) → differ p q ≡ false → p ≡ q
both_same true true h = refl
both_same false false h = refl
both_same true false h = absurd cc
both_same false true h = absurd cc

pub same_no : (p q : Bool) → p ≡ q → differ p q ≡ false
same_no true true h = refl
same_no false false h = refl
same_no true false h = absurd cc
same_no false true h = absurd cc

-- tests with no number between them let the same numbers through
pub same_filters : (one other : ℕ → Bool) (a n : ℕ) →
    find (λ u. differ (one u) (other u)) (range_with_len a n) ≡ None →
    filter one (range_with_len a n) ≡ filter other (range_with_len a n)
same_filters one other a zero h = refl
same_filters one other a (suc n) h =
    by_tests (one a) (other a) (same_filters one other (a + 1) n) h
  where
    by_tests : (p q : Bool) → (find (λ u. differ (one u) (other u)) (range_with_len (a + 1) n) ≡ None →
        filter one (range_with_len (a + 1) n) ≡ filter other (range_with_len (a + 1) n)) →
        cond (differ p q) (Some a) (find (λ u. differ (one u) (other u)) (range_with_len (a + 1) n)) ≡ None →
        cond p (a ∷ filter one (range_with_len (a + 1) n)) (filter one (range_with_len (a + 1) n))
        ≡ cond q (a ∷ filter other (range_with_len (a + 1) n)) (filter other (range_with_len (a + 1) n))
    by_tests true true rest h = ap (λ (xs : List ℕ). a ∷ xs) (rest h)
    by_tests false false rest h = rest h
    by_tests true false rest h = absurd cc
    by_tests false true rest h = absurd cc

-- the first number of which the tests say another thing, the other way round
pub swapped_none : (one other : ℕ → Bool) (n : ℕ) → first_differing one other n ≡ None →
    first_differing other one n ≡ None
swapped_none one other n h =
    all_fail (λ u. differ (other u) (one u)) 0 n (λ v low high. same_no (other v) (one v)
    (sym (both_same (one v) (other v) (none_found (λ u. differ (one u) (other u)) 0 n v h low high))))
