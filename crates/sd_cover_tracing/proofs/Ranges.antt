-- The numbers of an interval that pass a test.
use Rattle.std.proofs.Common.{◌≡◌, ◌∙◌, ℕ, zero, suc, ◌+◌, ◌<◌, ◌≤◌, ◌==◌, ◌↔◌, nat_eq, ◌&&◌, ◌||◌, Bool, true, false}
use Rattle.std.proofs.Common.{cond, if◌then◌else◌, List, [], ◌∷◌, filter, Contains, eq-eqb, ne_eqb, eqb-true, arith}
use Rattle.std.proofs.Common.{sym, ap, refl, inl, inr}
use Rattle.std.specs.List.{count_by, list_any, range_with_len}
use Rattle.std.proofs.lemmas.Bool.{cases_Bool}
use Rattle.std.proofs.lemmas.Bool.Decides.{eqb_tells}
use Rattle.std.proofs.lemmas.List.Sums.{sum_by-cons}
use Rattle.std.proofs.lemmas.Map.Views.{any-filter_same}
use Rattle.sd_tree_keys.proofs.Counting.{count_interval, count_split}
use Rattle.sd_cover_tracing.proofs.Lists.{found_member, member_cases}

-- the count by a test of what passes another is the count by both
pub count_filter : (p q : ℕ → Bool) (xs : List ℕ) → count_by q (filter p xs) ≡ count_by (λ w. p w && q w) xs
count_filter p q [] = refl
count_filter p q (x ∷ xs) =
    let rest = count_filter p q xs in
    let step = sum_by-cons (λ w. cond (p w && q w) 1 0) x xs in
    elim (p x) as (λ b. (count_by (λ w. p w && q w) (x ∷ xs) ≡ cond (b && q x) 1 0 + count_by (λ w. p w && q w) xs) →
    count_by q (if b then x ∷ filter p xs else filter p xs) ≡ count_by (λ w. p w && q w) (x ∷ xs)) [
      | true ↦ λ s. sum_by-cons (λ w. cond (q w) 1 0) x (filter p xs) ∙
          (ap (λ (n : ℕ). cond (q x) 1 0 + n) rest ∙ sym s)
      | false ↦ λ s. let none : 0 + count_by (λ w. p w && q w) xs ≡ count_by (λ w. p w && q w) xs = omega arith in
          rest ∙ (sym none ∙ sym s)
    ] step

-- tests that agree on an interval count and keep the same
pub count_same : (p q : ℕ → Bool) (a n : ℕ) → ((w : ℕ) → w < a + n → p w ≡ q w) → count_by p (range_with_len a n)
    ≡ count_by q (range_with_len a n)
count_same p q a zero same = refl
count_same p q a (suc n) same =
    let rest = count_same p q (a + 1) n (λ w h. same w (omega arith)) in
    sum_by-cons (λ w. cond (p w) 1 0) a (range_with_len (a + 1) n)
    ∙ (ap (λ (b : Bool). cond b 1 0 + count_by p (range_with_len (a + 1) n)) (same a (omega arith))
    ∙ (ap (λ (m : ℕ). cond (q a) 1 0 + m) rest ∙ sym (sum_by-cons (λ w. cond (q w) 1 0) a (range_with_len (a + 1) n))))

pub filter_same : (p q : ℕ → Bool) (a n : ℕ) → ((w : ℕ) → w < a + n → p w ≡ q w) → filter p (range_with_len a n)
    ≡ filter q (range_with_len a n)
filter_same p q a zero same = refl
filter_same p q a (suc n) same =
    let rest = filter_same p q (a + 1) n (λ w h. same w (omega arith)) in
    ap (λ (b : Bool). if b then a ∷ filter p (range_with_len (a + 1) n) else filter p (range_with_len (a + 1) n))
    (same a (omega arith))
    ∙ ap (λ (xs : List ℕ). if q a then a ∷ xs else xs) rest

-- one number passes a test for it and another one where it passes the other
pub count_point : (q : ℕ → Bool) (a n u : ℕ) → a ≤ u → u < a + n → count_by (λ w. w == u && q w) (range_with_len a n)
    ≡ (if q u then 1 else 0)
count_point q a n u low high = elim (cases_Bool (q u)) [
  | inl yes' ↦
      let is = count_interval (λ w. w == u && q w) u (u + 1) a n (omega arith)
      (λ w l h. let e : w ≡ u = omega arith in rw (eq-eqb w u e) (ap q e ∙ yes'))
      (λ w l. rw (ne_eqb w u (omega arith)) refl)
      (λ w l. rw (ne_eqb w u (omega arith)) refl) in
      rw yes' (omega arith)
  | inr no' ↦
      let is = count_interval (λ w. w == u && q w) u u a n (omega arith)
      (λ w l h. absurd (omega arith))
      (λ w l. rw (ne_eqb w u (omega arith)) refl)
      (λ w l. elim (eqb_tells w u) [
        | inl same ↦ rw same.0 (ap q same.1 ∙ no')
        | inr other ↦ rw other.0 refl
      ]) in
      rw no' (omega arith)
]

-- where one more number passes, a count of what passes has that one more
pub count_one_more : (p p' q : ℕ → Bool) (a n u : ℕ) → a ≤ u → u < a + n →
    ((w : ℕ) → w < a + n → p' w ≡ (p w || w == u)) → p u ≡ false → count_by q (filter p' (range_with_len a n))
    ≡ count_by q (filter p (range_with_len a n)) + (if q u then 1 else 0)
count_one_more p p' q a n u low high more new =
    let each : (w : ℕ) → w < a + n → cond (p' w && q w) 1 0 ≡ cond (p w && q w) 1 0 + cond (w == u && q w) 1 0 = λ w h.
    rw (more w h) (elim (eqb_tells w u) [
      | inl same ↦ rw (same.0, ap p same.1 ∙ new) (here (q w))
      | inr other ↦ rw other.0 (apart (p w) (q w))
    ]) in
    let split = count_split (λ w. p' w && q w) (λ w. p w && q w) (λ w. w == u && q w) a n each in
    let point = count_point q a n u low high in
    let old = count_filter p q (range_with_len a n) in
    let now = count_filter p' q (range_with_len a n) in
    omega arith
  where
    here : (c : Bool) → cond ((false || true) && c) 1 0 ≡ cond (false && c) 1 0 + cond (true && c) 1 0
    here true = refl
    here false = refl

    apart : (b c : Bool) → cond ((b || false) && c) 1 0 ≡ cond (b && c) 1 0 + cond (false && c) 1 0
    apart true true = refl
    apart true false = refl
    apart false true = refl
    apart false false = refl

-- a number of the interval stands in the list of those that pass where it passes
any_in : (a n u : ℕ) → a ≤ u → u < a + n → list_any (nat_eq u) (range_with_len a n) ≡ true
any_in a zero u low high = absurd (omega arith)
any_in a (suc n) u low high = elim (eqb_tells u a) [
  | inl same ↦ rw same.0 refl
  | inr other ↦ rw other.0 (any_in (a + 1) n u (let o = other.1 in omega arith) (omega arith))
]

pub passes : (p : ℕ → Bool) (a n u : ℕ) → a ≤ u → u < a + n → list_any (nat_eq u) (filter p (range_with_len a n)) ≡ p u
passes p a n u low high =
    any-filter_same (nat_eq u) p (p u) (λ k e. ap p (sym (eqb-true u k e))) (range_with_len a n) ∙
    rw (any_in a n u low high) (alone (p u))
  where
    alone : (b : Bool) → (b && true) ≡ b
    alone true = refl
    alone false = refl

-- the list has the number where a test finds it
any_found : (u : ℕ) (xs : List ℕ) → Contains xs u → list_any (nat_eq u) xs ≡ true
any_found u [] m = absurd (let h = m.1 in omega arith)
any_found u (x ∷ xs) m = elim (member_cases x xs u m) [
  | inl here ↦ rw (eq-eqb u x (sym here)) refl
  | inr there ↦ rw (any_found u xs there)
      (elim (nat_eq u x) as (λ b. (b || true) ≡ true) [ true ↦ refl | false ↦ refl ])
]

pub found : (u : ℕ) (xs : List ℕ) → (list_any (nat_eq u) xs ≡ true) ↔ Contains xs u
found u xs = (found_member u xs, any_found u xs)

-- to filter twice is to filter by both tests
pub filter_twice : (p q : ℕ → Bool) (xs : List ℕ) → filter q (filter p xs) ≡ filter (λ w. p w && q w) xs
filter_twice p q [] = refl
filter_twice p q (x ∷ xs) =
    let rest = filter_twice p q xs in
    elim (p x) as (λ b. filter q (if b then x ∷ filter p xs else filter p xs)
    ≡ (if b && q x then x ∷ filter (λ w. p w && q w) xs else filter (λ w. p w && q w) xs)) [
      | true ↦ ap (λ (ys : List ℕ). if q x then x ∷ ys else ys) rest
      | false ↦ rest
    ]
