-- Sums over packets, crypto periods and periods.
use Rattle.std.proofs.Common.{arith, ◌≡◌, ℕ, zero, suc, ◌+◌, ◌-◌, ◌*◌, ◌/◌, ◌%◌, ◌<◌, ◌≤◌, min, nat_le, Bool, true}
use Rattle.std.proofs.Common.{false}
use Rattle.std.proofs.Common.{cond, refl, sym, ap, ◌∙◌, inl, inr}
use Rattle.std.specs.Prelude.{◌⊎◌, ◌↔◌, sum_by}
use Rattle.std.specs.List.{range_with_len}
use Rattle.std.proofs.Math.Nat.{div-lt_iff_lt-mul}
use Rattle.std.proofs.lemmas.Nat.{div-add-mod', div-mul-add, mod_below}
use Rattle.std.proofs.lemmas.Bool.{cases_lt}
use Rattle.std.proofs.lemmas.Bool.Decides.{nat_tests}
use Rattle.std.proofs.lemmas.List.Sums.{sum_by-cons, sum_by_push}
use Rattle.sd_base.proofs.Arithmetic.{times_next}
use Rattle.sd_base.proofs.Ranges.{range_more}
use Rattle.sd_book.specs.Commands.{last_period}
use Rattle.sd_spec.specs.Plan.{Plan, period_in}
use Rattle.sd_run_books.specs.Air.{cryptos_in, cryptos_from, period_count}

no_times : (k : ℕ) → 0 * k ≡ 0
no_times k = omega arith

pub quotient_is : (x b d : ℕ) → d * b ≤ x → x < d * b + b → x / b ≡ d
quotient_is x b d low high =
    let same : d * b + (x - d * b) ≡ x = omega (arith, low) in
    ap (λ (k : ℕ). k / b) (sym same) ∙ div-mul-add d b (x - d * b) (omega (arith, low, high))

-- how many stretches of b numbers are begun by the first m numbers, and by one more
unfoldable pub begun : ℕ → ℕ → ℕ
begun b m = (m + b - 1) / b

pub one_begins : (b m : ℕ) → 0 < b → m % b ≡ 0 → (begun b m ≡ m / b) × (begun b (m + 1) ≡ begun b m + 1)
unfolding begun
one_begins b m some first =
    let is = div-add-mod' m b in
    let next = times_next (m / b) b in
    let now : (m + b - 1) / b ≡ m / b =
    quotient_is (m + b - 1) b (m / b) (omega (arith, is, some)) (omega (arith, is, first, some)) in
    let more : (m + 1 + b - 1) / b ≡ m / b + 1 =
    quotient_is (m + 1 + b - 1) b (m / b + 1) (omega (arith, is, next, some, first))
    (omega (arith, is, next, some, first)) in
    (now, more ∙ ap (λ (k : ℕ). k + 1) (sym now))

pub none_begins : (b m : ℕ) → 0 < b → 0 < m % b → begun b (m + 1) ≡ begun b m
unfolding begun
none_begins b m some later =
    let is = div-add-mod' m b in
    let next = times_next (m / b) b in
    let low = mod_below m b some in
    let now : (m + b - 1) / b ≡ m / b + 1 =
    quotient_is (m + b - 1) b (m / b + 1) (omega (arith, is, next, some, later)) (omega (arith, is, next, low)) in
    let more : (m + 1 + b - 1) / b ≡ m / b + 1 =
    quotient_is (m + 1 + b - 1) b (m / b + 1) (omega (arith, is, next, some, later)) (omega (arith, is, next, low)) in
    more ∙ sym now

-- the sum of the first numbers, and one more
pub sum_more : (f : ℕ → ℕ) (n : ℕ) → sum_by f (range_with_len 0 (n + 1)) ≡ sum_by f (range_with_len 0 n) + f n
sum_more f n =
    let same : 0 + n ≡ n = omega arith in
    ap (sum_by f) (range_more 0 n)
    ∙ sum_by_push f (range_with_len 0 n) (0 + n)
    ∙ ap (λ (k : ℕ). sum_by f (range_with_len 0 n) + f k) same

-- functions that agree on some numbers have one sum
sum_same : (f g : ℕ → ℕ) (a n : ℕ) → ((q : ℕ) → a ≤ q → q < a + n → f q ≡ g q) →
    sum_by f (range_with_len a n) ≡ sum_by g (range_with_len a n)
sum_same f g a zero same = refl
sum_same f g a (suc n) same =
    let head = same a (omega arith) (omega arith) in
    let rest = sum_same f g (a + 1) n (λ q low high. same q (omega (arith, low)) (omega (arith, high))) in
    omega (arith, sum_by-cons f a (range_with_len (a + 1) n), sum_by-cons g a (range_with_len (a + 1) n), head, rest)

-- a sum of which one term grows
pub sum_grows : (f g : ℕ → ℕ) (a n p more : ℕ) → a ≤ p → p < a + n → g p ≡ f p + more →
    ((q : ℕ) → a ≤ q → q < a + n → (q < p) ⊎ (p < q) → g q ≡ f q) →
    sum_by g (range_with_len a n) ≡ sum_by f (range_with_len a n) + more
sum_grows f g a zero p more low high grows same = absurd (omega (arith, low, high))
sum_grows f g a (suc n) p more low high grows same = elim (cases_lt a p) [
  | inl lt ↦
      let head = same a (omega arith) (omega arith) (inl lt) in
      let rest = sum_grows f g (a + 1) n p more (omega (arith, lt)) (omega (arith, high)) grows
      (λ q from to other. same q (omega (arith, from)) (omega (arith, to)) other) in
      omega (
        arith,
        sum_by-cons f a (range_with_len (a + 1) n),
        sum_by-cons g a (range_with_len (a + 1) n),
        head,
        rest,
      )
  | inr le ↦
      let at : a ≡ p = omega (arith, low, le) in
      let head : g a ≡ f a + more = ap g at ∙ grows ∙ ap (λ (k : ℕ). f k + more) (sym at) in
      let rest = sum_same g f (a + 1) n (λ q from to. same q (omega (arith, from)) (omega (arith, to))
      (inr (omega (arith, from, at)))) in
      omega (
        arith,
        sum_by-cons f a (range_with_len (a + 1) n),
        sum_by-cons g a (range_with_len (a + 1) n),
        head,
        rest,
      )
]

-- a sum whose terms from some number on are 0
pub sum_none : (f : ℕ → ℕ) (a n : ℕ) → ((q : ℕ) → a ≤ q → q < a + n → f q ≡ 0) → sum_by f (range_with_len a n) ≡ 0
sum_none f a zero none = refl
sum_none f a (suc n) none =
    let rest = sum_none f (a + 1) n (λ q low high. none q (omega (arith, low)) (omega (arith, high))) in
    omega (arith, sum_by-cons f a (range_with_len (a + 1) n), none a (omega arith) (omega arith), rest)

sum_ends : (f : ℕ → ℕ) (a n k : ℕ) → ((q : ℕ) → a + n ≤ q → q < a + n + k → f q ≡ 0) →
    sum_by f (range_with_len a (n + k)) ≡ sum_by f (range_with_len a n)
sum_ends f a zero k none =
    let all : 0 + k ≡ k = omega arith in
    ap (λ (j : ℕ). sum_by f (range_with_len a j)) all
    ∙ sum_none f a k (λ q low high. none q (omega (arith, low)) (omega (arith, high)))
sum_ends f a (suc n) k none =
    let all : suc n + k ≡ suc (n + k) = omega arith in
    let rest = sum_ends f (a + 1) n k (λ q low high. none q (omega (arith, low)) (omega (arith, high))) in
    ap (λ (j : ℕ). sum_by f (range_with_len a j)) all
    ∙ omega (
      arith,
      sum_by-cons f a (range_with_len (a + 1) (n + k)),
      sum_by-cons f a (range_with_len (a + 1) n),
      rest,
    )

-- how many crypto periods of a period there are, by the test that its definition makes
last_on : (plan : Plan) (n q : ℕ) → last_period plan.commands ≤ q → cryptos_in plan n q ≡ cryptos_from plan n q
last_on plan n q low =
    let yes : nat_le (last_period plan.commands) q ≡ true = grind (arith, nat_tests, low) in
    ap (λ (t : Bool). cond t (cryptos_from plan n q) (min plan.site.span (cryptos_from plan n q))) yes

before_last : (plan : Plan) (n q : ℕ) → q < last_period plan.commands →
    cryptos_in plan n q ≡ min plan.site.span (cryptos_from plan n q)
before_last plan n q high =
    let not_yet : nat_le (last_period plan.commands) q ≡ false = grind (arith, nat_tests, high) in
    ap (λ (t : Bool). cond t (cryptos_from plan n q) (min plan.site.span (cryptos_from plan n q))) not_yet

-- where crypto period n stands beside the first one of a period that comes after `before` others
stands : (s n before : ℕ) → 0 < s →
    ((n / s < before) ↔ (n < before * s)) × ((n / s < before + 1) ↔ (n < before * s + s))
stands s n before some =
    let one = div-lt_iff_lt-mul {k = s} {x = n} {y = before} some in
    let next = div-lt_iff_lt-mul {k = s} {x = n} {y = before + 1} some in
    let more = times_next before s in
    (one, (λ h. omega (arith, next.0 h, more), λ h. next.1 (omega (arith, h, more))))

-- crypto period n is of its own period, and of no other
pub record TakesOne (plan : Plan) (n q : ℕ) : Type 0 where
  pub own : q ≡ period_in plan n → cryptos_in plan (n + 1) q ≡ cryptos_in plan n q + 1
  pub other : (q < period_in plan n) ⊎ (period_in plan n < q) → cryptos_in plan (n + 1) q ≡ cryptos_in plan n q

pub takes_one : (plan : Plan) (n q : ℕ) → 0 < plan.site.span → plan.site.first_period ≤ q →
    q ≤ plan.site.first_period + (last_period plan.commands - plan.site.first_period) → TakesOne plan n q
unfolding period_in
takes_one plan n q some low high =
    let s = plan.site.span in
    let first = plan.site.first_period in
    let last = last_period plan.commands in
    let at = stands s n (q - first) some in
    elim (cases_lt (n / s) (q - first)) [
      | inl before ↦
          let under = at.0.0 before in
          elim (cases_lt q last) [
            | inl lt ↦ record {
              own = λ is. absurd (omega (arith, is, before, low, lt));
              other = λ apart. omega (arith, before_last plan (n + 1) q lt, before_last plan n q lt, under);
            }
            | inr le ↦ record {
              own = λ is. absurd (omega (arith, is, before, low, le, high));
              other = λ apart. omega (arith, last_on plan (n + 1) q le, last_on plan n q le, under);
            }
          ]
      | inr after ↦
          let over = above (n / s) (q - first) n ((q - first) * s) at.0 after in
          elim (cases_lt q last) [
            | inl lt ↦ elim (cases_lt (n / s) (q - first + 1)) [
              | inl within ↦
                  let under = at.1.0 within in
                  record {
                    own = λ is. omega (arith, before_last plan (n + 1) q lt, before_last plan n q lt, over, under);
                    other = λ apart. elim apart [
                      | inl is ↦ absurd (omega (arith, is, within, after, low, lt))
                      | inr is ↦ absurd (omega (arith, is, within, after, low, lt))
                    ];
                  }
              | inr past ↦
                  let all = above (n / s) (q - first + 1) n ((q - first) * s + s) at.1 past in
                  record {
                    own = λ is. absurd (omega (arith, is, past, low, lt));
                    other = λ apart. omega (arith, before_last plan (n + 1) q lt, before_last plan n q lt, all);
                  }
            ]
            | inr le ↦ record {
              own = λ is. omega (arith, last_on plan (n + 1) q le, last_on plan n q le, over);
              other = λ apart. elim apart [
                | inl is ↦ absurd (omega (arith, is, after, low, le, high))
                | inr is ↦ absurd (omega (arith, is, after, low, le, high))
              ];
            }
          ]
    ]
  where
    above : (d x n y : ℕ) → ((d < x) ↔ (n < y)) → x ≤ d → y ≤ n
    above d x n y same le = elim (cases_lt n y) [
      | inl lt ↦ absurd (omega (arith, same.1 lt, le))
      | inr le ↦ le
    ]

-- what the crypto periods of each period come to, h for each crypto period
unfoldable pub shared : Plan → (ℕ → ℕ) → ℕ → ℕ
shared plan h n =
    sum_by (λ q. cryptos_in plan n q * h q)
    (range_with_len plan.site.first_period (last_period plan.commands - plan.site.first_period + 1))

-- one crypto period more
pub shared_more : (plan : Plan) (h : ℕ → ℕ) (n : ℕ) → 0 < plan.site.span →
    shared plan h (n + 1) ≡ shared plan h n + h (period_in plan n)
unfolding shared period_in
shared_more plan h n some =
    let first = plan.site.first_period in
    let count = last_period plan.commands - first + 1 in
    let p = period_in plan n in
    sum_grows (λ q. cryptos_in plan n q * h q) (λ q. cryptos_in plan (n + 1) q * h q) first count p (h p)
    (omega arith) (omega arith)
    (ap (λ (c : ℕ). c * h p) ((takes_one plan n p some (omega arith) (omega arith)).own refl)
    ∙ times_next (cryptos_in plan n p) (h p))
    (λ q low high other. ap (λ (c : ℕ). c * h q) ((takes_one plan n q some low (omega (arith, high))).other other))

-- no crypto period
pub shared_none : (plan : Plan) (h : ℕ → ℕ) → shared plan h 0 ≡ 0
unfolding shared
shared_none plan h =
    sum_none (λ q. cryptos_in plan 0 q * h q) plan.site.first_period
    (last_period plan.commands - plan.site.first_period + 1)
    (λ q low high. ap (λ (c : ℕ). c * h q) (none q) ∙ no_times (h q))
  where
    none : (q : ℕ) → cryptos_in plan 0 q ≡ 0
    none q = elim (cases_lt q (last_period plan.commands)) [
      | inl lt ↦ omega (arith, before_last plan 0 q lt)
      | inr le ↦ omega (arith, last_on plan 0 q le)
    ]

-- the periods that are begun are all that have any
pub shared_is : (plan : Plan) (h : ℕ → ℕ) (n : ℕ) → 0 < plan.site.span → 0 < n →
    shared plan h n
    ≡ sum_by (λ q. cryptos_in plan n q * h q) (range_with_len plan.site.first_period (period_count plan n))
unfolding shared period_in
shared_is plan h n some begins =
    let first = plan.site.first_period in
    let count = period_count plan n in
    let more = last_period plan.commands - first + 1 - count in
    let all : last_period plan.commands - first + 1 ≡ count + more = omega arith in
    ap (λ (k : ℕ). sum_by (λ q. cryptos_in plan n q * h q) (range_with_len first k)) all
    ∙ sum_ends (λ q. cryptos_in plan n q * h q) first count more
    (λ q low high. ap (λ (c : ℕ). c * h q) (none q (omega (arith, low)) (omega (arith, high)))
    ∙ no_times (h q))
  where
    none : (q : ℕ) → plan.site.first_period + period_count plan n ≤ q →
        q ≤ plan.site.first_period + (last_period plan.commands - plan.site.first_period) → cryptos_in plan n q ≡ 0
    none q low high =
        let at = stands plan.site.span (n - 1) (q - plan.site.first_period) some in
        let under = at.0.0 (omega (arith, low, high)) in
        elim (cases_lt q (last_period plan.commands)) [
          | inl lt ↦ omega (arith, before_last plan n q lt, under, begins)
          | inr le ↦ omega (arith, last_on plan n q le, under, begins)
        ]
