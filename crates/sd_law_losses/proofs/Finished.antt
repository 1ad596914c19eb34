-- How a whole broadcast ends.
use Rattle.std.proofs.Common.{◌≡◌, refl, ℕ, zero, suc, ◌+◌, ◌-◌, ◌*◌, ◌≤◌, Bool, true, false, min}
use Rattle.std.proofs.Common.{List, [], ◌∷◌, ◌++◌, map, length, Option, Some, None, if◌then◌else◌}
use Rattle.std.proofs.Common.{arith, sym, ap, subst, ◌∙◌, inl, inr, ◌⊎◌}
use Rattle.std.specs.List.{range_with_len, find}
use Rattle.std.proofs.lemmas.List.{map-append}
use Rattle.std.proofs.lemmas.Bool.{cases_Bool, cases_eq}
use Rattle.sd_base.proofs.Ranges.{range_more, none_found}
use Rattle.sd_site_cards.specs.SiteFields.{AreInRange}
use Rattle.sd_spec.specs.Plan.{Plan, crypto_length, period_of, closing_number}
use Rattle.sd_spec.proofs.Schedule.{periods_rise, periods_step, period_of_first, closing_covers}
use Rattle.sd_law_losses.specs.Endings.{period_told}

-- the test of the last one
find_none : (f : ℕ → Bool) (xs : List ℕ) (x : ℕ) → find f xs ≡ None → find f (xs ++ x ∷ []) ≡
    (if f x then Some x else None)
find_none f [] x none = refl
find_none f (y ∷ ys) x none = by_test (cases_Bool (f y)) (λ rest. find_none f ys x rest)
  where
    by_test : (f y ≡ true) ⊎ (f y ≡ false) → (find f ys ≡ None → find f (ys ++ x ∷ []) ≡
        (if f x then Some x else None)) →
        find f (y ∷ (ys ++ x ∷ [])) ≡ (if f x then Some x else None)
    by_test (inl is) rest = absurd (cc (rw is at none))
    by_test (inr is) rest = rw is (rest (rw is at none))

find_some : (f : ℕ → Bool) (xs : List ℕ) (x y : ℕ) → find f xs ≡ Some y → find f (xs ++ x ∷ []) ≡ Some y
find_some f [] x y some = absurd (cc some)
find_some f (z ∷ zs) x y some = by_test (cases_Bool (f z)) (λ rest. find_some f zs x y rest)
  where
    by_test : (f z ≡ true) ⊎ (f z ≡ false) → (find f zs ≡ Some y → find f (zs ++ x ∷ []) ≡ Some y) →
        find f (z ∷ (zs ++ x ∷ [])) ≡ Some y
    by_test (inl is) rest = rw is (rw is at some)
    by_test (inr is) rest = rw is (rest (rw is at some))

-- lists that find the same, with one more
find_last : (f : ℕ → Bool) (xs ys : List ℕ) (x : ℕ) → find f xs ≡ find f ys → find f (xs ++ x ∷ []) ≡ find f
    (ys ++ x ∷ [])
find_last f xs ys x same = by_found (find f ys) refl
  where
    by_found : (o : Option ℕ) → find f ys ≡ o → find f (xs ++ x ∷ []) ≡ find f (ys ++ x ∷ [])
    by_found None none = find_none f xs x (same ∙ none) ∙ sym (find_none f ys x none)
    by_found (Some y) some = find_some f xs x y (same ∙ some) ∙ sym (find_some f ys x y some)

-- one that stands there already finds nothing more
find_again : (f : ℕ → Bool) (xs : List ℕ) (x : ℕ) → (find f xs ≡ None → f x ≡ false) → find f (xs ++ x ∷ []) ≡ find f xs
find_again f xs x fails = by_found (find f xs) refl
  where
    by_found : (o : Option ℕ) → find f xs ≡ o → find f (xs ++ x ∷ []) ≡ find f xs
    by_found None none = find_none f xs x none ∙ (rw (fails none) refl ∙ sym none)
    by_found (Some y) some = find_some f xs x y some ∙ sym some

-- numbers that rise are none below the first
risen_above : (g : ℕ → ℕ) (n : ℕ) → ((a : ℕ) → g a ≤ g (a + 1)) → g 0 ≤ g n
risen_above g zero rises = omega arith
risen_above g (suc n) rises =
    let next : g (n + 1) ≡ g (suc n) = ap g (omega arith) in
    omega (arith, risen_above g n rises, rises n, next)

-- numbers that rise from s by 1 at most find what all from s up to the last find
pub find_risen : (g : ℕ → ℕ) (test : ℕ → Bool) (s n : ℕ) → g 0 ≡ s → ((a : ℕ) → g a ≤ g (a + 1)) → ((a : ℕ) → g
    (a + 1) ≤ g a + 1) →
    find test (map g (range_with_len 0 (n + 1))) ≡ find test (range_with_len s (g n + 1 - s))
find_risen g test s zero start rises steps =
    let one : 0 + 1 ≡ 1 = omega arith in
    let all : 1 ≡ g 0 + 1 - s = omega (arith, start) in
    ap (λ (m : ℕ). find test (map g (range_with_len 0 m))) one
    ∙ (ap (λ (m : ℕ). find test (m ∷ [])) start
    ∙ ap (λ (m : ℕ). find test (range_with_len s m)) all)
find_risen g test s (suc n) start rises steps =
    ap (λ (xs : List ℕ). find test (map g xs)) (range_more 0 (suc n)
    ∙ (ap (λ (xs : List ℕ). xs ++ (0 + suc n) ∷ []) ready
    ∙ ap (λ (m : ℕ). range_with_len 0 (n + 1) ++ m ∷ []) last))
    ∙ (ap (find test) (map-append g (range_with_len 0 (n + 1)) (suc n ∷ []))
    ∙ (find_last test (map g (range_with_len 0 (n + 1))) (range_with_len s (g n + 1 - s)) (g (suc n))
    (find_risen g test s n start rises steps)
    ∙ by_step (cases_eq (g (suc n)) (g n))))
  where
    last : 0 + suc n ≡ suc n
    last = omega arith

    above : s ≤ g n
    above = omega (arith, start, risen_above g n rises)

    more_is : suc n ≡ n + 1
    more_is = omega arith

    ready : range_with_len 0 (suc n) ≡ range_with_len 0 (n + 1)
    ready = ap (range_with_len 0) more_is

    next : g (n + 1) ≡ g (suc n)
    next = ap g (sym more_is)

    by_step : (g (suc n) ≡ g n) ⊎ (g (suc n) ≡ g n → ⊥) →
        find test (range_with_len s (g n + 1 - s) ++ g (suc n) ∷ []) ≡ find test (range_with_len s (g (suc n) + 1 - s))
    by_step (inl same) =
        find_again test (range_with_len s (g n + 1 - s)) (g (suc n))
        (λ none. none_found test s (g n + 1 - s) (g (suc n)) none (omega (arith, same, above))
        (omega (arith, same, above)))
        ∙ ap (λ (m : ℕ). find test (range_with_len s (m + 1 - s))) (sym same)
    by_step (inr other) =
        let more : g (suc n) ≡ s + (g n + 1 - s) = omega (arith, other, rises n, steps n, next, above) in
        let long : (g n + 1 - s) + 1 ≡ g (suc n) + 1 - s = omega (arith, more, above) in
        ap (λ (m : ℕ). find test (range_with_len s (g n + 1 - s) ++ m ∷ [])) more
        ∙ (ap (find test) (sym (range_more s (g n + 1 - s)))
        ∙ ap (λ (m : ℕ). find test (range_with_len s m)) long)

-- the periods of messages rise so
first_told : (plan : Plan) (clear : List (List ℕ)) → period_told plan clear 0 ≡ plan.site.first_period
first_told plan clear =
    let none : 0 ≡ min (0 * plan.site.every) (length clear - 1) = omega arith in
    subst (λ (k : ℕ). period_of plan k ≡ plan.site.first_period) none (period_of_first plan)

periods_rising : (plan : Plan) (clear : List (List ℕ)) (a : ℕ) → AreInRange plan.site →
    (period_told plan clear a ≤ period_told plan clear (a + 1)) × (period_told plan clear
    (a + 1) ≤ period_told plan clear a + 1)
periods_rising plan clear a range =
    let grown : (a + 1) * plan.site.every ≡ a * plan.site.every + plan.site.every = grind arith in
    let long : plan.site.every ≤ crypto_length plan.site = longer plan.site.every plan.site.cryptos (omega
    (arith, range.cryptos.0)) in
    let low : ℕ = min (a * plan.site.every) (length clear - 1) in
    let high : ℕ = min ((a + 1) * plan.site.every) (length clear - 1) in
    let rises = periods_rise plan low high range (omega (arith, grown)) in
    let near = periods_rise plan high (low + crypto_length plan.site) range (omega (arith, grown, long)) in
    (rises, omega (arith, near, periods_step plan low range))
  where
    longer : (e c : ℕ) → 1 ≤ c → e ≤ e * c
    longer e c some = grind arith

pub periods_found : (plan : Plan) (clear : List (List ℕ)) (test : ℕ → Bool) → AreInRange plan.site →
    find test (map (period_told plan clear) (range_with_len 0 (closing_number plan.site (length clear) + 1)))
    ≡ find test (range_with_len plan.site.first_period (period_of plan (length clear - 1) + 1 - plan.site.first_period))
periods_found plan clear test range =
    find_risen (period_told plan clear) test plan.site.first_period (closing_number plan.site (length clear))
    (first_told plan clear)
    (λ a. (periods_rising plan clear a range).0) (λ a. (periods_rising plan clear a range).1)
    ∙ ap (λ (n : ℕ). find test (range_with_len plan.site.first_period (period_of plan n + 1 - plan.site.first_period)))
    (omega (arith, closing_covers plan.site (length clear) range))
