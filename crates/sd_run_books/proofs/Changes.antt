-- The periods that `status` prints are those in which something changes.
use Rattle.std.proofs.Common.{◌≡◌, ℕ, zero, suc, ◌+◌, ◌-◌, ◌<◌, ◌≤◌, ◌==◌, Bool, true, false, arith, List, refl, sym}
use Rattle.std.proofs.Common.{ap, ◌∙◌}
use Rattle.std.proofs.Common.{inl, inr}
use Rattle.std.specs.Prelude.{Contains, filter, not, ◌||◌}
use Rattle.std.specs.List.{range_with_len}
use Rattle.std.specs.List.Sorted.{IsStrictlyIncreasing}
use Rattle.std.proofs.lemmas.Bool.{cases_lt}
use Rattle.std.proofs.lemmas.Bool.Decides.{nat_tests}
use Rattle.std.proofs.lemmas.List.FromFn.{get_or-range_with_len, length-range_with_len}
use Rattle.std.proofs.lemmas.List.Kept.{IsStrictlyIncreasing-filter}
use Rattle.sd_base.proofs.Ranges.{range_has}
use Rattle.sd_lsd.proofs.Filters.{to_filter}
use Rattle.sd_site_cards.specs.SiteFields.{SiteFields}
use Rattle.sd_book.specs.declared.command.Command.{Command}
use Rattle.sd_book.specs.Commands.{last_period}
use Rattle.sd_book.proofs.Cuts.{revoked_past}
use Rattle.sd_run_books.specs.Apart.{differ}
use Rattle.sd_run_books.specs.Report.{is_active}
use Rattle.sd_run_books.specs.Told.{told_periods}
use Rattle.sd_run_books.specs.Status.{change_periods, is_change, is_entitled}

-- a range ascends
range_ascends : (a n : ℕ) → IsStrictlyIncreasing (range_with_len a n)
range_ascends a n k within =
    let many = length-range_with_len a n in
    let here = get_or-range_with_len a n k 0 (omega (arith, many, within)) in
    let next = get_or-range_with_len a n (k + 1) 0 (omega (arith, many, within)) in
    omega (arith, here, next)

-- they ascend
pub ascending : (site : SiteFields) (commands : List Command) (u : ℕ) →
    IsStrictlyIncreasing (change_periods site commands u)
unfolding change_periods
ascending site commands u =
    IsStrictlyIncreasing-filter (is_change site.first_period (is_entitled site.height commands u))
    (told_periods site commands)
    (range_ascends site.first_period (last_period commands - site.first_period + 1))

-- the first period is one
pub first_is_told : (site : SiteFields) (commands : List Command) (u : ℕ) →
    Contains (change_periods site commands u) site.first_period
unfolding change_periods
first_is_told site commands u =
    let first = site.first_period in
    let here : (first == first) ≡ true = grind (arith, nat_tests) in
    to_filter (is_change first (is_entitled site.height commands u)) (told_periods site commands) first
    (range_has first (last_period commands - first + 1) first (omega arith) (omega arith))
    (ap (λ (b : Bool). b || differ (is_entitled site.height commands u (first - 1))
    (is_entitled site.height commands u first)) here)

-- where nothing differs the two are the same
alike : (here one other : Bool) → (here || differ one other ≡ true → ⊥) → other ≡ one
alike true one other h = absurd (h refl)
alike false true true h = refl
alike false true false h = absurd (h refl)
alike false false true h = absurd (h refl)
alike false false false h = refl

-- a period that isn't printed has what the one before has
same_step : (site : SiteFields) (commands : List Command) (u p : ℕ) → site.first_period ≤ p →
    (Contains (change_periods site commands u) (p + 1) → ⊥) →
    is_entitled site.height commands u (p + 1) ≡ is_entitled site.height commands u p
unfolding change_periods
same_step site commands u p low none =
    let first = site.first_period in
    let last = last_period commands in
    let entitled = is_entitled site.height commands u in
    elim (cases_lt p last) [
      | inl inside ↦
          let there = range_has first (last - first + 1) (p + 1) (omega (arith, low)) (omega (arith, low, inside)) in
          let before : p + 1 - 1 ≡ p = omega arith in
          alike (p + 1 == first) (entitled p) (entitled (p + 1))
          (λ h. none (to_filter (is_change first entitled) (told_periods site commands) (p + 1) there
          (rw before h)))
      | inr past ↦
          ap (λ gone. is_active gone u)
          (revoked_past site.height (p + 1) commands (omega (arith, past))
          ∙ sym (revoked_past site.height p commands past))
    ]

-- up to the next one nothing changes
same_after : (site : SiteFields) (commands : List Command) (u p n : ℕ) → site.first_period ≤ p →
    ((r : ℕ) → p < r → r ≤ p + n → Contains (change_periods site commands u) r → ⊥) →
    is_entitled site.height commands u (p + n) ≡ is_entitled site.height commands u p
same_after site commands u p zero low none =
    let here : p + 0 ≡ p = omega arith in
    ap (is_entitled site.height commands u) here
same_after site commands u p (suc n) low none =
    let one : p + suc n ≡ p + n + 1 = omega arith in
    ap (is_entitled site.height commands u) one
    ∙ same_step site commands u (p + n) (omega (arith, low))
    (none (p + n + 1) (omega arith) (omega (arith, one)))
    ∙ same_after site commands u p n low (λ r above within. none r above (omega (arith, within)))

pub same_until : (site : SiteFields) (commands : List Command) (u p q : ℕ) → site.first_period ≤ p → p ≤ q →
    ((r : ℕ) → p < r → r ≤ q → Contains (change_periods site commands u) r → ⊥) →
    is_entitled site.height commands u q ≡ is_entitled site.height commands u p
same_until site commands u p q low le none =
    let far : p + (q - p) ≡ q = omega (arith, le) in
    ap (is_entitled site.height commands u) (sym far)
    ∙ same_after site commands u p (q - p) low (λ r above within. none r above (omega (arith, within, le)))
