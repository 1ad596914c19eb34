-- Books with Periods after them.
use Rattle.std.proofs.Common.{arith, ◌≡◌, ℕ, zero, suc, ◌+◌, ◌-◌, ◌≤◌, List, ◌∷◌, ◌++◌, ap, sym, ◌∙◌}
use Rattle.std.proofs.Common.{inl, inr, append_assoc, append-nil}
use Rattle.std.specs.Prelude.{max, replicate}
use Rattle.std.proofs.lemmas.Bool.{cases_lt}
use Rattle.std.proofs.lemmas.List.{replicate-append-replicate}
use Rattle.sd_book.specs.declared.command.Command.{Command}
use Rattle.sd_book.specs.declared.command.Command.TheVariants.{Period}
use Rattle.sd_book.specs.Commands.{commands_until, last_period}
use Rattle.sd_book.proofs.Cuts.{period_none, period_period, period_append, until_after, until_period, until_end}
use Rattle.sd_spec.specs.Book.{with_periods_to}

-- n Periods begin n periods
pub periods_counted : (n : ℕ) → last_period (replicate n Period) ≡ n
periods_counted zero = period_none
periods_counted (suc n) = omega (arith, period_period (replicate n Period), periods_counted n)

-- a filled book ends with that period, or with a later one that it had
pub filled_ends : (q : ℕ) (book : List Command) → last_period (with_periods_to q book) ≡ max q (last_period book)
unfolding with_periods_to
filled_ends q book = omega (
  arith,
  period_append book (replicate (q - last_period book) Period),
  periods_counted (q - last_period book),
)

-- a book that is filled twice is filled once
pub filled_again : (p q : ℕ) (book : List Command) → p ≤ q →
    with_periods_to q (with_periods_to p book) ≡ with_periods_to q book
unfolding with_periods_to
filled_again p q book below =
    let ends = filled_ends p book in
    let count : (p - last_period book) + (q - last_period (with_periods_to p book)) ≡ q - last_period book =
    omega (arith, ends, below) in
    append_assoc book (replicate (p - last_period book) Period)
    (replicate (q - last_period (with_periods_to p book)) Period)
    ∙ ap (λ (more : List Command). book ++ more)
    (replicate-append-replicate (p - last_period book) (q - last_period (with_periods_to p book)) Period
    ∙ ap (λ (n : ℕ). replicate n Period) count)

-- a Period after a book, and what comes after it, decides none of its periods
pub until_cut : (q : ℕ) (xs ys : List Command) → q ≤ last_period xs →
    commands_until q (xs ++ Period ∷ ys) ≡ commands_until q xs
until_cut q xs ys within = elim (cases_lt q (last_period xs)) [
  | inl before ↦ until_after q xs (Period ∷ ys) before
  | inr last ↦ until_period q xs ys (omega (arith, within, last)) ∙ sym (until_end q xs last)
]

-- Periods after a book decide none of its periods
until_replicated : (n q : ℕ) (book : List Command) → q ≤ last_period book →
    commands_until q (book ++ replicate n Period) ≡ commands_until q book
until_replicated zero q book within = ap (commands_until q) (append-nil book)
until_replicated (suc n) q book within = until_cut q book (replicate n Period) within

pub filled_keeps : (p q : ℕ) (book : List Command) → q ≤ last_period book →
    commands_until q (with_periods_to p book) ≡ commands_until q book
unfolding with_periods_to
filled_keeps p q book within = until_replicated (p - last_period book) q book within
