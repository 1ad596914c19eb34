-- The book that events make, and each front of it, is within the limits of a book.
use Rattle.std.proofs.Common.{arith, ◌≡◌, ℕ, zero, suc, ◌+◌, ◌-◌, ◌^◌, ◌<◌, ◌≤◌, List, [], ◌∷◌, ◌++◌, refl, ap, sym}
use Rattle.std.proofs.Common.{◌∙◌}
use Rattle.std.proofs.Common.{true, length, length-append, subst}
use Rattle.std.specs.Prelude.{replicate, All}
use Rattle.std.proofs.Math.Pow.{pow_mono}
use Rattle.std.proofs.lemmas.List.{length-replicate}
use Rattle.std.proofs.lemmas.List.Elements.{All-nil, All-cons, All-head, All-tail, All-append}
use Rattle.std.proofs.lemmas.List.Sums.{length-filter, count_by-le-length}
use Rattle.std.proofs.lemmas.List.FromFn.{length-range_with_len}
use Rattle.sd_base.proofs.Lists.{all_first}
use Rattle.sd_tree_keys.specs.Leaves.{leaves}
use Rattle.sd_site_cards.specs.SiteFields.{SiteFields, AreInRange}
use Rattle.sd_book.specs.declared.command.Command.{Command}
use Rattle.sd_book.specs.declared.command.Command.TheVariants.{Period}
use Rattle.sd_book.specs.Commands.{commands_until, is_revoked, is_within, last_period, revoked}
use Rattle.sd_book.specs.Limits.{IsDraft, IsWithinLimits}
use Rattle.sd_book.proofs.Cuts.{period_none, period_append}
use Rattle.sd_spec.specs.Plan.{IsPlan}
use Rattle.sd_spec.specs.declared.event.Event.{Event}
use Rattle.sd_spec.specs.Events.{is_of, sends_with}
use Rattle.sd_spec.specs.Book.{sends, period_after, period_to_reach, with_periods_to, event_book, plan_after}
use Rattle.sd_spec.proofs.Filled.{filled_ends}
use Rattle.sd_spec.proofs.Books.{fills, adds, leaves as stays, turn_of, book_short}

-- no more leaves are revoked than a tree has
pub revoked_few : (d : ℕ) (commands : List Command) (q : ℕ) → length (revoked d commands q) ≤ 2 ^ d
revoked_few d commands q =
    let kept = length-filter (is_revoked (commands_until q commands)) (leaves d) in
    let most = count_by-le-length (is_revoked (commands_until q commands)) (leaves d) in
    omega (arith, kept, most, length-range_with_len 0 (2 ^ d))

-- Periods are of each tree
periods_of_tree : (d n : ℕ) → All (λ command. is_within d command ≡ true) (replicate n Period)
periods_of_tree d zero = All-nil (λ command. is_within d command ≡ true)
periods_of_tree d (suc n) =
    All-cons (λ command. is_within d command ≡ true) Period (replicate n Period) refl (periods_of_tree d n)

-- so a filled book is of the tree of the book
filled_of_tree : (d q : ℕ) (book : List Command) → All (λ command. is_within d command ≡ true) book →
    All (λ command. is_within d command ≡ true) (with_periods_to q book)
unfolding with_periods_to
filled_of_tree d q book all =
    All-append (λ command. is_within d command ≡ true) book (replicate (q - last_period book) Period) all
    (periods_of_tree d (q - last_period book))

-- the book is of the tree of its events
pub book_of_tree : (site : SiteFields) (m d : ℕ) (past : List Event) → All (λ event. is_of d event ≡ true) past →
    All (λ command. is_within d command ≡ true) (event_book site m past)
unfolding event_book sends
book_of_tree site m d [] all = All-nil (λ command. is_within d command ≡ true)
book_of_tree site m d (event ∷ past) all =
    let before = book_of_tree site m d past (All-tail (λ event. is_of d event ≡ true) event past all) in
    let here = All-head (λ event. is_of d event ≡ true) event past all in
    elim (turn_of site m (sends m past) event (event_book site m past)) [
      | fills is none ↦
          subst (All (λ command. is_within d command ≡ true)) (sym is)
          (filled_of_tree d (period_to_reach site (sends_with m event (sends m past))) (event_book site m past) before)
      | adds command none tree most is same taken ↦
          subst (All (λ command. is_within d command ≡ true)) (sym is)
          (All-append (λ command. is_within d command ≡ true)
          (with_periods_to (period_after site (sends m past)) (event_book site m past)) (command ∷ [])
          (filled_of_tree d (period_after site (sends m past)) (event_book site m past) before)
          (All-cons (λ command. is_within d command ≡ true) command [] (tree d ∙ here)
          (All-nil (λ command. is_within d command ≡ true))))
      | stays is same none ↦ subst (All (λ command. is_within d command ≡ true)) (sym is) before
    ]

-- a filled book is longer by the Periods that it has more
filled_long : (q : ℕ) (book : List Command) →
    length (with_periods_to q book) + last_period book ≡ length book + last_period (with_periods_to q book)
unfolding with_periods_to
filled_long q book = omega (
  arith,
  length-append book (replicate (q - last_period book) Period),
  length-replicate (q - last_period book) Period,
  filled_ends q book,
)

-- an event adds one command at most, beside Periods
pub book_long : (site : SiteFields) (m : ℕ) (past : List Event) →
    length (event_book site m past) ≤ length past + last_period (event_book site m past)
unfolding event_book sends
book_long site m [] = omega (arith, period_none)
book_long site m (event ∷ past) =
    let before = book_long site m past in
    let book : List Command = event_book site m past in
    elim (turn_of site m (sends m past) event book) [
      | fills is none ↦
          omega (
            arith,
            ap length is,
            ap last_period is,
            before,
            filled_long (period_to_reach site (sends_with m event (sends m past))) book,
          )
      | adds command none tree most is same taken ↦
          omega (
            arith,
            ap length is,
            ap last_period is,
            before,
            filled_long (period_after site (sends m past)) book,
            length-append (with_periods_to (period_after site (sends m past)) book) (command ∷ []),
            period_append (with_periods_to (period_after site (sends m past)) book) (command ∷ []),
            none,
          )
      | stays is same none ↦ omega (arith, ap length is, ap last_period is, before)
    ]

-- in a low tree they are few
few_revoked : (d : ℕ) (commands : List Command) (q : ℕ) → d ≤ 6 → length (revoked d commands q) ≤ 64
few_revoked d commands q low =
    let most : 2 ^ d ≤ 2 ^ 6 = pow_mono {i = d} {j = 6} low in
    omega (arith, most, revoked_few d commands q)

-- the book of such events is within the limits
pub event_books_fit : (site : SiteFields) (m d : ℕ) (past : List Event) → d ≤ 6 → length past ≤ 524288 →
    All (λ event. is_of d event ≡ true) past → IsWithinLimits d (event_book site m past)
event_books_fit site m d past low few all = record {
  leaves = book_of_tree site m d past all;
  lines = omega (arith, few, book_long site m past, book_short site m past);
  periods = book_short site m past;
  revoked = λ q within. omega (arith, few_revoked d (event_book site m past) q low);
}

-- a front of a book within the limits, of a low tree, may be the front of a book
pub fronts_fit : (d : ℕ) (front rest : List Command) → d ≤ 6 → IsWithinLimits d (front ++ rest) → IsDraft d front
fronts_fit d front rest low fits = record {
  leaves = all_first (λ command. is_within d command ≡ true) front rest fits.leaves;
  lines = let most = fits.lines in omega (arith, most, length-append front rest);
  periods = let most = fits.periods in omega (arith, most, period_append front rest);
  revoked = λ q within. omega (arith, few_revoked d front q low);
}

-- the same of the fronts of the book of events
pub event_fronts_fit : (site : SiteFields) (m d : ℕ) (past : List Event) (front rest : List Command) → d ≤ 6 →
    length past ≤ 524288 → All (λ event. is_of d event ≡ true) past → event_book site m past ≡ front ++ rest →
    IsDraft d front
event_fronts_fit site m d past front rest low few all is =
    fronts_fit d front rest low (subst (IsWithinLimits d) is (event_books_fit site m d past low few all))

-- so the site with the book is a plan
pub event_plans_fit : (site : SiteFields) (m : ℕ) (past : List Event) → AreInRange site → site.ca < 2 ^ 16 →
    site.height ≤ 6 → length past ≤ 524288 → All (λ event. is_of site.height event ≡ true) past →
    IsPlan (plan_after site m past)
event_plans_fit site m past r ca low few all = record {
  site = r;
  ca = ca;
  book = event_books_fit site m site.height past low few all;
}
