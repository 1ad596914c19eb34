-- The periods of the book that events make, and what later events change of them.
use Rattle.std.proofs.Common.{arith, ◌≡◌, ℕ, zero, suc, ◌+◌, ◌-◌, ◌/◌, ◌<◌, ◌≤◌, List, [], ◌∷◌, ◌++◌, refl, ap}
use Rattle.std.proofs.Common.{◌∙◌, Bool, true, false, inl, inr}
use Rattle.std.specs.Prelude.{◌⊎◌, max, min, nat_le}
use Rattle.std.proofs.lemmas.Bool.{cases_lt}
use Rattle.std.proofs.lemmas.Bool.Decides.{nat_tests}
use Rattle.sd_site_cards.specs.SiteFields.{SiteFields, AreInRange}
use Rattle.sd_book.specs.declared.command.Command.{Command}
use Rattle.sd_book.specs.Limits.{most_periods}
use Rattle.sd_book.specs.Commands.{is_within, last_period, commands_until}
use Rattle.sd_book.proofs.Cuts.{period_none, period_subscribe, period_revoke, period_append, until_after}
use Rattle.sd_spec.specs.Plan.{crypto_of, period_in, period_of}
use Rattle.sd_spec.specs.declared.event.Event.{Event}
use Rattle.sd_spec.specs.declared.event.Event.TheVariants.{Subscribe, Revoke, Send, Offer, Lose, Off, On}
use Rattle.sd_spec.specs.Events.{is_of, sends_with}
use Rattle.sd_spec.specs.Book.{sends, open_period, period_after, period_to_reach, with_periods_to, book_with_command}
use Rattle.sd_spec.specs.Book.{book_after_event}
use Rattle.sd_spec.specs.Book.{event_book}
use Rattle.sd_spec.specs.Book.{plan_after, taken_in, accepted_at}
use Rattle.sd_spec.proofs.Filled.{filled_ends, filled_keeps}
use Rattle.sd_spec.proofs.Sends.{sends_up, sends_rise, open_rises, after_rises, reached_rises, after_is_above}
use Rattle.sd_spec.proofs.Sends.{reached_within, reached_short}

-- what one event does to the book: a send fills it, an accepted command is added, and all others leave it
pub data Turn (site : SiteFields) (m k : ℕ) (event : Event) (book : List Command) : Type 0 where
  fills : book_after_event site m k event book ≡ with_periods_to (period_to_reach site (sends_with m event k)) book
      → accepted_at site k event ≡ [] → Turn site m k event book
  adds : (command : Command) → last_period (command ∷ []) ≡ 0 → ((d : ℕ) → is_within d command ≡ is_of d event)
      → period_after site k ≤ most_periods
      → book_after_event site m k event book ≡ with_periods_to (period_after site k) book ++ command ∷ []
      → sends_with m event k ≡ k → accepted_at site k event ≡ (period_after site k, command) ∷ []
      → Turn site m k event book
  leaves : book_after_event site m k event book ≡ book → sends_with m event k ≡ k → accepted_at site k event ≡ []
      → Turn site m k event book

-- a command is accepted if a book can have its period
commands_turn : (site : SiteFields) (m k : ℕ) (event : Event) (command : Command) (book : List Command) (b : Bool)
    → nat_le (period_after site k) most_periods ≡ b → last_period (command ∷ []) ≡ 0
    → ((d : ℕ) → is_within d command ≡ is_of d event)
    → book_after_event site m k event book ≡ book_with_command (period_after site k) command book →
    sends_with m event k ≡ k
    → accepted_at site k event ≡ taken_in (period_after site k) command → Turn site m k event book
unfolding book_with_command
commands_turn site m k event command book true test none tree is same taken =
    adds command none tree (grind (arith, nat_tests, test))
    (is ∙ rw test refl) same (taken ∙ rw test refl)
commands_turn site m k event command book false test none tree is same taken =
    leaves (is ∙ rw test refl) same (taken ∙ rw test refl)

pub turn_of : (site : SiteFields) (m k : ℕ) (event : Event) (book : List Command) → Turn site m k event book
turn_of site m k (Subscribe u) book = commands_turn site m k (Subscribe u) (Command.Subscribe u) book
    (nat_le (period_after site k) most_periods) refl (period_subscribe u [] ∙ period_none) (λ d. refl) refl refl refl
turn_of site m k (Revoke u) book = commands_turn site m k (Revoke u) (Command.Revoke u) book
    (nat_le (period_after site k) most_periods) refl (period_revoke u [] ∙ period_none) (λ d. refl) refl refl refl
turn_of site m k Send book = fills refl refl
turn_of site m k (Offer u) book = leaves refl refl refl
turn_of site m k (Lose u) book = leaves refl refl refl
turn_of site m k (Off u) book = leaves refl refl refl
turn_of site m k (On u) book = leaves refl refl refl

-- the last period with a command more in a filled book
pub added_ends : (q : ℕ) (command : Command) (book : List Command) → last_period (command ∷ []) ≡ 0 →
    last_period (with_periods_to q book ++ command ∷ []) ≡ max q (last_period book)
added_ends q command book none =
    omega (arith, period_append (with_periods_to q book) (command ∷ []), filled_ends q book, none)

-- the book has no period that no book can have
pub book_short : (site : SiteFields) (m : ℕ) (past : List Event) → last_period (event_book site m past) ≤ most_periods
unfolding event_book sends
book_short site m [] = omega (arith, period_none)
book_short site m (event ∷ past) =
    let before = book_short site m past in
    elim (turn_of site m (sends m past) event (event_book site m past)) [
      | fills is none ↦
          omega (
            arith,
            ap last_period is,
            before,
            filled_ends (period_to_reach site (sends_with m event (sends m past))) (event_book site m past),
            reached_short site (sends_with m event (sends m past)),
          )
      | adds command none tree most is same taken ↦
          omega (
            arith,
            ap last_period is,
            before,
            most,
            added_ends (period_after site (sends m past)) command (event_book site m past) none,
          )
      | leaves is same none ↦ omega (arith, ap last_period is, before)
    ]

-- the book has the period that it has to have
pub book_reaches : (site : SiteFields) (m : ℕ) (past : List Event) →
    period_to_reach site (sends m past) ≤ last_period (event_book site m past)
unfolding event_book sends
book_reaches site m [] = omega arith
book_reaches site m (event ∷ past) =
    let before = book_reaches site m past in
    elim (turn_of site m (sends m past) event (event_book site m past)) [
      | fills is none ↦
          omega (
            arith,
            ap last_period is,
            filled_ends (period_to_reach site (sends_with m event (sends m past))) (event_book site m past),
          )
      | adds command none tree most is same taken ↦
          omega (
            arith,
            ap last_period is,
            before,
            ap (period_to_reach site) same,
            added_ends (period_after site (sends m past)) command (event_book site m past) none,
          )
      | leaves is same none ↦ omega (arith, ap last_period is, before, ap (period_to_reach site) same)
    ]

-- and none above that of the next command
pub book_within : (site : SiteFields) (m : ℕ) (past : List Event) → AreInRange site →
    last_period (event_book site m past) ≤ period_after site (sends m past)
unfolding event_book sends
book_within site m [] r = omega (arith, period_none)
book_within site m (event ∷ past) r =
    let before = book_within site m past r in
    let up = after_rises site (sends m past) (sends_with m event (sends m past)) r (sends_up m (sends m past) event) in
    elim (turn_of site m (sends m past) event (event_book site m past)) [
      | fills is none ↦
          omega (
            arith,
            ap last_period is,
            before,
            up,
            reached_within site (sends_with m event (sends m past)),
            filled_ends (period_to_reach site (sends_with m event (sends m past))) (event_book site m past),
          )
      | adds command none tree most is same taken ↦
          omega (
            arith,
            ap last_period is,
            before,
            up,
            added_ends (period_after site (sends m past)) command (event_book site m past) none,
          )
      | leaves is same none ↦ omega (arith, ap last_period is, before, up)
    ]

-- one event more changes none of the periods that were reached
pub one_event_more : (site : SiteFields) (m : ℕ) (event : Event) (past : List Event) (q : ℕ) → 0 < sends m past →
    q ≤ period_to_reach site (sends m past) →
    commands_until q (event_book site m (event ∷ past)) ≡ commands_until q (event_book site m past)
unfolding event_book
one_event_more site m event past q some within =
    let inside : q ≤ last_period (event_book site m past) = omega (arith, within, book_reaches site m past) in
    elim (turn_of site m (sends m past) event (event_book site m past)) [
      | fills is none ↦
          ap (commands_until q) is
          ∙ filled_keeps (period_to_reach site (sends_with m event (sends m past))) q (event_book site m past) inside
      | adds command none tree most is same taken ↦
          let above : q < last_period (with_periods_to (period_after site (sends m past)) (event_book site m past)) =
          omega (
            arith,
            within,
            after_is_above site (sends m past) some,
            filled_ends (period_after site (sends m past)) (event_book site m past),
          ) in
          ap (commands_until q) is
          ∙ (until_after q (with_periods_to (period_after site (sends m past)) (event_book site m past)) (command ∷ [])
          above
          ∙ filled_keeps (period_after site (sends m past)) q (event_book site m past) inside)
      | leaves is same none ↦ ap (commands_until q) is
    ]

-- nor do later events
pub later_events : (site : SiteFields) (m : ℕ) (later past : List Event) (q : ℕ) → AreInRange site → 0 < sends m past →
    q ≤ period_to_reach site (sends m past) →
    commands_until q (event_book site m (later ++ past)) ≡ commands_until q (event_book site m past)
later_events site m [] past q r some within = refl
later_events site m (event ∷ later) past q r some within =
    let more = sends_rise m later past in
    one_event_more site m event (later ++ past) q (omega (arith, some, more))
    (omega (arith, within, reached_rises site (sends m past) (sends m (later ++ past)) r more))
    ∙ later_events site m later past q r some within

-- the period of a packet in a book that has enough periods for it
period_by : (n first last most : ℕ) → last ≤ most → min (first + n) most ≤ last →
    first + min n (last - first) ≡ max first (min (first + n) most)
period_by n first last most short enough = omega (arith, short, enough)

-- the book has the period of each packet that was sent, if a book can have it
pub sent_reached : (site : SiteFields) (k j : ℕ) → AreInRange site → j < k →
    min (open_period site j) most_periods ≤ period_to_reach site k
sent_reached site zero j r below = absurd (omega (arith, below))
sent_reached site (suc k) j r below = omega (arith, open_rises site j k r (omega (arith, below)))

-- the period of a packet that was sent depends on no command
pub period_is : (site : SiteFields) (m : ℕ) (past : List Event) (j : ℕ) → AreInRange site → j < sends m past →
    period_of (plan_after site m past) j ≡ max site.first_period (min (open_period site j) most_periods)
unfolding period_of period_in
period_is site m past j r below =
    period_by (crypto_of site j / site.span) site.first_period (last_period (event_book site m past)) most_periods
    (book_short site m past)
    (omega (arith, sent_reached site (sends m past) j r below, book_reaches site m past))

-- it is a period that was reached, or the site's first, above all that a book can have
pub period_kept : (site : SiteFields) (m : ℕ) (past : List Event) (j : ℕ) → AreInRange site → j < sends m past →
    (period_of (plan_after site m past) j ≤ period_to_reach site (sends m past))
    ⊎ ((most_periods < period_of (plan_after site m past) j) × (period_to_reach site (sends m past) ≡ most_periods)
    × (last_period (event_book site m past) ≡ most_periods))
period_kept site m past j r below =
    let is = period_is site m past j r below in
    let up = sent_reached site (sends m past) j r below in
    let most = reached_short site (sends m past) in
    elim (cases_lt most_periods site.first_period) [
      | inl past_all ↦ inr (
        omega (arith, is, past_all),
        omega (arith, up, most, past_all),
        omega (arith, up, most, past_all, book_reaches site m past, book_short site m past),
      )
      | inr low ↦ inl (omega (arith, is, low, up))
    ]
