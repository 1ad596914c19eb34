-- The book of a field, event by event.
use Rattle.std.proofs.Common.{arith, ◌≡◌, ◌∙◌, ℕ, zero, suc, ◌+◌, ◌-◌, ◌^◌, ◌<◌, ◌≤◌, List, [], ◌∷◌, ◌++◌, refl, ap}
use Rattle.std.proofs.Common.{sym}
use Rattle.std.proofs.Common.{subst}
use Rattle.std.proofs.Common.{append_assoc, length, take, true}
use Rattle.std.proofs.Math.Pow.{pow_mono}
use Rattle.std.proofs.lemmas.Bool.Decides.{nat_tests}
use Rattle.std.proofs.lemmas.List.{length-reverse, length-take, replicate-append-replicate, reverse-append, take_more}
use Rattle.std.proofs.lemmas.List.Elements.{All-append, All-cons, All-head, All-nil, All-tail, All-take}
use Rattle.std.specs.Prelude.{All, false, get_or, max, nat_le, replicate, reverse}
use Rattle.sd_site_cards.specs.SiteFields.{SiteFields}
use Rattle.sd_book.specs.declared.command.Command.{Command}
use Rattle.sd_book.specs.declared.command.Command.TheVariants.{Period}
use Rattle.sd_book.specs.Limits.{IsDraft, IsWithinLimits}
use Rattle.sd_book.specs.Commands.{last_period}
use Rattle.sd_spec.specs.declared.event.Event.{Event}
use Rattle.sd_spec.specs.Events.{is_of, sends_with}
use Rattle.sd_spec.specs.Book.{book_after_event, book_with_command, event_book, with_periods_to, sends}
use Rattle.sd_spec.proofs.Filled.{filled_ends}
use Rattle.sd_spec.proofs.Fitting.{event_books_fit, fronts_fit, revoked_few}
use Rattle.sd_spec.proofs.Sends.{sends_are_counted}
use Rattle.sd_field.specs.Laid.{IsBookOfEvents}
use Rattle.sd_field.specs.declared.laid.Laid.{Laid}

-- one Period more
pub periods_more : (n : ℕ) (book : List Command) →
    (book ++ replicate n Period) ++ Period ∷ [] ≡ book ++ replicate (n + 1) Period
periods_more n book =
    append_assoc book (replicate n Period) (Period ∷ []) ∙ ap (λ (rest : List Command). book ++ rest) (turned n)
  where
    turned : (n : ℕ) → replicate n Period ++ Period ∷ [] ≡ replicate (n + 1) Period
    turned zero = refl
    turned (suc n) =
        let more : suc n + 1 ≡ suc (n + 1) = omega arith in
        rw more (ap (λ (rest : List Command). Period ∷ rest) (turned n))

-- as many Periods as were missing fill the book
pub filled_by : (q last old : ℕ) (book now : List Command) → old ≡ last_period book → old ≤ last →
    last - old ≤ q - old → q ≤ last → now ≡ book ++ replicate (last - old) Period → now ≡ with_periods_to q book
unfolding with_periods_to
filled_by q last old book now begins least most all is =
    let same : last - old ≡ q - last_period book = omega (arith, begins, least, most, all) in
    is ∙ ap (λ (n : ℕ). book ++ replicate n Period) same

pub last_by : (q last old : ℕ) (book now : List Command) → old ≡ last_period book → old ≤ last →
    last - old ≤ q - old → q ≤ last → now ≡ with_periods_to q book → last ≡ last_period now
last_by q last old book now begins least most all is =
    let ends : last_period now ≡ max q (last_period book) = ap last_period is ∙ filled_ends q book in
    omega (arith, begins, least, most, all, ends)

-- no more clear packets are sent than there are
pub sends_low : (m : ℕ) (past : List Event) → sends m past ≤ m
sends_low m past = let all = sends_are_counted m past in omega (arith, all)

-- the book of one event more
pub laid_on : (site : SiteFields) (m : ℕ) (event : Event) (past : List Event) (s t : Laid) →
    IsBookOfEvents site m past s →
    t.draft.height ≡ s.draft.height → t.draft.commands ≡ book_after_event site m s.sends event s.draft.commands →
    t.last ≡ last_period t.draft.commands → t.sends ≡ sends_with m event s.sends →
    IsBookOfEvents site m (event ∷ past) t
unfolding event_book sends
laid_on site m event past s t laid height commands last sent = record {
  height = height ∙ laid.height;
  commands = commands ∙ (ap (λ (k : ℕ). book_after_event site m k event s.draft.commands) laid.sends
      ∙ ap (book_after_event site m (sends m past) event) laid.commands);
  last = last;
  sends = sent ∙ ap (sends_with m event) laid.sends;
}

-- a command of a period that a book can have is taken, and another isn't
pub command_within : (q : ℕ) (command : Command) (book : List Command) → q ≤ 1023 →
    with_periods_to q book ++ command ∷ [] ≡ book_with_command q command book
unfolding book_with_command
command_within q command book low =
    let test : nat_le q 1023 ≡ true = grind (arith, nat_tests, low) in
    rw test refl

pub command_beyond : (q : ℕ) (command : Command) (book : List Command) → 1023 < q →
    book ≡ book_with_command q command book
unfolding book_with_command
command_beyond q command book high =
    let test : nat_le q 1023 ≡ false = grind (arith, nat_tests, high) in
    rw test refl

-- the events that are taken with the next one
pub past_more : (events : List Event) (i : ℕ) (event : Event) → i < length events → get_or events i event ≡ event →
    reverse (take (i + 1) events) ≡ event ∷ reverse (take i events)
past_more events i event within is =
    ap reverse (take_more events i event within ∙ ap (λ (e : Event). take i events ++ e ∷ []) is)
    ∙ reverse-append (take i events) (event ∷ [])

-- in a low tree such a front is a book within the limits
pub front_within : (d : ℕ) (front rest : List Command) → d ≤ 6 → IsWithinLimits d (front ++ rest) →
    IsWithinLimits d front
front_within d front rest low fits =
    let draft = fronts_fit d front rest low fits in
    let most : 2 ^ d ≤ 2 ^ 6 = pow_mono {i = d} {j = 6} low in
    record {
      leaves = draft.leaves;
      lines = draft.lines;
      periods = draft.periods;
      revoked = λ q within. omega (arith, most, revoked_few d front q);
    }

-- one of the Periods that fill a book
pub period_fits : (d q last old : ℕ) (book now : List Command) → d ≤ 6 → IsWithinLimits d (with_periods_to q book) →
    old ≡ last_period book → old ≤ last → last < q → now ≡ book ++ replicate (last - old) Period →
    IsDraft d (now ++ Period ∷ [])
unfolding with_periods_to
period_fits d q last old book now low fits begins least before is =
    let n : ℕ = last - old + 1 in
    let rest : ℕ = q - old - n in
    let all : q - last_period book ≡ n + rest = omega (arith, begins, least, before) in
    let here : now ++ Period ∷ [] ≡ book ++ replicate n Period =
    ap (λ (xs : List Command). xs ++ Period ∷ []) is ∙ periods_more (last - old) book in
    let split : book ++ replicate (q - last_period book) Period
    ≡ (book ++ replicate n Period) ++ replicate rest Period =
    ap (λ (k : ℕ). book ++ replicate k Period) all
    ∙ (ap (λ (xs : List Command). book ++ xs) (sym (replicate-append-replicate n rest Period))
    ∙ sym (append_assoc book (replicate n Period) (replicate rest Period))) in
    subst (IsDraft d) (sym here)
    (fronts_fit d (book ++ replicate n Period) (replicate rest Period) low (subst (IsWithinLimits d) split fits))

-- the book of the first events of a field
pub taken_fits : (site : SiteFields) (m n : ℕ) (events : List Event) → site.height ≤ 6 → length events ≤ 524288 →
    All (λ event. is_of site.height event ≡ true) events →
    IsWithinLimits site.height (event_book site m (reverse (take n events)))
taken_fits site m n events low few all =
    let long = length-take n events in
    event_books_fit site m site.height (reverse (take n events)) low
    (omega (arith, few, long, length-reverse (take n events)))
    (all_reverse (take n events) (All-take IsIn n events all))
  where
    IsIn : Event → Type 0
    IsIn event = is_of site.height event ≡ true

    all_reverse : (xs : List Event) → All IsIn xs → All IsIn (reverse xs)
    all_reverse [] every = every
    all_reverse (x ∷ xs) every =
        subst (All IsIn) (sym (reverse-append (x ∷ []) xs))
        (All-append IsIn (reverse xs) (x ∷ []) (all_reverse xs (All-tail IsIn x xs every))
        (All-cons IsIn x [] (All-head IsIn x xs every) (All-nil IsIn)))

-- and with the next event
pub next_fits : (site : SiteFields) (m i : ℕ) (events : List Event) (event : Event) (s : Laid) → site.height ≤ 6 →
    length events ≤ 524288 → All (λ event. is_of site.height event ≡ true) events → i < length events →
    get_or events i event ≡ event → IsBookOfEvents site m (reverse (take i events)) s →
    IsWithinLimits s.draft.height (book_after_event site m s.sends event s.draft.commands)
unfolding event_book
next_fits site m i events event s low few all within is laid =
    let past : List Event = reverse (take i events) in
    let fits : IsWithinLimits site.height (event_book site m (event ∷ past)) =
    subst (λ (xs : List Event). IsWithinLimits site.height (event_book site m xs)) (past_more events i event within is)
    (taken_fits site m (i + 1) events low few all) in
    subst (λ (d : ℕ). IsWithinLimits d (book_after_event site m s.sends event s.draft.commands)) (sym laid.height)
    (subst (λ (k : ℕ). IsWithinLimits site.height (book_after_event site m k event s.draft.commands)) (sym laid.sends)
    (subst (λ (book : List Command). IsWithinLimits site.height (book_after_event site m (sends m past) event book))
    (sym laid.commands) fits))
