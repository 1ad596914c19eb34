-- The book that events make has each accepted command in its period.
use Rattle.std.proofs.Common.{arith, ◌≡◌, ◌≢◌, ℕ, zero, suc, ◌+◌, ◌-◌, ◌==◌, ◌<◌, List, [], ◌∷◌, ◌++◌, refl, ap, sym}
use Rattle.std.proofs.Common.{◌∙◌, true, false, inl, inr, append-nil}
use Rattle.std.specs.Prelude.{map, filter, max, replicate}
use Rattle.std.proofs.lemmas.Bool.{cases_lt}
use Rattle.std.proofs.lemmas.List.{map-append}
use Rattle.std.proofs.lemmas.Bool.Decides.{nat_tests}
use Rattle.std.proofs.lemmas.List.Elements.{filter-append}
use Rattle.sd_site_cards.specs.SiteFields.{SiteFields, AreInRange}
use Rattle.sd_book.specs.declared.command.Command.{Command}
use Rattle.sd_book.specs.declared.command.Command.TheVariants.{Subscribe, Revoke, Period}
use Rattle.sd_book.specs.Commands.{last_period, commands_in}
use Rattle.sd_book.proofs.Cuts.{period_none, period_subscribe, period_revoke, period_period}
use Rattle.sd_spec.specs.declared.event.Event.{Event}
use Rattle.sd_spec.specs.Events.{sends_with}
use Rattle.sd_spec.specs.Book.{sends, period_after, period_to_reach, with_periods_to, event_book}
use Rattle.sd_spec.specs.Book.{accepted_at, accepted, greatest_period, commands_of}
use Rattle.sd_spec.proofs.Filled.{filled_ends}
use Rattle.sd_spec.proofs.Sends.{sends_up, reached_rises, reached_within}
use Rattle.sd_spec.proofs.Books.{fills, adds, leaves, turn_of, added_ends, book_within}

-- what comes after the Period that ends a period isn't of it
in_before : (q : ℕ) (xs ys : List Command) → q < last_period xs → commands_in (xs ++ ys) q ≡ commands_in xs q
in_before q [] ys before = absurd (omega (arith, before, period_none))
in_before zero (Subscribe u ∷ xs) ys before = ap (λ (rest : List Command). Subscribe u ∷ rest)
    (in_before zero xs ys (omega (arith, before, period_subscribe u xs)))
in_before zero (Revoke u ∷ xs) ys before = ap (λ (rest : List Command). Revoke u ∷ rest)
    (in_before zero xs ys (omega (arith, before, period_revoke u xs)))
in_before zero (Period ∷ xs) ys before = refl
in_before (suc q) (Subscribe u ∷ xs) ys before =
    in_before (suc q) xs ys (omega (arith, before, period_subscribe u xs))
in_before (suc q) (Revoke u ∷ xs) ys before = in_before (suc q) xs ys (omega (arith, before, period_revoke u xs))
in_before (suc q) (Period ∷ xs) ys before = in_before q xs ys (omega (arith, before, period_period xs))

-- a period from the last one on goes on with what comes after it
in_after : (q r : ℕ) (xs ys : List Command) → q ≡ last_period xs + r →
    commands_in (xs ++ ys) q ≡ commands_in xs q ++ commands_in ys r
in_after q r [] ys is = ap (commands_in ys) (omega (arith, is, period_none))
in_after zero r (Subscribe u ∷ xs) ys is = ap (λ (rest : List Command). Subscribe u ∷ rest)
    (in_after zero r xs ys (omega (arith, is, period_subscribe u xs)))
in_after zero r (Revoke u ∷ xs) ys is = ap (λ (rest : List Command). Revoke u ∷ rest)
    (in_after zero r xs ys (omega (arith, is, period_revoke u xs)))
in_after zero r (Period ∷ xs) ys is = absurd (omega (arith, is, period_period xs))
in_after (suc q) r (Subscribe u ∷ xs) ys is = in_after (suc q) r xs ys (omega (arith, is, period_subscribe u xs))
in_after (suc q) r (Revoke u ∷ xs) ys is = in_after (suc q) r xs ys (omega (arith, is, period_revoke u xs))
in_after (suc q) r (Period ∷ xs) ys is = in_after q r xs ys (omega (arith, is, period_period xs))

-- Periods are commands of no period
none_in_periods : (n r : ℕ) → commands_in (replicate n Period) r ≡ []
none_in_periods zero r = refl
none_in_periods (suc n) zero = refl
none_in_periods (suc n) (suc r) = none_in_periods n r

-- Periods after a book add no command to a period
pub in_filled : (p q : ℕ) (book : List Command) → commands_in (with_periods_to p book) q ≡ commands_in book q
unfolding with_periods_to
in_filled p q book = elim (cases_lt q (last_period book)) [
  | inl before ↦ in_before q book (replicate (p - last_period book) Period) before
  | inr last ↦
      in_after q (q - last_period book) book (replicate (p - last_period book) Period) (omega (arith, last))
      ∙ (ap (λ (rest : List Command). commands_in book q ++ rest)
      (none_in_periods (p - last_period book) (q - last_period book)) ∙ append-nil (commands_in book q))
]

-- a command by itself is of period 0
alone_first : (command : Command) → last_period (command ∷ []) ≡ 0 → commands_in (command ∷ []) 0 ≡ command ∷ []
alone_first (Subscribe u) none = refl
alone_first (Revoke u) none = refl
alone_first Period none = absurd (omega (arith, none, period_period [], period_none))

-- and of no other
alone_later : (command : Command) (r : ℕ) → commands_in (command ∷ []) (suc r) ≡ []
alone_later (Subscribe u) r = refl
alone_later (Revoke u) r = refl
alone_later Period r = refl

-- a command is of its period
of_its : (p q : ℕ) (command : Command) → p ≡ q → commands_of q ((p, command) ∷ []) ≡ command ∷ []
unfolding commands_of
of_its p q command is =
    let test : (p == q) ≡ true = grind (arith, nat_tests, is) in rw test refl

-- and of no other
of_other : (p q : ℕ) (command : Command) → p ≢ q → commands_of q ((p, command) ∷ []) ≡ []
unfolding commands_of
of_other p q command apart =
    let test : (p == q) ≡ false = grind (arith, nat_tests, apart) in rw test refl

-- a command by itself, by where its period is
alone_in : (p q r : ℕ) (command : Command) → q ≡ p + r → last_period (command ∷ []) ≡ 0 →
    commands_in (command ∷ []) r ≡ commands_of q ((p, command) ∷ [])
alone_in p q zero command is none =
    alone_first command none ∙ sym (of_its p q command (omega (arith, is)))
alone_in p q (suc r) command is none =
    alone_later command r ∙ sym (of_other p q command (λ same. absurd (omega (arith, is, same))))

-- a command after a book is of its last period
in_added : (p q : ℕ) (command : Command) (book : List Command) → last_period book ≡ p →
    last_period (command ∷ []) ≡ 0 →
    commands_in (book ++ command ∷ []) q ≡ commands_in book q ++ commands_of q ((p, command) ∷ [])
in_added p q command book last none = elim (cases_lt q p) [
  | inl before ↦
      in_before q book (command ∷ []) (omega (arith, before, last))
      ∙ (sym (append-nil (commands_in book q))
      ∙ ap (λ (rest : List Command). commands_in book q ++ rest)
      (sym (of_other p q command (λ same. absurd (omega (arith, before, same))))))
  | inr after ↦
      in_after q (q - p) book (command ∷ []) (omega (arith, after, last))
      ∙ ap (λ (rest : List Command). commands_in book q ++ rest)
      (alone_in p q (q - p) command (omega (arith, after)) none)
]

-- the commands of a period in two lists, one after the other
of_joined : (q : ℕ) (xs ys : List (ℕ × Command)) → commands_of q (xs ++ ys) ≡ commands_of q xs ++ commands_of q ys
unfolding commands_of
of_joined q xs ys =
    ap (map (λ (command : ℕ × Command). command.1)) (filter-append (λ (command : ℕ × Command). command.0 == q) xs ys)
    ∙ map-append (λ (command : ℕ × Command). command.1)
    (filter (λ (command : ℕ × Command). command.0 == q) xs) (filter (λ (command : ℕ × Command). command.0 == q) ys)

-- the greatest period of two lists, one after the other
greatest_joined : (xs ys : List (ℕ × Command)) →
    greatest_period (xs ++ ys) ≡ max (greatest_period xs) (greatest_period ys)
unfolding greatest_period
greatest_joined [] ys = omega arith
greatest_joined (x ∷ xs) ys = omega (arith, greatest_joined xs ys)

greatest_alone : (q : ℕ) (command : Command) → greatest_period ((q, command) ∷ []) ≡ q
unfolding greatest_period
greatest_alone q command = omega arith

-- the accepted commands with no more
none_accepted : (site : SiteFields) (m : ℕ) (event : Event) (past : List Event) →
    accepted_at site (sends m past) event ≡ [] → accepted site m (event ∷ past) ≡ accepted site m past
unfolding accepted
none_accepted site m event past none =
    ap (λ (rest : List (ℕ × Command)). accepted site m past ++ rest) none ∙ append-nil (accepted site m past)

-- and with one more
one_accepted : (site : SiteFields) (m : ℕ) (event : Event) (past : List Event) (one : ℕ × Command) →
    accepted_at site (sends m past) event ≡ one ∷ [] → accepted site m (event ∷ past) ≡ accepted site m past ++ one ∷ []
unfolding accepted
one_accepted site m event past one taken = ap (λ (rest : List (ℕ × Command)). accepted site m past ++ rest) taken

-- the last period of a book that a command fills
filled_within : (site : SiteFields) (m : ℕ) (past : List Event) → AreInRange site →
    last_period (with_periods_to (period_after site (sends m past)) (event_book site m past)) ≡ period_after site
    (sends m past)
filled_within site m past r =
    omega (arith, filled_ends (period_after site (sends m past)) (event_book site m past), book_within site m past r)

-- the commands of each period are the accepted ones of it, in their order
pub commands_are_accepted : (site : SiteFields) (m : ℕ) (past : List Event) (q : ℕ) → AreInRange site →
    commands_in (event_book site m past) q ≡ commands_of q (accepted site m past)
unfolding event_book sends accepted commands_of
commands_are_accepted site m [] q r = refl
commands_are_accepted site m (event ∷ past) q r =
    let before = commands_are_accepted site m past q r in
    let p : ℕ = period_after site (sends m past) in
    elim (turn_of site m (sends m past) event (event_book site m past)) [
      | fills is none ↦
          ap (λ (book : List Command). commands_in book q) is
          ∙ (in_filled (period_to_reach site (sends_with m event (sends m past))) q (event_book site m past)
          ∙ (before ∙ ap (commands_of q) (sym (none_accepted site m event past none))))
      | adds command none tree most is same taken ↦
          ap (λ (book : List Command). commands_in book q) is
          ∙ (in_added p q command (with_periods_to p (event_book site m past)) (filled_within site m past r) none
          ∙ (ap (λ (first : List Command). first ++ commands_of q ((p, command) ∷ []))
          (in_filled p q (event_book site m past) ∙ before)
          ∙ (sym (of_joined q (accepted site m past) ((p, command) ∷ []))
          ∙ ap (commands_of q) (sym (one_accepted site m event past (p, command) taken)))))
      | leaves is same none ↦
          ap (λ (book : List Command). commands_in book q) is
          ∙ (before ∙ ap (commands_of q) (sym (none_accepted site m event past none)))
    ]

none_greatest : (site : SiteFields) (m : ℕ) → greatest_period (accepted site m []) ≡ 0
unfolding accepted greatest_period
none_greatest site m = refl

-- the last period is the greatest of the accepted commands' periods and of the one that was reached
pub last_is_greatest : (site : SiteFields) (m : ℕ) (past : List Event) → AreInRange site →
    last_period (event_book site m past) ≡ max (greatest_period (accepted site m past))
    (period_to_reach site (sends m past))
unfolding event_book sends
last_is_greatest site m [] r = omega (arith, period_none, none_greatest site m)
last_is_greatest site m (event ∷ past) r =
    let before = last_is_greatest site m past r in
    let k : ℕ = sends m past in
    elim (turn_of site m k event (event_book site m past)) [
      | fills is none ↦
          omega (
            arith,
            ap last_period is,
            before,
            ap greatest_period (none_accepted site m event past none),
            filled_ends (period_to_reach site (sends_with m event k)) (event_book site m past),
            reached_rises site k (sends_with m event k) r (sends_up m k event),
          )
      | adds command none tree most is same taken ↦
          omega (
            arith,
            ap last_period is,
            before,
            ap (period_to_reach site) same,
            book_within site m past r,
            reached_within site k,
            ap greatest_period (one_accepted site m event past (period_after site k, command) taken),
            greatest_joined (accepted site m past) ((period_after site k, command) ∷ []),
            greatest_alone (period_after site k) command,
            added_ends (period_after site k) command (event_book site m past) none,
          )
      | leaves is same none ↦
          omega (
            arith,
            ap last_period is,
            before,
            ap (period_to_reach site) same,
            ap greatest_period (none_accepted site m event past none),
          )
    ]
