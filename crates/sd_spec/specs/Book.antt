-- Public meaning: the book that the events of a field make. Events are listed with the newest first.
use Rattle.std.specs.Prelude.{ℕ, zero, suc, ◌+◌, ◌-◌, ◌/◌, ◌==◌, nat_le, List, [], ◌∷◌, ◌++◌, map, filter}
use Rattle.std.specs.Prelude.{max, min, replicate, if◌then◌else◌}
use Rattle.sd_base.specs.Types.{PeriodNumber, PacketNumber}
use Rattle.sd_site_cards.specs.SiteFields.{SiteFields}
use Rattle.sd_book.specs.declared.command.Command.{Command}
use Rattle.sd_book.specs.Limits.{most_periods}
use Rattle.sd_book.specs.Commands.{last_period}
use Rattle.sd_spec.specs.Plan.{Plan, crypto_of}
use Rattle.sd_spec.specs.declared.event.Event.{Event}
use Rattle.sd_spec.specs.declared.event.Event.TheVariants.{Subscribe, Revoke, Send, Offer, Lose, Off, On}
use Rattle.sd_spec.specs.Events.{sends_with}

-- the number of clear packets that were sent of m after these events
unfoldable pub sends : ℕ → List Event → ℕ
sends m [] = 0
sends m (event ∷ past) = sends_with m event (sends m past)

-- the period of packet k, if the book has one for it [this project, docs/FORMATS.md, Broadcast]
abbrev pub open_period : SiteFields → PacketNumber → PeriodNumber
open_period site k = site.first_period + crypto_of site k / site.span

-- the period of a command that comes after k packets were sent: 0 before the first, or else the one after the period on
-- air
abbrev pub period_after : SiteFields → ℕ → PeriodNumber
period_after site zero = 0
period_after site (suc k) = open_period site k + 1

-- the period that the book has to have once k packets were sent: the one on air, if a book can have it
abbrev pub period_to_reach : SiteFields → ℕ → PeriodNumber
period_to_reach site zero = 0
period_to_reach site (suc k) = min (open_period site k) most_periods

-- the book with Period commands after it until period q is its last, if it isn't yet
unfoldable pub with_periods_to : PeriodNumber → List Command → List Command
with_periods_to q book = book ++ replicate (q - last_period book) Command.Period

-- the book with a command of period q; a command of a period that no book can have isn't accepted
unfoldable pub book_with_command : PeriodNumber → Command → List Command → List Command
book_with_command q command book = if nat_le q most_periods then with_periods_to q book ++ command ∷ [] else book

-- the book after one event more, which comes after k packets of m were sent
abbrev pub book_after_event : SiteFields → ℕ → ℕ → Event → List Command → List Command
book_after_event site m k (Subscribe u) book = book_with_command (period_after site k) (Command.Subscribe u) book
book_after_event site m k (Revoke u) book = book_with_command (period_after site k) (Command.Revoke u) book
book_after_event site m k Send book = with_periods_to (period_to_reach site (sends_with m Send k)) book
book_after_event site m k (Offer u) book = book
book_after_event site m k (Lose u) book = book
book_after_event site m k (Off u) book = book
book_after_event site m k (On u) book = book

-- the book after these events, of which the sends find m clear packets
unfoldable pub event_book : SiteFields → ℕ → List Event → List Command
event_book site m [] = []
event_book site m (event ∷ past) = book_after_event site m (sends m past) event (event_book site m past)

-- the site with that book
abbrev pub plan_after : SiteFields → ℕ → List Event → Plan
plan_after site m past = record { site = site; commands = event_book site m past }

-- a command with its period, unless no book can have that period
abbrev pub taken_in : PeriodNumber → Command → List (PeriodNumber × Command)
taken_in q command = if nat_le q most_periods then (q, command) ∷ [] else []

-- the accepted command of an event that comes after k packets were sent, with its period
abbrev pub accepted_at : SiteFields → ℕ → Event → List (PeriodNumber × Command)
accepted_at site k (Subscribe u) = taken_in (period_after site k) (Command.Subscribe u)
accepted_at site k (Revoke u) = taken_in (period_after site k) (Command.Revoke u)
accepted_at site k Send = []
accepted_at site k (Offer u) = []
accepted_at site k (Lose u) = []
accepted_at site k (Off u) = []
accepted_at site k (On u) = []

-- the accepted commands of these events with their periods, the oldest first
unfoldable pub accepted : SiteFields → ℕ → List Event → List (PeriodNumber × Command)
accepted site m [] = []
accepted site m (event ∷ past) = accepted site m past ++ accepted_at site (sends m past) event

-- the greatest period of these commands, or 0
unfoldable pub greatest_period : List (PeriodNumber × Command) → PeriodNumber
greatest_period [] = 0
greatest_period (command ∷ commands) = max command.0 (greatest_period commands)

-- the commands that are of period q, in their order
unfoldable pub commands_of : PeriodNumber → List (PeriodNumber × Command) → List Command
commands_of q commands = map (λ command. command.1) (filter (λ command. command.0 == q) commands)
