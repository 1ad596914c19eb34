-- Public meaning: a place in a book: where the commands of a period begin, or after them all.
use Rattle.std.specs.Prelude.{◌≡◌, ℕ, zero, suc, ◌+◌, ◌≤◌, List, length}
use Rattle.sd_book.specs.declared.command.Command.{Command}
use Rattle.sd_book.specs.Commands.{commands_until, last_period}

-- a place as contracts see it: how many commands were taken, the Period after them too, and the period that comes next
pub record PlaceValue : Type 0 where
  pub taken : ℕ
  pub next : ℕ

-- how many commands there are before those of period q
abbrev pub commands_before : List Command → ℕ → ℕ
commands_before commands zero = 0
commands_before commands (suc q) = length (commands_until q commands) + 1

-- the place is one in a book of these commands; after the last period it stands after them all
pub record IsPlaceIn (commands : List Command) (place : PlaceValue) : Type 0 where
  pub within : place.next ≤ last_period commands + 1
  pub taken : place.taken ≡ commands_before commands place.next

-- the place after a period of n commands
abbrev pub after_period : PlaceValue → ℕ → PlaceValue
after_period place n = record { taken = place.taken + (n + 1); next = place.next + 1 }
