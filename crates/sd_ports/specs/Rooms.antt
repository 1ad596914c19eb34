-- Public meaning: how much room a sink has left, where it tells it.
use Rattle.std.specs.Prelude.{◌≡◌, ℕ, ◌-◌, ◌<◌, ◌≤◌, Option, Some, None, Result, Ok, Err}

-- A write of a piece of this size: where so many bytes of room are told, a piece that is no longer is taken, and the
-- room is less by what was taken of it.
abbrev pub TakesRoom : {E : Type 0} → Option ℕ → Option ℕ → ℕ → Result ℕ E → Type 0
TakesRoom None now size result = Unit {0}
TakesRoom (Some room) now size (Ok taken) = (taken ≤ room) × (now ≡ Some (room - taken))
TakesRoom (Some room) now size (Err fault) = (room < size) × (now ≡ Some room)

-- so many bytes were taken into the room
abbrev pub HasTaken : Option ℕ → Option ℕ → ℕ → Type 0
HasTaken None now taken = Unit {0}
HasTaken (Some room) now taken = (taken ≤ room) × (now ≡ Some (room - taken))

-- Writing all of so many bytes: where as much room is told, all are written, and the room is less by them.
abbrev pub FillsRoom : {E : Type 0} → Option ℕ → Option ℕ → ℕ → Result (Unit {0}) E → Type 0
FillsRoom before now size (Ok done) = HasTaken before now size
FillsRoom None now size (Err fault) = Unit {0}
FillsRoom (Some room) now size (Err fault) = room < size
