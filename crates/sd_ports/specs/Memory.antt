-- Public meaning: a sink in memory, with the writes that fail.
use Rattle.std.specs.Prelude.{ℕ, ◌-◌, Bool, ◌||◌, if◌then◌else◌, nat_eq, nat_lt, min, List, [], ◌∷◌, ◌++◌, length, take}
use Rattle.std.specs.Prelude.{Option, Some, None}
use Rattle.std.specs.List.{list_any}
use Rattle.sd_base.specs.Count.{with_added}

-- whether a call's number stands in the list of those that fail
abbrev pub is_listed : List ℕ → ℕ → Bool
is_listed fails number = list_any (λ n. nat_eq n number) fails

-- a sink in memory: the bytes taken, how many it has room for, the most bytes of a write, which writes fail, and how
-- many writes there were and failed
pub record Store : Type 0 where
  pub held : List ℕ
  pub room : ℕ
  pub most : ℕ
  pub fails : List ℕ
  pub writes : ℕ
  pub faults : ℕ

-- how many more bytes there is room for, told where no write is to fail by its number
abbrev pub room_by : List ℕ → ℕ → Option ℕ
room_by [] room = Some room
room_by (number ∷ fails) room = None

abbrev pub room_in : Store → Option ℕ
room_in s = room_by s.fails (s.room - length s.held)

-- whether a write of so many bytes fails: by its number, or since they pass the room
abbrev pub write_fails : Store → ℕ → Bool
write_fails s count = is_listed s.fails s.writes || nat_lt (s.room - length s.held) count

-- how many bytes of so many a write takes
abbrev pub bytes_taken : Store → ℕ → ℕ
bytes_taken s count = min s.most count

-- a sink after a write of a piece
abbrev pub after_write : Store → List ℕ → Store
after_write s piece =
    if write_fails s (length piece)
    then record s { writes = with_added s.writes 1; faults = with_added s.faults 1 }
    else record s { held = s.held ++ take (bytes_taken s (length piece)) piece; writes = with_added s.writes 1 }
