-- Public meaning: positions: the packets of a PID are numbered by what their continuity counters come to.
use Rattle.std.specs.Prelude.{◌≡◌, ℕ, ◌+◌, ◌-◌, ◌%◌, ◌<◌, ◌≤◌, ◌==◌, ◌&&◌, Bool, List, [], ◌∷◌, nat_le, if◌then◌else◌}
use Rattle.sd_packet.specs.Header.{pid_of, counter_of, has_payload}

-- a PID whose packets have positions [this project, docs/FORMATS.md, Positions]
abbrev pub is_positional : ℕ → Bool
is_positional pid = nat_le 0x0020 pid && nat_le pid 0x1FEF

-- the position that a counter leads to: position + ((counter - position - 1) mod 16) + 1
-- [this project, docs/FORMATS.md, Positions]
unfoldable pub advanced : ℕ → ℕ → ℕ
advanced position counter = position + (counter + 15 - position % 16) % 16 + 1

-- the position that no packet has moved [this project, docs/FORMATS.md, Positions]
abbrev pub first_position : ℕ
first_position = 15

-- the next position is 1 to 16 above and equals the counter mod 16 [this project, docs/FORMATS.md, Positions]
pub record IsNextPosition (position counter next : ℕ) : Type 0 where
  pub above : position < next
  pub near : next ≤ position + 16
  pub counter_is : next % 16 ≡ counter

-- the packet moves the position of the PID: it is of the PID and its payload is not empty
-- [this project, docs/FORMATS.md, Positions]
abbrev pub is_moving : ℕ → List ℕ → Bool
is_moving pid packet = (pid_of packet == pid) && has_payload packet

-- the packet has a position: its PID is one of those, and its payload is not empty
-- [this project, docs/FORMATS.md, Positions]
abbrev pub is_placed : List ℕ → Bool
is_placed packet = is_positional (pid_of packet) && has_payload packet

-- the PID's position after a packet, from that before it [this project, docs/FORMATS.md, Positions]
abbrev pub moved : ℕ → ℕ → List ℕ → ℕ
moved pid position packet = if is_moving pid packet then advanced position (counter_of packet) else position

-- and after several packets
unfoldable pub moved_by : ℕ → ℕ → List (List ℕ) → ℕ
moved_by pid position [] = position
moved_by pid position (packet ∷ packets) = moved_by pid (moved pid position packet) packets

-- the PID's position after these packets of a stream [this project, docs/FORMATS.md, Positions]
abbrev pub position_of : ℕ → List (List ℕ) → ℕ
position_of pid packets = moved_by pid first_position packets
