-- Public meaning: the positions to which the buffered packets lead.
use Rattle.std.specs.Prelude.{◌≡◌, ℕ, ◌+◌, ◌<◌, ◌≤◌, false, ◌==◌, List, [], length, map, take, get_or, All}
use Rattle.std.specs.Prelude.{vec_capacity}
use Rattle.std.specs.List.{list_any}
use Rattle.sd_packet.specs.Header.{pid_of}
use Rattle.sd_packet.specs.Positions.{first_position, moved_by}
use Rattle.sd_message.specs.EcmForm.{AreShort}
use Rattle.sd_message.specs.declared.ecm_part.Place.{Place}
use Rattle.sd_message.specs.EcmVersions.{most_places}
use Rattle.sd_spec.specs.Confirmed.{position_or_first}
use Rattle.sd_spec.specs.Offered.{most_held}
use Rattle.sd_receive.specs.declared.buffer.tracked.HeldPacket.{HeldPacket}
use Rattle.sd_receive.specs.declared.buffer.tracked.TrackedPackets.{TrackedPackets}
use Rattle.sd_receive.specs.declared.buffer.tracked.TheConstants.{PIDS}

-- the PIDs of places
abbrev pub pids_in : List Place → List ℕ
pids_in places = map (λ (p : Place). p.pid) places

-- the buffered packets, without their numbers and positions
abbrev pub packets_in : List HeldPacket → List (List ℕ)
packets_in held = map (λ (h : HeldPacket). h.packet) held

-- the position of a PID after these packets, from its place on [this project, docs/FORMATS.md, Receiver]
unfoldable pub led_to : List Place → List (List ℕ) → ℕ → ℕ
led_to places packets pid = moved_by pid (position_or_first places pid) packets

-- a table by PID has the positions after these packets
pub record IsTracked (places : List Place) (packets : List (List ℕ)) (table : List ℕ) : Type 0 where
  pub long : length table ≡ PIDS
  pub at : (pid : ℕ) → pid < PIDS → get_or table pid 0 ≡ led_to places packets pid

-- a table by PID has the first position, but for some of these PIDs
pub record IsClearBut (pids : List ℕ) (table : List ℕ) : Type 0 where
  pub long : length table ≡ PIDS
  pub clear : (pid : ℕ) → list_any (λ q. q == pid) pids ≡ false → pid < PIDS → get_or table pid 0 ≡ first_position

-- a table by PID has the first position for each
abbrev pub HasFirstPositions : List ℕ → Type 0
HasFirstPositions table = IsClearBut [] table

-- the PID of each place is one of 13 bits
abbrev pub ArePositionPids : List Place → Type 0
ArePositionPids places = All (λ place. place.pid < PIDS) places

-- each buffered packet has the position to which it led its PID
abbrev pub HavePositionsLedTo : List Place → List HeldPacket → Type 0
HavePositionsLedTo places held =
    (k : ℕ) (d : HeldPacket) → k < length held
    → (get_or held k d).position ≡ led_to places (take (k + 1) (packets_in held)) (pid_of (get_or held k d).packet)

-- what is kept: places and packets within their room, and the positions to which the packets lead
pub record AreTracksKept (tracks : TrackedPackets) : Type 0 where
  pub few : length tracks.held.items ≤ most_held
  pub room : most_held ≤ vec_capacity tracks.held
  pub space : most_places ≤ vec_capacity tracks.places
  pub known : ArePositionPids tracks.places.items
  pub short : AreShort tracks.places.items
  pub own : HavePositionsLedTo tracks.places.items tracks.held.items
  pub tracked : IsTracked tracks.places.items (packets_in tracks.held.items) tracks.table.items
