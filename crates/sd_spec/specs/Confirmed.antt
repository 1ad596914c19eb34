-- Public meaning: what is written of the packets between two control messages.
use Rattle.std.specs.Prelude.{ℕ, ◌+◌, ◌%◌, ◌==◌, ◌&&◌, ◌||◌, Bool, false, not, nat_le, List, [], ◌∷◌, ◌++◌}
use Rattle.std.specs.Prelude.{find, is_none, if◌then◌else◌, Option, Some, None, option_map, Result, Ok, Err}
use Rattle.std.specs.Option.{option_map_or}
use Rattle.sd_base.specs.Types.{Packet, Packets, Pid, Position, SystemId, Key, PacketNumber}
use Rattle.sd_packet.specs.Header.{pid_of, scrambling_of}
use Rattle.sd_packet.specs.Positions.{is_placed, first_position, moved_by}
use Rattle.sd_psi.specs.Rewriting.{pmt_without_descriptor, restore_fault}
use Rattle.sd_cipher.specs.Scrambling.{descrambled}
use Rattle.sd_message.specs.EcmParts.{Message}
use Rattle.sd_message.specs.declared.ecm_part.Place.{Place}

-- two control messages, the control word of the first, the conditional access system, the PID of control messages, and
-- the packets buffered between the two
pub record Segment : Type 0 where
  pub first : Message
  pub last : Message
  pub word : Key
  pub ca : SystemId
  pub ecm : Pid
  pub packets : Packets

-- the position of a PID, if it is among these places
unfoldable pub position_in : List Place → Pid → Option Position
position_in places pid = option_map (λ place. place.position) (find (λ place. place.pid == pid) places)

-- the position of a PID, or the first one if it is not among these places
abbrev pub position_or_first : List Place → Pid → Position
position_or_first places pid = option_map_or (λ p. p) (position_in places pid) first_position

-- the tracked position of a PID after these packets, from that in the first message on [this project, docs/FORMATS.md,
-- Receiver]
unfoldable pub tracked : Message → Pid → Packets → Position
tracked first pid packets = moved_by pid (position_or_first first.places pid) packets

-- a position is at most 15 above the tracked one, and not below it
abbrev pub is_near_to : Position → Position → Bool
is_near_to tracked position = nat_le tracked position && nat_le position (tracked + 15)

-- the PID is confirmed: the second message's position is 0 to 15 above the tracked one [this project, docs/FORMATS.md,
-- Receiver]
unfoldable pub is_confirmed : Segment → Pid → Bool
is_confirmed segment pid =
    option_map_or (is_near_to (tracked segment.first pid segment.packets)) (position_in segment.last.places pid) false

-- a packet in the clear as it is written: without the project's CA_descriptor if it is a PMT that has it
unfoldable pub unmarked : Segment → Packet → Packet
unmarked segment packet =
    if is_placed packet && is_none (restore_fault segment.ca segment.ecm packet) then pmt_without_descriptor packet
    else packet

-- the packet can't be one under the control word of this number
abbrev pub is_foreign_under : ℕ → Packet → Bool
is_foreign_under word packet = not (is_placed packet) || not (scrambling_of packet == 2 + word % 2)

-- the packet can't be one under the control word
abbrev pub is_foreign : Segment → Packet → Bool
is_foreign segment packet = is_foreign_under segment.first.word packet

-- what is written of a buffered packet after those before it, one packet or none; or its number, if it is refused [this
-- project, docs/FORMATS.md, Receiver]
unfoldable pub judged_packet : Segment → Packets → PacketNumber × Packet → Result Packets PacketNumber
judged_packet segment before held =
    if scrambling_of held.1 == 0 then Ok (unmarked segment held.1 ∷ [])
    else if is_foreign segment held.1 then Err held.0
    else if is_confirmed segment (pid_of held.1)
    then Ok (descrambled held.1 segment.word (tracked segment.first (pid_of held.1) (before ++ held.1 ∷ [])) ∷ [])
    else Ok []

-- what is written, and the number of the packet that is refused, if one is
pub record WrittenPackets : Type 0 where
  pub packets : Packets
  pub refused : Option PacketNumber

-- what is written of a packet, and then of those after it, unless it is refused
abbrev pub then_segment_output : Result Packets PacketNumber → WrittenPackets → WrittenPackets
then_segment_output (Err n) rest = record { packets = []; refused = Some n }
then_segment_output (Ok packets) rest = record { packets = packets ++ rest.packets; refused = rest.refused }

-- what is written of buffered packets after others, up to the first that is refused [this project, docs/FORMATS.md,
-- Receiver]
unfoldable pub written_from : Segment → Packets → List (PacketNumber × Packet) → WrittenPackets
written_from segment before [] = record { packets = []; refused = None }
written_from segment before (held ∷ more) =
    then_segment_output (judged_packet segment before held) (written_from segment (before ++ held.1 ∷ []) more)
