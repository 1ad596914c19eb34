-- Public meaning: the header and the payload of a transport packet of 188 bytes.
use Rattle.std.specs.Prelude.{ℕ, ◌+◌, ◌*◌, ◌%◌, ◌==◌, ◌&&◌, Bool, List, drop, slice_index, slice_set, nat_le, nat_lt}
use Rattle.std.specs.Prelude.{if◌then◌else◌}
use Rattle.sd_base.specs.Bits.{field}

-- transport_error_indicator [ISO/IEC 13818-1, 2.4.3.2]
abbrev pub transport_error : List ℕ → ℕ
transport_error packet = field packet 8 1

-- payload_unit_start_indicator [ISO/IEC 13818-1, 2.4.3.2]
abbrev pub unit_start_of : List ℕ → ℕ
unit_start_of packet = field packet 9 1

-- transport_priority [ISO/IEC 13818-1, 2.4.3.2]
abbrev pub priority_of : List ℕ → ℕ
priority_of packet = field packet 10 1

-- PID [ISO/IEC 13818-1, 2.4.3.2]
abbrev pub pid_of : List ℕ → ℕ
pid_of packet = field packet 11 13

-- transport_scrambling_control [ISO/IEC 13818-1, 2.4.3.2]
abbrev pub scrambling_of : List ℕ → ℕ
scrambling_of packet = field packet 24 2

-- adaptation_field_control [ISO/IEC 13818-1, 2.4.3.2]
abbrev pub adaptation_of : List ℕ → ℕ
adaptation_of packet = field packet 26 2

-- continuity_counter [ISO/IEC 13818-1, 2.4.3.2]
abbrev pub counter_of : List ℕ → ℕ
counter_of packet = field packet 28 4

-- where the payload starts: after the header, or after an adaptation field that leaves room, else at the end
-- [ISO/IEC 13818-1, 2.4.3.3 and 2.4.3.5]
unfoldable pub payload_start_of : List ℕ → ℕ
payload_start_of packet =
    if adaptation_of packet == 1 then 4
    else if (adaptation_of packet == 3) && nat_le (slice_index packet 4) 182 then 5 + slice_index packet 4
    else 188

-- the payload [ISO/IEC 13818-1, 2.4.3.3]
abbrev pub payload_of : List ℕ → List ℕ
payload_of packet = drop (payload_start_of packet) packet

-- the payload is not empty
abbrev pub has_payload : List ℕ → Bool
has_payload packet = nat_lt (payload_start_of packet) 188

-- the packet with this transport_scrambling_control, the two highest bits of the fourth byte [ISO/IEC 13818-1, 2.4.3.2]
abbrev pub controlled : List ℕ → ℕ → List ℕ
controlled packet control = slice_set packet 3 (control * 64 + slice_index packet 3 % 64)
