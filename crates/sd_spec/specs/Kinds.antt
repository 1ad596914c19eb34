-- Public meaning: what a clear packet is, by the packets before it.
use Rattle.std.specs.Prelude.{ℕ, ◌==◌, ◌&&◌, Bool, true, false, nat_eq, nat_lt, List, [], ◌∷◌, filter, find}
use Rattle.std.specs.Prelude.{reverse, is_none, if◌then◌else◌, Option}
use Rattle.std.specs.List.{list_any, range_with_len}
use Rattle.std.specs.Option.{option_map_or}
use Rattle.sd_base.specs.Types.{Packet, Packets, Pid}
use Rattle.sd_packet.specs.Header.{pid_of, has_payload}
use Rattle.sd_packet.specs.Positions.{is_placed, is_moving}
use Rattle.sd_section.specs.Header.{current_of}
use Rattle.sd_psi.specs.Tables.{pmt_pids_of}
use Rattle.sd_psi.specs.Forms.{pat_fault, section_in}
use Rattle.sd_spec.specs.declared.kind.Kind.{Kind}
use Rattle.sd_spec.specs.declared.kind.Kind.TheVariants.{Passed, Pmt, Scrambled}

-- a PAT that is current [ISO/IEC 13818-1, 2.4.4.3]
unfoldable pub is_current_pat : Packet → Bool
is_current_pat packet =
    (pid_of packet == 0)
    && (has_payload packet && (is_none (pat_fault packet) && (current_of (section_in packet) == 1)))

-- the PAT in force after these packets: the last current one [this project, docs/FORMATS.md, Broadcast]
unfoldable pub pat_in_force : Packets → Option Packet
pat_in_force before = find is_current_pat (reverse before)

-- the PIDs of PMTs after these packets
unfoldable pub pmts_in : Packets → List Pid
pmts_in before = option_map_or (λ packet. pmt_pids_of (section_in packet)) (pat_in_force before) []

-- the kind of a packet after these packets [this project, docs/FORMATS.md, Broadcast]
unfoldable pub kind_of : Packets → Packet → Kind
kind_of before packet =
    if is_placed packet then (if list_any (nat_eq (pid_of packet)) (pmts_in before) then Pmt else Scrambled) else Passed

-- a packet of this kind is scrambled
abbrev pub is_scrambled : Kind → Bool
is_scrambled Passed = false
is_scrambled Pmt = false
is_scrambled Scrambled = true

-- the PID has moved from its first position [this project, docs/FORMATS.md, Positions]
abbrev pub has_moved : Packets → Pid → Bool
has_moved before pid = list_any (is_moving pid) before

-- all PIDs that have positions, ascending [this project, docs/FORMATS.md, Positions]
unfoldable pub positional_pids : List Pid
positional_pids = range_with_len 0x0020 0x1FD0

-- the PIDs whose positions have moved, ascending
unfoldable pub moved_pids : Packets → List Pid
moved_pids before = filter (has_moved before) positional_pids

-- a number put in its place among ascending ones
abbrev pub put_in : ℕ → List ℕ → List ℕ
put_in n [] = n ∷ []
put_in n (m ∷ ms) = if nat_lt n m then n ∷ m ∷ ms else m ∷ put_in n ms
