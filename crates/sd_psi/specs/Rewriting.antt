-- Public meaning: the PMT with the project's CA_descriptor.
use Rattle.std.specs.Prelude.{ℕ, ◌+◌, ◌-◌, ◌*◌, ◌/◌, ◌%◌, Bool, nat_le, List, [], ◌∷◌, ◌++◌, length, take, drop}
use Rattle.std.specs.Prelude.{slice_range, slice_index, slice_set, get_or, replicate, bytes_eq, Option}
use Rattle.sd_packet.specs.Header.{payload_start_of}
use Rattle.sd_section.specs.Header.{section_length_of}
use Rattle.sd_section.specs.Written.{with_crc}
use Rattle.sd_psi.specs.declared.fault.FormFault.{FormFault}
use Rattle.sd_psi.specs.declared.fault.FormFault.TheVariants as Fault
use Rattle.sd_psi.specs.declared.form.Table.TheVariants.{Pmt}
use Rattle.sd_psi.specs.Tables.{descriptors_of, info_length_of, info_of, is_pmt}
use Rattle.sd_psi.specs.Forms.{fault_unless, fault_or_next, section_in, after_section, outer_fault}

-- the project's CA_descriptor: tag 9, four bytes, CA_system_ID, reserved bits 1, CA_PID
-- [ISO/IEC 13818-1, 2.6.16; this project, docs/FORMATS.md, Tables]
unfoldable pub ca_descriptor : ℕ → ℕ → List ℕ
ca_descriptor ca pid = 9 ∷ 4 ∷ ca / 256 ∷ ca % 256 ∷ (0xE0 + pid / 256) ∷ pid % 256 ∷ []

-- the number in the low twelve bits of the two bytes from a place on; the high four stay
abbrev pub with_twelve : ℕ → ℕ → List ℕ → List ℕ
with_twelve place number bytes = slice_set (slice_set bytes place (slice_index bytes place / 16 * 16 + number / 256))
    (place + 1) (number % 256)

-- the first twelve bytes of a PMT with this section_length and program_info_length [ISO/IEC 13818-1, 2.4.4.8]
unfoldable pub with_lengths : ℕ → ℕ → List ℕ → List ℕ
with_lengths section_length info_length head = with_twelve 10 info_length (with_twelve 1 section_length head)

-- the section with the descriptor before the first one of program_info, its lengths and its CRC
-- [this project, docs/FORMATS.md, Tables]
unfoldable pub section_with_descriptor : List ℕ → List ℕ → List ℕ
section_with_descriptor descriptor section =
    with_crc (with_lengths (section_length_of section + 6) (info_length_of section + 6) (take 12 section)
    ++ (descriptor ++ slice_range section 12 (length section - 4)))

-- the section without the first six bytes of program_info, with its lengths and its CRC [this project, docs/FORMATS.md,
-- Tables]
unfoldable pub section_without_descriptor : List ℕ → List ℕ
section_without_descriptor section =
    with_crc (with_lengths (section_length_of section - 6) (info_length_of section - 6) (take 12 section)
    ++ slice_range section 18 (length section - 4))

-- the bytes before the section: header, adaptation field and pointer [ISO/IEC 13818-1, 2.4.3.2 and 2.4.4]
abbrev pub before_section : List ℕ → List ℕ
before_section packet = take (payload_start_of packet + 1) packet

-- the packet with the project's CA_descriptor, and six bytes fewer of stuffing [this project, docs/FORMATS.md, Tables]
unfoldable pub pmt_with_descriptor : ℕ → ℕ → List ℕ → List ℕ
pmt_with_descriptor ca pid packet = before_section packet
    ++ (section_with_descriptor (ca_descriptor ca pid) (section_in packet) ++ drop 6 (after_section packet))

-- the packet without it, and six bytes more of stuffing [this project, docs/FORMATS.md, Tables]
unfoldable pub pmt_without_descriptor : List ℕ → List ℕ
pmt_without_descriptor packet = before_section packet ++ (section_without_descriptor (section_in packet)
    ++ (replicate 6 255 ++ after_section packet))

-- what is wrong with the loops of a section that is to be a PMT
abbrev pub loops_fault : List ℕ → Option FormFault
loops_fault section = fault_unless (is_pmt section) Fault.Descriptor

-- six bytes stand after the section
abbrev pub has_pmt_room : List ℕ → Bool
has_pmt_room packet = nat_le 6 (length (after_section packet))

-- the first descriptor of program_info is this one
abbrev pub is_first_descriptor : List ℕ → List ℕ → Bool
is_first_descriptor descriptor section = bytes_eq (get_or (descriptors_of (info_of section)) 0 []) descriptor

-- the first thing that is wrong with a packet that is to be rewritten [this project, docs/FORMATS.md, Tables]
unfoldable pub rewrite_fault : List ℕ → Option FormFault
rewrite_fault packet =
    fault_or_next (outer_fault Pmt packet)
    (fault_or_next (fault_unless (has_pmt_room packet) Fault.NoRoom) (loops_fault (section_in packet)))

-- the first thing that is wrong with a packet from which the first descriptor of program_info is to be removed, which
-- is to be this one
unfoldable pub removal_fault : List ℕ → List ℕ → Option FormFault
removal_fault descriptor packet =
    fault_or_next (outer_fault Pmt packet) (fault_or_next (loops_fault (section_in packet))
    (fault_unless (is_first_descriptor descriptor (section_in packet)) Fault.Descriptor))

-- the first thing that is wrong with a packet that is to be restored [this project, docs/FORMATS.md, Tables]
abbrev pub restore_fault : ℕ → ℕ → List ℕ → Option FormFault
restore_fault ca pid packet = removal_fault (ca_descriptor ca pid) packet
