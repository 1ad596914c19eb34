-- Public meaning: what is wrong with a packet that is to be one section of a PAT, a CAT or a PMT by itself.
use Rattle.std.specs.Prelude.{ℕ, ◌+◌, ◌%◌, Bool, true, false, ◌==◌, ◌&&◌, nat_le, List, length, drop, slice_index}
use Rattle.std.specs.Prelude.{Option, Some, None}
use Rattle.std.specs.List.{list_all}
use Rattle.sd_packet.specs.Header.{unit_start_of, payload_of}
use Rattle.sd_section.specs.Header.{table_id_of, syntax_of, section_length_of, section_number_of, last_number_of}
use Rattle.sd_section.specs.Header.{whole_of}
use Rattle.sd_section.specs.Header.{body_of, crc_in, crc_due}
use Rattle.sd_psi.specs.declared.fault.FormFault.{FormFault}
use Rattle.sd_psi.specs.declared.fault.FormFault.TheVariants as Fault
use Rattle.sd_psi.specs.declared.form.Table.{Table}
use Rattle.sd_psi.specs.declared.form.Table.TheVariants.{Pat, Cat, Pmt}
use Rattle.sd_psi.specs.Tables.{is_pat, is_cat, is_pmt, has_info}

-- this fault where something doesn't hold
abbrev pub fault_unless : Bool → FormFault → Option FormFault
fault_unless true fault = None
fault_unless false fault = Some fault

-- a fault, or else the next
abbrev pub fault_or_next : Option FormFault → Option FormFault → Option FormFault
fault_or_next None next = next
fault_or_next (Some fault) next = Some fault

-- table_id [ISO/IEC 13818-1, 2.4.4.4]
abbrev pub id_of : Table → ℕ
id_of Pat = 0
id_of Cat = 1
id_of Pmt = 2

-- section_length of an empty table: what stands after it up to the body and after the body, and for a PMT up to
-- program_info_length [ISO/IEC 13818-1, 2.4.4.3, 2.4.4.6 and 2.4.4.8]
abbrev pub least_section_length : Table → ℕ
least_section_length Pat = 9
least_section_length Cat = 9
least_section_length Pmt = 13

-- the bytes after the pointer [ISO/IEC 13818-1, 2.4.4]
abbrev pub after_pointer : List ℕ → List ℕ
after_pointer packet = drop 1 (payload_of packet)

-- the section with which they begin
abbrev pub section_in : List ℕ → List ℕ
section_in packet = whole_of (after_pointer packet)

-- the bytes after the section
abbrev pub after_section : List ℕ → List ℕ
after_section packet = drop (3 + section_length_of (after_pointer packet)) (after_pointer packet)

-- a section starts with the payload: unit start is set, and the pointer is 0 [ISO/IEC 13818-1, 2.4.4]
abbrev pub has_pointer : List ℕ → Bool
has_pointer packet = (unit_start_of packet == 1) && (slice_index (payload_of packet) 0 == 0)

-- the bytes begin with this table's id and the long form, and the section is the only one, if they go so far: past
-- their end a number is 0 [ISO/IEC 13818-1, 2.4.4; this project, docs/FORMATS.md, Tables]
abbrev pub has_table : Table → List ℕ → Bool
has_table table bytes =
    nat_le 2 (length bytes) &&
    ((table_id_of bytes == id_of table) &&
    ((syntax_of bytes == 1) && ((section_number_of bytes == 0) && (last_number_of bytes == 0))))

-- the body has the length that its table asks for: whole programs in a PAT, program_info in a PMT
-- [ISO/IEC 13818-1, 2.4.4.3 and 2.4.4.8]
unfoldable pub has_body : Table → List ℕ → Bool
has_body Pat section = length (body_of section) % 4 == 0
has_body Cat section = true
has_body Pmt section = has_info section

-- the bytes begin with a whole section that has the length that its table asks for
-- [ISO/IEC 13818-1, 2.4.4; this project, docs/FORMATS.md, Tables]
abbrev pub has_length : Table → List ℕ → Bool
has_length table bytes =
    nat_le 3 (length bytes) && (nat_le (3 + section_length_of bytes) (length bytes)
    && (nat_le (least_section_length table) (section_length_of bytes) && has_body table (whole_of bytes)))

-- the section ends with the CRC that is due [ISO/IEC 13818-1, 2.4.4 and annex A]
abbrev pub table_crc_fault : List ℕ → Option FormFault
table_crc_fault section = fault_unless (crc_in section ==
    crc_due section) (Fault.Crc (crc_in section) (crc_due section))

-- stuffing alone [ISO/IEC 13818-1, 2.4.4]
abbrev pub is_stuffing : List ℕ → Bool
is_stuffing bytes = list_all (λ byte. byte == 255) bytes

-- the first thing that is wrong with the bytes after the pointer, up to those after the section
-- [this project, docs/FORMATS.md, Tables]
abbrev pub bytes_fault : Table → List ℕ → Option FormFault
bytes_fault table bytes =
    fault_or_next (fault_unless (has_table table bytes) Fault.Table)
    (fault_or_next (fault_unless (has_length table bytes) Fault.Length)
    (fault_or_next (table_crc_fault (whole_of bytes))
    (fault_unless (is_stuffing (drop (3 + section_length_of bytes) bytes)) Fault.Trailing)))

-- the first thing that is wrong with the packet but its loops [this project, docs/FORMATS.md, Tables]
unfoldable pub outer_fault : Table → List ℕ → Option FormFault
outer_fault table packet = fault_or_next (fault_unless (has_pointer packet) Fault.Pointer)
    (bytes_fault table (after_pointer packet))

-- the section is one of the table
abbrev pub has_form : Table → List ℕ → Bool
has_form Pat section = is_pat section
has_form Cat section = is_cat section
has_form Pmt section = is_pmt section

-- the first thing that is wrong with a packet that is to be one section of the table by itself
-- [this project, docs/FORMATS.md, Tables]
unfoldable pub form_fault : Table → List ℕ → Option FormFault
form_fault table packet = fault_or_next (outer_fault table packet)
    (fault_unless (has_form table (section_in packet)) Fault.Descriptor)

-- of a PAT and a CAT
abbrev pub pat_fault : List ℕ → Option FormFault
pat_fault packet = form_fault Pat packet

abbrev pub cat_fault : List ℕ → Option FormFault
cat_fault packet = form_fault Cat packet
