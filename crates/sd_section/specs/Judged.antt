-- Public meaning: what is wrong with bytes that are to begin with a section in the long form.
use Rattle.std.specs.Prelude.{ℕ, ◌+◌, Bool, true, false, ◌==◌, ◌&&◌, nat_le, List, length, Option, Some, None}
use Rattle.sd_section.specs.Header.{least_length, most_length, syntax_of, section_length_of, whole_of, crc_in, crc_due}
use Rattle.sd_section.specs.declared.fault.SectionFault.{SectionFault}
use Rattle.sd_section.specs.declared.fault.SectionFault.TheVariants.{Short, Length, Crc}

-- this fault where something doesn't hold, and else what is wrong after it
abbrev pub section_fault_unless : Bool → SectionFault → Option SectionFault → Option SectionFault
section_fault_unless true fault after = after
section_fault_unless false fault after = Some fault

-- the first three bytes begin a section in the long form, which has room for a header and a CRC, and isn't too long
-- [ISO/IEC 13818-1, 2.4.4]
abbrev pub has_long_form : List ℕ → Bool
has_long_form bytes = (syntax_of bytes == 1) && (nat_le least_length (section_length_of bytes) && nat_le
    (section_length_of bytes) most_length)

-- a section's CRC isn't the one due
abbrev pub crc_fault : List ℕ → Option SectionFault
crc_fault section = section_fault_unless (crc_in section == crc_due section) (Crc (crc_in section) (crc_due section))
    None

-- what is wrong with the bytes up to section_length
abbrev pub head_fault : List ℕ → Option SectionFault
head_fault bytes = section_fault_unless (nat_le 3 (length bytes)) Short
    (section_fault_unless (has_long_form bytes) Length None)

-- the first thing that is wrong with the bytes [this project, docs/FORMATS.md, Sections]
unfoldable pub section_fault : List ℕ → Option SectionFault
section_fault bytes =
    section_fault_unless (nat_le 3 (length bytes)) Short
    (section_fault_unless (has_long_form bytes) Length
    (section_fault_unless (nat_le (3 + section_length_of bytes) (length bytes)) Short
    (crc_fault (whole_of bytes))))
