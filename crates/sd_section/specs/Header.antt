-- Public meaning: a section in the long form: its header of eight bytes, its body, its CRC.
use Rattle.std.specs.Prelude.{ℕ, ◌+◌, ◌-◌, List, length, take, drop, slice_range}
use Rattle.sd_base.specs.Bits.{field}
pub use Rattle.sd_section.specs.Crc.{crc_of}

-- the fewest bytes that section_length counts in the long form: the other five of the header, and the CRC
-- [ISO/IEC 13818-1, 2.4.4]
abbrev pub least_length : ℕ
least_length = 9

-- the most that it may count [ISO/IEC 13818-1, 2.4.4.11]
abbrev pub most_length : ℕ
most_length = 4093

-- the most bytes of a section: the three up to section_length, and those
abbrev pub longest : ℕ
longest = 3 + most_length

-- the most bytes between the header and the CRC
abbrev pub longest_body : ℕ
longest_body = most_length - least_length

-- table_id [ISO/IEC 13818-1, 2.4.4]
abbrev pub table_id_of : List ℕ → ℕ
table_id_of section = field section 0 8

-- section_syntax_indicator: 1 in the long form [ISO/IEC 13818-1, 2.4.4]
abbrev pub syntax_of : List ℕ → ℕ
syntax_of section = field section 8 1

-- the bit after it: 0 in the standard's own tables, and else private_indicator [ISO/IEC 13818-1, 2.4.4]
abbrev pub private_bit : List ℕ → ℕ
private_bit section = field section 9 1

-- section_length: how many bytes stand after it [ISO/IEC 13818-1, 2.4.4]
abbrev pub section_length_of : List ℕ → ℕ
section_length_of section = field section 12 12

-- the two bytes after section_length, which each table names in its own way [ISO/IEC 13818-1, 2.4.4]
abbrev pub extension_of : List ℕ → ℕ
extension_of section = field section 24 16

-- version_number [ISO/IEC 13818-1, 2.4.4]
abbrev pub section_version_number : List ℕ → ℕ
section_version_number section = field section 42 5

-- current_next_indicator [ISO/IEC 13818-1, 2.4.4]
abbrev pub current_of : List ℕ → ℕ
current_of section = field section 47 1

-- section_number [ISO/IEC 13818-1, 2.4.4]
abbrev pub section_number_of : List ℕ → ℕ
section_number_of section = field section 48 8

-- last_section_number [ISO/IEC 13818-1, 2.4.4]
abbrev pub last_number_of : List ℕ → ℕ
last_number_of section = field section 56 8

-- the section with which some bytes begin: the three bytes up to section_length, and as many as it says
-- [ISO/IEC 13818-1, 2.4.4]
abbrev pub whole_of : List ℕ → List ℕ
whole_of bytes = take (3 + section_length_of bytes) bytes

-- what stands between the header and the CRC [ISO/IEC 13818-1, 2.4.4]
abbrev pub body_of : List ℕ → List ℕ
body_of section = slice_range section 8 (length section - 4)

-- the CRC that a section ends with [ISO/IEC 13818-1, 2.4.4]
unfoldable pub crc_in : List ℕ → ℕ
crc_in section = field (drop (length section - 4) section) 0 32

-- the CRC that it is to end with: that of the bytes before it [ISO/IEC 13818-1, 2.4.4 and annex A]
unfoldable pub crc_due : List ℕ → ℕ
crc_due section = crc_of (take (length section - 4) section)
