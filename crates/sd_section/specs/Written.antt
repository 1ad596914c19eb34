-- Public meaning: sections that this project writes.
use Rattle.std.specs.Prelude.{◌≡◌, ℕ, ◌+◌, ◌/◌, ◌%◌, ◌^◌, ◌<◌, List, [], ◌∷◌, ◌++◌, length}
use Rattle.std.specs.Int.{w32, to_be_bytes}
use Rattle.sd_section.specs.Crc.{crc_of}
use Rattle.sd_section.specs.Header.{least_length, table_id_of, syntax_of, private_bit, section_length_of, extension_of}
use Rattle.sd_section.specs.Header.{section_version_number, current_of, section_number_of, last_number_of, body_of}
use Rattle.sd_section.specs.declared.write.Header.{Header}

-- the header before a body of so many bytes: the syntax indicator is 1, the bit after it 0, reserved bits are 1,
-- the version is 0, the section is current [ISO/IEC 13818-1, 2.4.4; this project, docs/FORMATS.md, Sections]
abbrev pub header_bytes : Header → ℕ → List ℕ
header_bytes header body =
    header.table_id ∷ (0xB0 + (body + least_length) / 256) ∷ ((body + least_length) % 256) ∷ (header.extension / 256)
    ∷ (header.extension % 256)
    ∷ 0xC1 ∷ header.number ∷ header.last_number ∷ []

-- bytes with their CRC after them [ISO/IEC 13818-1, 2.4.4 and annex A]
abbrev pub with_crc : List ℕ → List ℕ
with_crc bytes = bytes ++ to_be_bytes w32 (crc_of bytes)

-- the section of this header and body [ISO/IEC 13818-1, 2.4.4; this project, docs/FORMATS.md, Sections]
unfoldable pub section_bytes : Header → List ℕ → List ℕ
section_bytes header body = with_crc (header_bytes header (length body) ++ body)

-- the header's numbers fit their fields
pub record FitsHeaderFields (header : Header) : Type 0 where
  pub table_id : header.table_id < 2 ^ 8
  pub extension : header.extension < 2 ^ 16
  pub number : header.number < 2 ^ 8
  pub last_number : header.last_number < 2 ^ 8

-- what is read from a section that this project writes
pub record IsWrittenSection (header : Header) (body section : List ℕ) : Type 0 where
  pub table_id : table_id_of section ≡ header.table_id
  pub syntax : syntax_of section ≡ 1
  pub private : private_bit section ≡ 0
  pub section_length : section_length_of section ≡ length body + least_length
  pub extension : extension_of section ≡ header.extension
  pub version : section_version_number section ≡ 0
  pub current : current_of section ≡ 1
  pub number : section_number_of section ≡ header.number
  pub last_number : last_number_of section ≡ header.last_number
  pub inner : body_of section ≡ body
