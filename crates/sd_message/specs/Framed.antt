-- Public meaning: packets that begin with a section of this project.
use Rattle.std.specs.Prelude.{◌≡◌, ℕ, ◌+◌, ◌-◌, Bool, false, ◌==◌, ◌&&◌, bytes_eq, List, ◌∷◌, length, take, drop}
use Rattle.std.specs.Prelude.{Option, Some, None, is_none, slice_get}
use Rattle.sd_packet.specs.Header.{unit_start_of, payload_of}
use Rattle.sd_section.specs.Header.{table_id_of, extension_of, section_number_of, last_number_of, whole_of}
use Rattle.sd_section.specs.Judged.{section_fault}
use Rattle.sd_section.specs.Written.{header_bytes}
use Rattle.sd_section.specs.declared.write.Header.{Header}

-- a section starts with the payload, after pointer 0 [ISO/IEC 13818-1, 2.4.4]
pub record HasPointer (packet : List ℕ) : Type 0 where
  pub unit_start : unit_start_of packet ≡ 1
  pub pointer : slice_get (payload_of packet) 0 ≡ Some 0

-- that section [ISO/IEC 13818-1, 2.4.4]
abbrev pub section_of : List ℕ → List ℕ
section_of packet = whole_of (drop 1 (payload_of packet))

-- what a section's header says [ISO/IEC 13818-1, 2.4.4]
unfoldable pub header_of : List ℕ → Header
header_of section = record {
  table_id = table_id_of section;
  extension = extension_of section;
  number = section_number_of section;
  last_number = last_number_of section;
}

-- each other bit of the header is as this project writes it: the syntax indicator is 1, the bit after it 0,
-- reserved bits are 1, the version is 0, the section is current [ISO/IEC 13818-1, 2.4.4; this project,
-- docs/FORMATS.md, Sections]
abbrev pub IsPlainHeader : List ℕ → Type 0
IsPlainHeader section = take 8 section ≡ header_bytes (header_of section) (length section - 12)

-- whether it is
abbrev pub is_plain : List ℕ → Bool
is_plain section = bytes_eq (take 8 section) (header_bytes (header_of section) (length section - 12))

-- a byte is there, and is 0
abbrev pub is_zero : Option ℕ → Bool
is_zero None = false
is_zero (Some byte) = byte == 0

-- the packet begins with such a section, whose CRC is right [this project, docs/FORMATS.md, Messages]
pub record HasSection (packet : List ℕ) : Type 0 where
  pub starts : HasPointer packet
  pub good : section_fault (drop 1 (payload_of packet)) ≡ None
  pub plain : IsPlainHeader (section_of packet)

-- whether it does, by tests [this project, docs/FORMATS.md, Messages]
unfoldable pub frames_section : List ℕ → Bool
frames_section packet =
    (unit_start_of packet == 1)
    && (is_zero (slice_get (payload_of packet) 0)
    && (is_none (section_fault (drop 1 (payload_of packet))) && is_plain (section_of packet)))

-- the packet begins with this section, after pointer 0, whatever stands after it [ISO/IEC 13818-1, 2.4.4]
pub record BeginsWithSection (section packet : List ℕ) : Type 0 where
  pub unit_start : unit_start_of packet ≡ 1
  pub payload : take (length section + 1) (payload_of packet) ≡ 0 ∷ section
