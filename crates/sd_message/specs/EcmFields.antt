-- Public meaning: parts of entitlement control messages as they are read.
use Rattle.std.specs.Prelude.{◌≡◌, ℕ, ◌+◌, ◌-◌, ◌*◌, ◌%◌, ◌≤◌, ◌⊎◌, ◌==◌, if◌then◌else◌, List, length, drop}
use Rattle.std.specs.Prelude.{Option, Some, None}
use Rattle.std.specs.Prelude.{slice_index, slice_range}
use Rattle.sd_base.specs.Bits.{field}
use Rattle.sd_section.specs.Header.{least_length, table_id_of, section_length_of, extension_of, section_number_of}
use Rattle.sd_section.specs.Header.{last_number_of, body_of}
use Rattle.sd_message.specs.Framed.{HasSection, section_of}
use Rattle.sd_message.specs.Items.{items_in}
use Rattle.sd_message.specs.Pieces.{filled}
use Rattle.sd_message.specs.EcmVersions.{IsBeforeMessage, positions_for, flags_at, ecm_head_length, even_table_id}
use Rattle.sd_message.specs.EcmVersions.{version_for}
use Rattle.sd_message.specs.EcmSpelled.{listed_places}
use Rattle.sd_message.specs.EcmForm.{IsEcmCounted, ArePositioned, ArePidsAscending, no_place}
use Rattle.sd_message.specs.declared.ecm_part.Place.{Place}
use Rattle.sd_message.specs.declared.ecm_part.EcmPart.{EcmPart}
use Rattle.sd_message.specs.declared.ecm_fault.EcmFault.{EcmFault}
use Rattle.sd_message.specs.declared.ecm_fault.EcmFault.TheVariants.{Count, Order, Pid, Mixed, Back}
use Rattle.sd_message.specs.EcmVersions.{most_positions}

-- the version of a section, if it is a part of a control message [this project, docs/FORMATS.md, Messages]
abbrev pub ecm_version_of : List ℕ → ℕ
ecm_version_of section = version_for (table_id_of section)

-- the table_id is the version's for an even or for an odd control word [this project, docs/FORMATS.md, Messages]
abbrev pub IsEcmTable : ℕ → ℕ → Type 0
IsEcmTable version table_id = (table_id ≡ even_table_id version) ⊎ (table_id ≡ even_table_id version + 1)

-- the section is a part of a control message, and has room for all that stands before the positions
-- [this project, docs/FORMATS.md, Messages]
pub record IsEcmSection (section : List ℕ) : Type 0 where
  pub table_id : IsEcmTable (ecm_version_of section) (table_id_of section)
  pub extension : extension_of section ≡ 0
  pub numbered : section_number_of section ≤ last_number_of section
  pub room : ecm_head_length (ecm_version_of section) + least_length ≤ section_length_of section

-- the packet begins with such a section
pub record IsEcmPacket (packet : List ℕ) : Type 0 where
  pub has : HasSection packet
  pub ecm : IsEcmSection (section_of packet)

-- a position in 8 bytes [this project, docs/FORMATS.md, Messages]
unfoldable pub ecm_position_in : List ℕ → Place
ecm_position_in bytes = record { pid = field bytes 0 16; position = field bytes 16 48 }

-- so many positions, one after the other
abbrev pub ecm_positions_in : ℕ → List ℕ → List Place
ecm_positions_in n bytes = items_in ecm_position_in 8 n bytes

-- filled up to 13
abbrev pub padded_places : List Place → List Place
padded_places places = filled most_positions no_place places

-- what stands in a body from the flags on
abbrev pub from_flags : ℕ → List ℕ → List ℕ
from_flags version body = drop (flags_at version) body

-- the flags in a body [this project, docs/FORMATS.md, Messages]
abbrev pub body_flags : ℕ → List ℕ → ℕ
body_flags version body = slice_index (from_flags version body) 0

-- `since` in a body: version 1 doesn't write it [this project, docs/FORMATS.md, Messages]
unfoldable pub since_in : ℕ → ℕ → List ℕ → ℕ
since_in version number body = if version == 1 then number - 1 else field body 128 32

-- the broadcast's name in a body: version 3 alone writes it [this project, docs/FORMATS.md, Messages]
unfoldable pub ecm_run_in : ℕ → List ℕ → Option ℕ
ecm_run_in version body = if version == 3 then Some (field body 160 32) else None

-- what the section of this version, these numbers and this body says [this project, docs/FORMATS.md, Messages]
unfoldable pub ecm_in : ℕ → ℕ → ℕ → List ℕ → EcmPart
ecm_in version number last_number body = record {
  version = version;
  number = field body 0 32;
  period = field body 32 32;
  word = field body 64 32;
  clear = field body 96 32;
  since = since_in version (field body 0 32) body;
  run = ecm_run_in version body;
  closing = body_flags version body == 1;
  part = number;
  last_part = last_number;
  wrapped = slice_range (from_flags version body) 1 33;
  check = slice_range (from_flags version body) 33 49;
  count = slice_index (from_flags version body) 49;
  positions = padded_places (ecm_positions_in (slice_index (from_flags version body) 49)
      (drop 50 (from_flags version body)));
}

-- the same with other positions
abbrev pub with_places : EcmPart → List Place → EcmPart
with_places part places = record part { positions = places }

-- what a section says
abbrev pub ecm_of : List ℕ → EcmPart
ecm_of section = ecm_in (ecm_version_of section) (section_number_of section) (last_number_of section) (body_of section)

-- the count is what the part is to have and what the length of the body comes to [this project, docs/FORMATS.md,
-- Messages]
abbrev pub HasEcmCount : ℕ → EcmPart → Type 0
HasEcmCount length part =
    (length ≡ ecm_head_length part.version + 8 * part.count)
    × IsEcmCounted (positions_for part.version) part.part part.last_part part.count

-- the flags are 0 or 1, the table_id is odd where the number of the control word is, and `since` is below the number of
-- the message, unless both are 0 [this project, docs/FORMATS.md, Messages]
pub record IsMatched (table_id flags : ℕ) (part : EcmPart) : Type 0 where
  pub flags_are : flags ≤ 1
  pub parity : table_id % 2 ≡ part.word % 2
  pub since : IsBeforeMessage part.since part.number

-- no rule is broken
pub record IsGoodEcm (table_id : ℕ) (body : List ℕ) (part : EcmPart) : Type 0 where
  pub has_count : HasEcmCount (length body) part
  pub places : ArePositioned (listed_places part)
  pub ascending : ArePidsAscending (listed_places part)
  pub matched : IsMatched table_id (body_flags part.version body) part

-- the rule that a body under this table_id, and what it says, break first [this project, docs/FORMATS.md, Messages]
abbrev pub BreaksEcmRule : ℕ → List ℕ → EcmPart → EcmFault → Type 0
BreaksEcmRule table_id body part Count = ¬ HasEcmCount (length body) part
BreaksEcmRule table_id body part Pid = HasEcmCount (length body) part × (¬ ArePositioned (listed_places part))
BreaksEcmRule table_id body part Order = HasEcmCount (length body) part
    × (ArePositioned (listed_places part) × (¬ ArePidsAscending (listed_places part)))
BreaksEcmRule table_id body part Mixed =
    HasEcmCount (length body) part × (ArePositioned (listed_places part) × (ArePidsAscending (listed_places part)
    × (¬ IsMatched table_id (body_flags part.version body) part)))
BreaksEcmRule table_id body part Back = ⊥

-- and that a section breaks first
abbrev pub BreaksEcmFirst : List ℕ → EcmFault → Type 0
BreaksEcmFirst section fault = BreaksEcmRule (table_id_of section) (body_of section) (ecm_of section) fault
