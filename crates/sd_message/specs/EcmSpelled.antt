-- Public meaning: parts of entitlement control messages as bytes.
use Rattle.std.specs.Prelude.{ℕ, ◌+◌, ◌%◌, ◌==◌, Bool, if◌then◌else◌, List, [], ◌∷◌, ◌++◌, take, drop, flat_map}
use Rattle.std.specs.Prelude.{Option}
use Rattle.std.specs.Option.{unwrap_or}
use Rattle.std.specs.Int.{w16, w32, w64, to_be_bytes}
use Rattle.sd_section.specs.Written.{section_bytes}
use Rattle.sd_section.specs.declared.write.Header.{Header}
use Rattle.sd_message.specs.Framed.{BeginsWithSection}
use Rattle.sd_message.specs.EcmVersions.{even_table_id}
use Rattle.sd_message.specs.declared.ecm_part.Place.{Place}
use Rattle.sd_message.specs.declared.ecm_part.EcmPart.{EcmPart}

-- the positions that a part has
abbrev pub listed_places : EcmPart → List Place
listed_places part = take part.count part.positions

-- the PID in 16 bits, and its position in 48 [this project, docs/FORMATS.md, Messages]
unfoldable pub place_bytes : Place → List ℕ
place_bytes place = to_be_bytes w16 place.pid ++ drop 2 (to_be_bytes w64 place.position)

-- the message's number, the period, the number of the control word, the number of clear packets
-- [this project, docs/FORMATS.md, Messages]
unfoldable pub numbers_bytes : EcmPart → List ℕ
numbers_bytes part =
    to_be_bytes w32 part.number
    ++ (to_be_bytes w32 part.period ++ (to_be_bytes w32 part.word ++ to_be_bytes w32 part.clear))

-- `since`, which version 1 doesn't write, and after it the broadcast's name, which version 3 alone writes
-- [this project, docs/FORMATS.md, Messages]
unfoldable pub since_bytes : ℕ → ℕ → Option ℕ → List ℕ
since_bytes version since run =
    if version == 3 then to_be_bytes w32 since ++ to_be_bytes w32 (unwrap_or run 0)
    else if version == 2 then to_be_bytes w32 since
    else []

-- the flags: 1 for the closing message [this project, docs/FORMATS.md, Messages]
abbrev pub flags_for : Bool → ℕ
flags_for closing = if closing then 1 else 0

-- the flags, the wrapped control word, its check value, the count of positions [this project, docs/FORMATS.md,
-- Messages]
unfoldable pub word_bytes : EcmPart → List ℕ
word_bytes part = flags_for part.closing ∷ [] ++ (part.wrapped ++ (part.check ++ part.count ∷ []))

-- what stands before the positions [this project, docs/FORMATS.md, Messages]
unfoldable pub ecm_head_bytes : EcmPart → List ℕ
ecm_head_bytes part = numbers_bytes part ++ (since_bytes part.version part.since part.run ++ word_bytes part)

-- the section's body: its head, and one position after the other [this project, docs/FORMATS.md, Messages]
unfoldable pub ecm_body : EcmPart → List ℕ
ecm_body part = ecm_head_bytes part ++ flat_map place_bytes (listed_places part)

-- its table_id is the version's for an even control word and the next for an odd one, its extension 0, and the section
-- numbers are the part's [this project, docs/FORMATS.md, Messages]
abbrev pub ecm_header : EcmPart → Header
ecm_header part = record {
  table_id = even_table_id part.version + part.word % 2;
  extension = 0;
  number = part.part;
  last_number = part.last_part;
}

-- the one spelling of a part [this project, docs/FORMATS.md, Messages]
unfoldable pub ecm_section : EcmPart → List ℕ
ecm_section part = section_bytes (ecm_header part) (ecm_body part)

-- the packet begins with that section
abbrev pub SpellsPart : EcmPart → List ℕ → Type 0
SpellsPart part packet = BeginsWithSection (ecm_section part) packet
