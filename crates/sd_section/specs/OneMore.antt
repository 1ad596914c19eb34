-- Public meaning: one packet more, from what an assembler keeps.
use Rattle.std.specs.Prelude.{ℕ, ◌+◌, ◌≤◌, Bool, true, false, if◌then◌else◌, List, [], ◌∷◌, ◌++◌, Option, Some}
use Rattle.sd_section.specs.Header.{longest, section_length_of, whole_of}
use Rattle.sd_section.specs.Assembled.{Fed, is_overlong, is_section_whole, Cut, no_cut, cut_of, is_next, is_taken}
use Rattle.sd_section.specs.Assembled.{tail_of}
use Rattle.sd_section.specs.Assembled.{fresh_of, Assembling}
use Rattle.sd_section.specs.declared.begun.Begun.{Begun}
use Rattle.sd_section.specs.declared.begun.Begun.TheVariants.{Overlong, Whole, Part}
use Rattle.sd_section.specs.declared.holds.Holds.{Holds}
use Rattle.sd_section.specs.declared.holds.Holds.TheVariants.{Making, Section, Lent}

-- what is there of the section that bytes begin with
abbrev pub begun_of : List ℕ → Begun
begun_of bytes = if is_overlong bytes then Overlong else if is_section_whole bytes then Whole
    (3 + section_length_of bytes) else Part

-- what a partial section is cut into with more bytes after it
unfoldable pub cut_more : List ℕ → List ℕ → Cut
cut_more [] bytes = no_cut
cut_more (byte ∷ making) bytes =
    if is_overlong (byte ∷ making ++ bytes) then no_cut else
    if is_section_whole (byte ∷ making ++ bytes) then record {
      sections = whole_of (byte ∷ making ++ bytes) ∷ [];
      making = [];
    } else
    record { sections = []; making = byte ∷ making ++ bytes }

-- a section that is whole, or a partial one
abbrev pub cut_of_section : Bool → List ℕ → Cut
cut_of_section true bytes = record { sections = bytes ∷ []; making = [] }
cut_of_section false bytes = record { sections = []; making = bytes }

-- the bytes of a payload that go to the partial section
abbrev pub tail_with : Bool → List ℕ → List ℕ
tail_with unit_start payload = if unit_start then tail_of payload else payload

-- those in which sections start
abbrev pub fresh_with : Bool → List ℕ → List ℕ
fresh_with unit_start payload = if unit_start then fresh_of payload else []

-- what is still partial after these bytes of a payload: nothing where others start
abbrev pub still_making : Bool → List ℕ → List ℕ → List ℕ
still_making unit_start making payload = if unit_start then [] else (cut_more making payload).making

-- what a payload does to the partial section
abbrev pub going_on : Fed → List ℕ → Assembling
going_on packet making = record {
  counter = Some packet.counter;
  making = still_making packet.unit_start making packet.payload ++ (cut_of (fresh_with packet.unit_start packet.payload)
      []).making;
  waiting = (cut_more making (tail_with packet.unit_start packet.payload)).sections
      ++ (cut_of (fresh_with packet.unit_start packet.payload) []).sections;
}

-- a packet more
unfoldable pub assembler_fed_packet : Assembling → Fed → Assembling
assembler_fed_packet state packet =
    if is_taken packet state.counter then going_on packet
    (if is_next packet.counter state.counter then state.making else []) else
    state

-- what an assembler keeps, by its fields: the bytes that it holds, and those of the last payload that it hasn't looked
-- at
abbrev pub assembler_state : Holds → List ℕ → Cut → Option ℕ → Assembling
assembler_state Making bytes cut counter = record {
  counter = counter;
  making = bytes ++ cut.making;
  waiting =
      cut.sections;
}
assembler_state Section bytes cut counter = record {
  counter = counter;
  making = cut.making;
  waiting =
      bytes ∷ cut.sections;
}
assembler_state Lent bytes cut counter = record { counter = counter; making = cut.making; waiting = cut.sections }

-- a partial section and what may be added to it have room
abbrev pub HasSectionRoom : Holds → ℕ → ℕ → Type 0
HasSectionRoom Making count more = count + more ≤ longest
HasSectionRoom Section count more = Unit {0}
HasSectionRoom Lent count more = Unit {0}

-- a whole section, or a partial one
abbrev pub holds_of : Bool → Holds
holds_of true = Section
holds_of false = Making

-- a whole section is held, which is still to be lent
abbrev pub has_section : Holds → Bool
has_section Making = false
has_section Section = true
has_section Lent = false
