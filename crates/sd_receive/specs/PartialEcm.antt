-- Public meaning: the parts of one control message that are collected.
use Rattle.std.specs.Prelude.{◌≡◌, ◌+◌, ◌==◌, if◌then◌else◌, List, [], ◌∷◌, length, reverse, flat_map, All}
use Rattle.std.specs.Prelude.{Option, Some, None}
use Rattle.std.specs.Prelude.{Result, Ok, Err}
use Rattle.sd_message.specs.EcmSpelled.{listed_places}
use Rattle.sd_message.specs.EcmForm.{ArePlaces, IsEcm}
use Rattle.sd_message.specs.EcmParts.{SaySame}
use Rattle.sd_message.specs.EcmVersions.{most_positions}
use Rattle.sd_message.specs.declared.ecm_part.Place.{Place}
use Rattle.sd_message.specs.declared.ecm_part.EcmPart.{EcmPart}
use Rattle.sd_message.specs.declared.ecm_fault.EcmFault.{EcmFault}
use Rattle.sd_spec.specs.Stretches.{message_parts_with}
use Rattle.sd_spec.specs.Offered.{part_fault}

-- all positions of parts, the newest part first, in the order of the message [this project, docs/FORMATS.md, Messages]
unfoldable pub part_positions : List EcmPart → List Place
part_positions run = flat_map listed_places (reverse run)

-- the newest of some parts
abbrev pub newest_ecm_part : List EcmPart → Option EcmPart
newest_ecm_part [] = None
newest_ecm_part (part ∷ run) = Some part

-- a part in its form, with room for as many positions as a part may have
pub record IsPart (part : EcmPart) : Type 0 where
  pub form : IsEcm part
  pub long : length part.positions ≡ most_positions

-- the part comes next after the newest of these, if there is one
abbrev pub IsNextPart : List EcmPart → EcmPart → Type 0
IsNextPart [] part = Unit {0}
IsNextPart (before ∷ run) part = before.part + 1 ≡ part.part

-- each other part says of the message what the newest says
abbrev pub AreOfOneMessage : List EcmPart → Type 0
AreOfOneMessage [] = Unit {0}
AreOfOneMessage (part ∷ run) = All (λ other. SaySame other part) run

-- parts of one message in which nothing is wrong, the newest first
pub record IsPartialEcm (run : List EcmPart) : Type 0 where
  pub form : All IsPart run
  pub alike : AreOfOneMessage run
  pub places : ArePlaces (part_positions run)

-- the newest of these parts and the positions of all of them are kept
pub record IsGathered (run : List EcmPart) (kept : Option EcmPart) (all : List Place) : Type 0 where
  pub part : kept ≡ newest_ecm_part run
  pub places : all ≡ part_positions run
  pub good : IsPartialEcm run

-- the parts that are collected after a part that counts: it begins a message, is the next after these, or drops them
unfoldable pub next_run : List EcmPart → EcmPart → List EcmPart
next_run run part = if part.part == 0 then part ∷ [] else message_parts_with part run

-- something is wrong with the newest of these parts, or they are kept
abbrev pub GatherOutcome : List EcmPart → Option EcmPart → List Place → Result Unit EcmFault → Type 0
GatherOutcome run kept all (Ok done) = (part_fault run ≡ None) × IsGathered run kept all
GatherOutcome run kept all (Err fault) = part_fault run ≡ Some fault
