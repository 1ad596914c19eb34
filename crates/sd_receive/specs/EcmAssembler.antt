-- Public meaning: what is kept of control messages after what was heard.
use Rattle.std.specs.Prelude.{◌≡◌, List, ◌∷◌, Option, Some, None, option_map, if◌then◌else◌, Result, Ok, Err}
use Rattle.std.specs.Option.{option_map_or}
use Rattle.sd_message.specs.EcmParts.{Message, message_of, ecm_head_of}
use Rattle.sd_message.specs.declared.ecm_part.Place.{Place}
use Rattle.sd_message.specs.declared.ecm_part.EcmPart.{EcmPart}
use Rattle.sd_message.specs.declared.ecm_message.EcmHead.{EcmHead}
use Rattle.sd_message.specs.declared.ecm_fault.EcmFault.{EcmFault}
use Rattle.sd_message.specs.declared.ecm_fault.EcmFault.TheVariants.{Back}
use Rattle.sd_spec.specs.Heard.{Heard, Controls}
use Rattle.sd_spec.specs.Stretches.{counted_parts, run_of_parts, message_parts_to, newest_message, completes}
use Rattle.sd_spec.specs.Offered.{part_fault, is_back}
use Rattle.sd_message.specs.EcmForm.{ArePlaces}
use Rattle.sd_receive.specs.PartialEcm.{IsGathered}
use Rattle.sd_receive.specs.declared.ecm.EcmAssembler.{EcmAssembler}
use Rattle.sd_receive.specs.declared.ecm.EcmProgress.{EcmProgress}
use Rattle.sd_receive.specs.declared.ecm.EcmProgress.TheVariants.{Waits, Complete}

-- the parts that are being collected, the newest first
unfoldable pub parts_collected : List Heard → List EcmPart
parts_collected past = run_of_parts (counted_parts (newest_message past).message (newest_message past).after)

-- what a message says and its positions are kept, or that there is no message
pub record IsMessageKept (message : Option Message) (head : Option EcmHead) (all : List Place) : Type 0 where
  pub says : message ≡ option_map (λ kept. message_of kept all) head
  pub good : ArePlaces all

-- the newest complete message and the parts of the next one that arrived are kept
pub record IsCollected (past : List Heard) (state : EcmAssembler) : Type 0 where
  pub run : IsGathered (parts_collected past) state.partial.part state.partial.places.items
  pub last : IsMessageKept (newest_message past).message state.last state.places.items

-- why the complete message is refused, if there is one and it goes back
abbrev pub back_fault : List Heard → Option Message → Option EcmFault
back_fault past None = None
back_fault past (Some message) = if is_back past message then Some Back else None

-- why a part is refused: by itself, or as the last of its message [this project, docs/FORMATS.md, Receiver]
unfoldable pub part_fault_of : List Heard → EcmPart → Option EcmFault
part_fault_of past part =
    option_map_or Some (part_fault (message_parts_to (newest_message past) part))
    (back_fault past (completes past (Controls part)))

-- Nothing is wrong with a part, and it completes no message.
pub record IsWaiting (past : List Heard) (part : EcmPart) (state : EcmAssembler) : Type 0 where
  pub fault : part_fault_of past part ≡ None
  pub incomplete : completes past (Controls part) ≡ None
  pub after : IsCollected (Controls part ∷ past) state

-- Nothing is wrong with a part, and it completes the message that says this. Its positions are at hand, and what was
-- kept before the part still is.
pub record IsComplete (past : List Heard) (part : EcmPart) (head : EcmHead) (state : EcmAssembler) : Type 0 where
  pub fault : part_fault_of past part ≡ None
  pub complete : completes past (Controls part) ≡ Some (message_of head state.coming.places.items)
  pub ends : state.coming.part ≡ Some part
  pub says : head ≡ ecm_head_of part
  pub good : ArePlaces state.coming.places.items
  pub before : IsCollected past state

-- the result of a part: it completes no message, completes one, or is refused and leaves what is kept
abbrev pub PartOutcome : List Heard → EcmPart → EcmAssembler → Result EcmProgress EcmFault → Type 0
PartOutcome past part state (Ok Waits) = IsWaiting past part state
PartOutcome past part state (Ok (Complete head)) = IsComplete past part head state
PartOutcome past part state (Err fault) = (part_fault_of past part ≡ Some fault) × IsCollected past state
