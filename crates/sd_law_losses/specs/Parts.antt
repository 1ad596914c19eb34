-- Public meaning: the places of parts in their message.
use Rattle.std.specs.Prelude.{◌≡◌, ◌+◌, List, ◌∷◌, length, None}
use Rattle.sd_message.specs.EcmParts.{Message}
use Rattle.sd_message.specs.declared.ecm_part.EcmPart.{EcmPart}
use Rattle.sd_spec.specs.Offered.{part_fault}

-- the part is one of the message after these, the newest first, and before those, and has no fault after them
-- [this project, docs/FORMATS.md, Receiver]
pub record IsPartBetween (message : Message) (before : List EcmPart) (part : EcmPart)
    (after : List EcmPart) : Type 0 where
  pub number : part.number ≡ message.number
  pub place : part.part ≡ length before
  pub last : part.last_part ≡ length before + length after
  pub right : part_fault (part ∷ before) ≡ None
