-- Public meaning: what is still to be sent from a packet on.
use Rattle.std.specs.Prelude.{◌≡◌, ◌-◌, ◌/◌, ◌%◌, ◌<◌, ◌≤◌, true, false, [], length, take, get_or, Contains}
use Rattle.sd_base.specs.Types.{Packets, PacketNumber}
use Rattle.sd_message.specs.Period.{emms_of}
use Rattle.sd_message.specs.declared.emm.Emm.{Emm}
use Rattle.sd_message.specs.EcmParts.{parts_of}
use Rattle.sd_message.specs.declared.ecm_part.EcmPart.{EcmPart}
use Rattle.sd_spec.specs.Plan.{Plan, period_of, closing_number}
use Rattle.sd_spec.specs.Carried.{carried}
use Rattle.sd_spec.specs.Messages.{period_at, message_at}
use Rattle.sd_spec.specs.Sent.{Item, Cat, Entitles, Controls, Carries}

-- The thing is sent for packet k or a later one, or with the closing message: the CAT; a section of the entitlements of
-- such a packet's period; a part of the message that stands before it; a part of the closing message; or such a packet
-- as it is carried [this project, docs/FORMATS.md, Broadcast].
pub data IsOfRest (plan : Plan) (clear : Packets) (k : PacketNumber) : Item → Type 0 where
  cat : IsOfRest plan clear k Cat
  entitlement : {emm : Emm} → (j : PacketNumber) → k ≤ j → j ≤ length clear - 1
      → Contains (emms_of (period_at plan (period_of plan j))) emm → IsOfRest plan clear k (Entitles emm)
  part : {part : EcmPart} → (j : PacketNumber) → k ≤ j → j < length clear → j % plan.site.every ≡ 0
      → Contains (parts_of (message_at plan (take j clear) (j / plan.site.every) j false)) part
      → IsOfRest plan clear k (Controls part)
  closing : {part : EcmPart}
      → Contains (parts_of (message_at plan clear (closing_number plan.site (length clear))
      (length clear - 1) true)) part
      → IsOfRest plan clear k (Controls part)
  carried_on : (j : PacketNumber) → k ≤ j → j < length clear
      → IsOfRest plan clear k (Carries j (carried plan.site (take j clear) (get_or clear j [])))
