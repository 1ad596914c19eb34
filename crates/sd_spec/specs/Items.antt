-- Public meaning: what each thing that is sent for a clear stream is.
use Rattle.std.specs.Prelude.{◌≡◌, ◌-◌, ◌/◌, ◌%◌, ◌<◌, ◌≤◌, true, false, [], length, take, get_or, Contains}
use Rattle.sd_base.specs.Types.{Packets, PacketNumber}
use Rattle.sd_message.specs.Period.{emms_of}
use Rattle.sd_message.specs.declared.emm.Emm.{Emm}
use Rattle.sd_message.specs.EcmParts.{parts_of}
use Rattle.sd_message.specs.declared.ecm_part.EcmPart.{EcmPart}
use Rattle.sd_spec.specs.Plan.{Plan, period_of, closing_number}
use Rattle.sd_spec.specs.Carried.{carried}
use Rattle.sd_spec.specs.Messages.{period_at, message_at}
use Rattle.sd_spec.specs.Sent.{Item, Cat, Entitles, Controls, Carries}

-- The thing is of the broadcast of a clear stream: the CAT; a section of the entitlements of a packet's period, or of
-- the first period where there is no packet; a part of the message that stands before a packet; a part of the closing
-- message; or a clear packet as it is carried [this project, docs/FORMATS.md, Broadcast].
pub data IsOfBroadcast (plan : Plan) (clear : Packets) : Item → Type 0 where
  cat : IsOfBroadcast plan clear Cat
  entitlement : {emm : Emm} → (k : PacketNumber) → k ≤ length clear - 1
      → Contains (emms_of (period_at plan (period_of plan k))) emm →
      IsOfBroadcast plan clear (Entitles emm)
  part : {part : EcmPart} → (k : PacketNumber) → k < length clear → k % plan.site.every ≡ 0 →
      Contains (parts_of (message_at plan (take k clear) (k / plan.site.every) k false)) part →
      IsOfBroadcast plan clear (Controls part)
  closing : {part : EcmPart} →
      Contains (parts_of (message_at plan clear (closing_number plan.site (length clear)) (length clear - 1) true)) part
      →
      IsOfBroadcast plan clear (Controls part)
  carried_on : (k : PacketNumber) → k < length clear →
      IsOfBroadcast plan clear (Carries k (carried plan.site (take k clear) (get_or clear k [])))
