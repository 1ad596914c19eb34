-- Public meaning: what a receiver hears: one thing for each packet after the CAT that it took.
use Rattle.std.specs.Prelude.{◌==◌, if◌then◌else◌, Option, Some, None, Result, Ok, Err}
use Rattle.sd_base.specs.Types.{Packet, Height, PacketNumber}
use Rattle.sd_packet.specs.Header.{pid_of}
use Rattle.sd_message.specs.declared.emm.Emm.{Emm}
use Rattle.sd_message.specs.declared.emm_fault.EmmFault.{EmmFault}
use Rattle.sd_message.specs.declared.ecm_part.EcmPart.{EcmPart}
use Rattle.sd_message.specs.declared.ecm_fault.EcmFault.{EcmFault}
use Rattle.sd_psi.specs.declared.our_cat.Tuning.{Tuning}
use Rattle.sd_message.specs.EmmJudged.{emm_read}
use Rattle.sd_message.specs.EcmJudged.{ecm_read}

-- what a packet is to a receiver: one that is dropped, a section of entitlements, a part of a control message, a faulty
-- one of these, or any other packet with its number
pub data Heard : Type 0 where
  Dropped : Heard
  Entitles : Emm → Heard
  Controls : EcmPart → Heard
  BadEmm : EmmFault → Heard
  BadEcm : EcmFault → Heard
  Other : PacketNumber → Packet → Heard

-- what a packet on the PID of entitlements is, by what is read of it
abbrev pub heard_emm : Result (Option Emm) EmmFault → Heard
heard_emm (Ok None) = Dropped
heard_emm (Ok (Some emm)) = Entitles emm
heard_emm (Err fault) = BadEmm fault

-- what a packet on the PID of control messages is, by what is read of it
abbrev pub heard_ecm : Result (Option EcmPart) EcmFault → Heard
heard_ecm (Ok None) = Dropped
heard_ecm (Ok (Some part)) = Controls part
heard_ecm (Err fault) = BadEcm fault

-- what packet number n is to a receiver in a tree of height h [this project, docs/FORMATS.md, Receiver]
unfoldable pub hears : Height → Tuning → PacketNumber → Packet → Heard
hears h tuning n packet =
    if pid_of packet == 1 then Dropped
    else if pid_of packet == tuning.emm then heard_emm (emm_read h packet)
    else if pid_of packet == tuning.ecm then heard_ecm (ecm_read packet)
    else Other n packet
