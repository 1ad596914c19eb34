-- Public meaning: the control messages of a broadcast by their numbers.
use Rattle.std.specs.Prelude.{◌-◌, ◌*◌, true, false, nat_lt, length, take, if◌then◌else◌}
use Rattle.sd_base.specs.Types.{Packets, MessageNumber}
use Rattle.sd_message.specs.EcmParts.{Message}
use Rattle.sd_spec.specs.Plan.{Plan, closing_number}
use Rattle.sd_spec.specs.Messages.{message_at}

-- control message a of a clear stream: the one before its packet a e, or the closing one
-- [this project, docs/FORMATS.md, Broadcast]
unfoldable pub numbered_message : Plan → Packets → MessageNumber → Message
numbered_message plan clear a =
    if nat_lt a (closing_number plan.site (length clear))
    then message_at plan (take (a * plan.site.every) clear) a (a * plan.site.every) false
    else message_at plan clear a (length clear - 1) true
