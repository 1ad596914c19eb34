-- Public meaning: a stream without some of the packets that don't count.
use Rattle.std.specs.Prelude.{◌+◌, Bool, [], ◌∷◌, if◌then◌else◌}
use Rattle.sd_base.specs.Types.{Packets, PacketNumber}
use Rattle.sd_site_cards.specs.CardFields.{CardFields}
use Rattle.sd_spec.specs.Counting.{counts}

-- of packets from number n on, after others that counted, those that count, and of the rest those that are chosen
unfoldable pub counting_and : CardFields → (PacketNumber → Bool) → PacketNumber → Packets → Packets → Packets
counting_and card keep n past [] = []
counting_and card keep n past (packet ∷ packets) =
    if counts card past packet then packet ∷ counting_and card keep (n + 1) (packet ∷ past) packets
    else if keep n then packet ∷ counting_and card keep (n + 1) past packets
    else counting_and card keep (n + 1) past packets
