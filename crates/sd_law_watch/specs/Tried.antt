-- Public meaning: how many of the packets that are refused have a key tried.
use Rattle.std.specs.Prelude.{ℕ, ◌+◌, ◌&&◌, Bool, not, [], ◌∷◌, is_none, if◌then◌else◌}
use Rattle.sd_base.specs.Types.{Packet, Packets}
use Rattle.sd_site_cards.specs.CardFields.{CardFields}
use Rattle.sd_spec.specs.Taken.{takes_key_at}
use Rattle.sd_spec.specs.Offered.{offered}
use Rattle.sd_spec.specs.Counting.{is_marked, is_doubled, is_stray_at, counts}

-- the packet is refused, after these that counted: it is neither marked nor doubled nor odd [this project,
-- docs/FORMATS.md, Receiver]
unfoldable pub is_refused : CardFields → Packets → Packet → Bool
is_refused card past packet = not (is_marked packet) && (not (is_doubled card past packet)
    && (not (is_stray_at card past packet) && not (is_none (offered card past packet).fault)))

-- how many of these packets are refused and are heard as a section that gives a key that isn't known yet, after others
-- that counted
unfoldable pub refused_keys : CardFields → Packets → Packets → ℕ
refused_keys card past [] = 0
refused_keys card past (packet ∷ packets) =
    (if is_refused card past packet && takes_key_at card past packet then 1 else 0)
    + refused_keys card (if counts card past packet then packet ∷ past else past) packets
