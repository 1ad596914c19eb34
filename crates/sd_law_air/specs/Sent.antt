-- Public meaning: which packets of a clear stream are sent.
use Rattle.std.specs.Prelude.{◌≡◌, ℕ, ◌+◌, true, false, [], ◌∷◌, ◌++◌, get_or, All}
use Rattle.sd_base.specs.Types.{Packets, PacketNumber, Arrived}
use Rattle.sd_site_cards.specs.SiteFields.{SiteFields}
use Rattle.sd_spec.specs.Counting.{is_marked}
use Rattle.sd_spec.specs.Aired.{verdict_of, by_verdict}

-- of each of these packets, from packet n on, whether it is sent after others, up to the end of the broadcast [this
-- project, docs/FORMATS.md, On air]
unfoldable pub sent_flags : SiteFields → Packets → PacketNumber → Packets → Arrived
sent_flags site before n [] = []
sent_flags site before n (packet ∷ packets) = by_verdict (verdict_of site before n packet)
    (true ∷ sent_flags site (before ++ packet ∷ []) (n + 1) packets)
    (false ∷ sent_flags site before (n + 1) packets) []

-- what the one flags choose is among what the others choose
abbrev pub AreAmong : Arrived → Arrived → Type 0
AreAmong few many = (i : ℕ) → get_or few i false ≡ true → get_or many i false ≡ true

-- no packet is marked: transport_error_indicator is 0 [ISO/IEC 13818-1, 2.4.3.3]
abbrev pub AreUnmarked : Packets → Type 0
AreUnmarked packets = All (λ packet. is_marked packet ≡ false) packets
