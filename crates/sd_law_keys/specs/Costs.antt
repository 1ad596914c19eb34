-- Public meaning: what the key of one period costs a receiver. The packets before others have the newest first.
use Rattle.std.specs.Prelude.{ℕ, ◌+◌, ◌==◌, ◌&&◌, Bool, true, false, not, [], ◌∷◌, length, if◌then◌else◌}
use Rattle.std.specs.Option.{option_map_or}
use Rattle.sd_base.specs.Types.{Packet, Packets, PeriodNumber}
use Rattle.sd_site_cards.specs.CardFields.{CardFields}
use Rattle.sd_spec.specs.Tuned.{tuning_of}
use Rattle.sd_spec.specs.Heard.{Heard, Dropped, Entitles, Controls, BadEmm, BadEcm, Other, hears}
use Rattle.sd_spec.specs.Ending.{turns_at}
use Rattle.sd_receive.specs.Receiving.{steps_at}

-- a thing that is heard is a section of period q
abbrev pub is_section_of : PeriodNumber → Heard → Bool
is_section_of q (Entitles emm) = emm.period == q
is_section_of q Dropped = false
is_section_of q (Controls part) = false
is_section_of q (BadEmm fault) = false
is_section_of q (BadEcm fault) = false
is_section_of q (Other n packet) = false

-- a packet is heard as a section of period q
unfoldable pub is_section_at : PeriodNumber → CardFields → Packets → Packet → Bool
is_section_at q card past packet =
    option_map_or (λ tuning. is_section_of q (hears card.height tuning (length past) packet)) (tuning_of card.ca past)
    false

-- the most steps of the generator for the key of period q: those at these packets, after others, that are sections of q
-- [this project, docs/FORMATS.md, Receiver]
unfoldable pub steps_for : PeriodNumber → CardFields → Packets → Packets → ℕ
steps_for q card past [] = 0
steps_for q card past (packet ∷ packets) =
    (if is_section_at q card past packet then steps_at card past packet else 0)
    + steps_for q card (packet ∷ past) packets

-- none of these packets, after others, is the first message of another run
unfoldable pub is_one_run : CardFields → Packets → Packets → Bool
is_one_run card past [] = true
is_one_run card past (packet ∷ packets) = not (turns_at card past packet) && is_one_run card (packet ∷ past) packets
