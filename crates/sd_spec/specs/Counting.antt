-- Public meaning: which packets count for a receiver that goes on, whatever comes.
use Rattle.std.specs.Prelude.{ℕ, ◌+◌, ◌==◌, ◌&&◌, ◌||◌, Bool, false, not, nat_le, List, [], ◌∷◌, length, take}
use Rattle.std.specs.Prelude.{filter, flat_map, bytes_eq, is_none, if◌then◌else◌}
use Rattle.std.specs.List.{list_any, list_all}
use Rattle.std.specs.Option.{option_map_or}
use Rattle.sd_base.specs.Types.{Packet, Packets}
use Rattle.sd_packet.specs.Header.{transport_error, scrambling_of}
use Rattle.sd_site_cards.specs.CardFields.{CardFields}
use Rattle.sd_message.specs.EcmSpelled.{listed_places}
use Rattle.sd_message.specs.declared.ecm_part.EcmPart.{EcmPart}
use Rattle.sd_message.specs.declared.ecm_part.Place.{Place}
use Rattle.sd_spec.specs.Tuned.{tuning_of}
use Rattle.sd_spec.specs.Heard.{Heard, Dropped, Entitles, Controls, BadEmm, BadEcm, Other, hears}
use Rattle.sd_spec.specs.Stretches.{counted_parts, run_of_parts, newest_message, is_closed, held_in}
use Rattle.sd_spec.specs.Confirmed.{is_foreign_under}
use Rattle.sd_spec.specs.Offered.{heard, offered, same_header}
use Rattle.sd_spec.specs.Taken.{takes_key_at}

-- the packet has an error that could not be corrected [ISO/IEC 13818-1, 2.4.3.3]
abbrev pub is_marked : Packet → Bool
is_marked packet = transport_error packet == 1

-- among how many scrambled packets a copy is looked for [this project, docs/FORMATS.md, Receiver]
abbrev pub most_again : ℕ
most_again = 15

-- the packet is scrambled
abbrev pub is_scrambled_packet : Packet → Bool
is_scrambled_packet packet = not (scrambling_of packet == 0)

-- the packet is equal to one of the last scrambled ones of these. The newest comes first
abbrev pub is_copy : Packets → Packet → Bool
is_copy past packet = is_scrambled_packet packet
    && list_any (bytes_eq packet) (take most_again (filter is_scrambled_packet past))

-- the places are equal
abbrev pub is_equal_place : Place → Place → Bool
is_equal_place a b = (a.pid == b.pid) && (a.position == b.position)

-- a part says nothing new after those that are collected, the newest first
abbrev pub says_nothing_new : EcmPart → List EcmPart → Bool
says_nothing_new part [] = false
says_nothing_new part (last ∷ run) = same_header last part && (nat_le part.part last.part
    && list_all (λ place. list_any (is_equal_place place) (flat_map listed_places (last ∷ run))) (listed_places part))

-- what comes is a part of the message that is collected, and says nothing new
unfoldable pub is_part_again : List Heard → Heard → Bool
is_part_again past (Controls part) =
    says_nothing_new part (run_of_parts (counted_parts (newest_message past).message (newest_message past).after))
is_part_again past Dropped = false
is_part_again past (Entitles emm) = false
is_part_again past (BadEmm fault) = false
is_part_again past (BadEcm fault) = false
is_part_again past (Other n packet) = false

-- the packet comes again, after these that counted [this project, docs/FORMATS.md, Receiver]
unfoldable pub is_doubled : CardFields → Packets → Packet → Bool
is_doubled card past packet = is_copy past packet
    || option_map_or (λ tuning. is_part_again (heard card past) (hears card.height tuning (length past) packet))
    (tuning_of card.ca past) false

-- what comes is scrambled, and can't be under the control word of the newest message of its run, which isn't closed
-- [this project, docs/FORMATS.md, Receiver]
unfoldable pub is_stray : List Heard → Heard → Bool
is_stray past (Other n packet) = not (is_closed past) && (is_scrambled_packet packet
    && option_map_or (λ message. is_foreign_under message.word packet) (newest_message past).message false)
is_stray past Dropped = false
is_stray past (Entitles emm) = false
is_stray past (Controls part) = false
is_stray past (BadEmm fault) = false
is_stray past (BadEcm fault) = false

-- a packet that is buffered after the newest message can't be under that message's control word
unfoldable pub holds_stray : List Heard → Bool
holds_stray past = option_map_or
    (λ message. list_any (λ held. is_scrambled_packet held.1 && is_foreign_under message.word held.1)
    (held_in (newest_message past))) (newest_message past).message false

-- the packet is odd, after these that counted
unfoldable pub is_stray_at : CardFields → Packets → Packet → Bool
is_stray_at card past packet =
    option_map_or (λ tuning. is_stray (heard card past) (hears card.height tuning (length past) packet))
    (tuning_of card.ca past) false

-- the packet counts, after these that counted: it is neither marked nor doubled nor odd, and isn't refused [this
-- project, docs/FORMATS.md, Receiver]
unfoldable pub counts : CardFields → Packets → Packet → Bool
counts card past packet = not (is_marked packet) && (not (is_doubled card past packet)
    && (not (is_stray_at card past packet) && is_none (offered card past packet).fault))

-- those of these packets that count, after others that counted, which have the newest first
unfoldable pub counting : CardFields → Packets → Packets → Packets
counting card past [] = []
counting card past (packet ∷ packets) =
    if counts card past packet then packet ∷ counting card (packet ∷ past) packets
    else counting card past packets

-- how many of these packets have a key of a period tried, after others that counted: those that are neither marked nor
-- doubled nor odd, and are heard as a section that gives a key that isn't known yet, right or wrong [this project,
-- docs/FORMATS.md, Receiver]
unfoldable pub tried_keys : CardFields → Packets → Packets → ℕ
tried_keys card past [] = 0
tried_keys card past (packet ∷ packets) =
    (if (is_marked packet || (is_doubled card past packet || is_stray_at card past packet)) then 0
    else if takes_key_at card past packet then 1 else 0)
    + tried_keys card (if counts card past packet then packet ∷ past else past) packets
