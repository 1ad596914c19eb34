-- Public meaning: what is sent for a clear stream, in order.
use Rattle.std.specs.Prelude.{◌-◌, ◌/◌, ◌%◌, ◌==◌, Bool, true, false, List, [], ◌∷◌, ◌++◌, length, map}
use Rattle.std.specs.Prelude.{count_by, if◌then◌else◌}
use Rattle.std.specs.List.{concat}
use Rattle.sd_base.specs.Types.{Bytes, Packet, Packets, PacketNumber}
use Rattle.sd_packet.specs.Packing.{section_packet}
use Rattle.sd_psi.specs.OurCat.{cat_section}
use Rattle.sd_site_cards.specs.SiteFields.{SiteFields}
use Rattle.sd_message.specs.EmmSpelled.{emm_section}
use Rattle.sd_message.specs.Period.{emms_of}
use Rattle.sd_message.specs.declared.emm.Emm.{Emm}
use Rattle.sd_message.specs.EcmSpelled.{ecm_section}
use Rattle.sd_message.specs.EcmParts.{parts_of}
use Rattle.sd_message.specs.declared.ecm_part.EcmPart.{EcmPart}
use Rattle.sd_spec.specs.Plan.{Plan, crypto_length, period_of, closing_number}
use Rattle.sd_spec.specs.Carried.{carried}
use Rattle.sd_spec.specs.Messages.{period_at, message_at}

-- one thing that is sent: the CAT, a section of entitlements, a part of a control message, or a clear packet as it is
-- carried, with its number
pub data Item : Type 0 where
  Cat : Item
  Entitles : Emm → Item
  Controls : EcmPart → Item
  Carries : PacketNumber → Packet → Item

-- the thing is the CAT
abbrev pub is_cat_item : Item → Bool
is_cat_item Cat = true
is_cat_item (Entitles emm) = false
is_cat_item (Controls part) = false
is_cat_item (Carries k packet) = false

-- the CAT and all entitlements of the period of packet k
unfoldable pub tables_at : Plan → PacketNumber → List Item
tables_at plan k = Cat ∷ map Entitles (emms_of (period_at plan (period_of plan k)))

-- they stand where a crypto period begins
abbrev pub tables_before : Plan → PacketNumber → List Item
tables_before plan k = if k % crypto_length plan.site == 0 then tables_at plan k else []

-- a control message stands before every e-th packet
abbrev pub message_before : Plan → Packets → List Item
message_before plan before =
    if length before % plan.site.every == 0
    then map Controls (parts_of (message_at plan before (length before / plan.site.every) (length before) false))
    else []

-- what one packet adds after those before it: the messages that stand before it, and the packet [this project,
-- docs/FORMATS.md, Broadcast]
unfoldable pub added : Plan → Packets → Packet → List Item
added plan before packet =
    tables_before plan (length before)
    ++ (message_before plan before ++ Carries (length before) (carried plan.site before packet) ∷ [])

-- what packets add after others
unfoldable pub sent_from : Plan → Packets → Packets → List Item
sent_from plan before [] = []
sent_from plan before (packet ∷ packets) = added plan before packet ++ sent_from plan (before ++ packet ∷ []) packets

-- what a clear stream adds
abbrev pub sent : Plan → Packets → List Item
sent plan clear = sent_from plan [] clear

-- the closing message; before it the tables stand where there is no packet [this project, docs/FORMATS.md,
-- Broadcast]
unfoldable pub closing_of : Plan → Packets → List Item
closing_of plan clear =
    (if length clear == 0 then tables_at plan 0 else [])
    ++ map Controls (parts_of (message_at plan clear (closing_number plan.site (length clear)) (length clear - 1) true))

-- the things of its own kind; clear packets have counters of their own
abbrev pub is_alike : Item → Item → Bool
is_alike Cat Cat = true
is_alike (Entitles a) (Entitles b) = true
is_alike (Controls a) (Controls b) = true
is_alike a b = false

-- the packet of a thing after things sent before it: its PID's counter is how many there were, mod 16 [this project,
-- docs/FORMATS.md, Sections]
abbrev pub item_packet : SiteFields → List Item → Item → Packet
item_packet site earlier Cat = section_packet (cat_section site.ca site.emm site.ecm) 1
    (count_by (is_alike Cat) earlier % 16)
item_packet site earlier (Entitles emm) =
    section_packet (emm_section emm) site.emm (count_by (is_alike (Entitles emm)) earlier % 16)
item_packet site earlier (Controls part) =
    section_packet (ecm_section part) site.ecm (count_by (is_alike (Controls part)) earlier % 16)
item_packet site earlier (Carries k packet) = packet

-- the packets of things after others
unfoldable pub packets_from : SiteFields → List Item → List Item → Packets
packets_from site earlier [] = []
packets_from site earlier (item ∷ items) = item_packet site earlier item ∷ packets_from site (earlier ++ item ∷ [])
    items

-- the broadcast of a clear stream without its closing message, and with it
unfoldable pub body : Plan → Packets → Packets
body plan clear = packets_from plan.site [] (sent plan clear)

unfoldable pub broadcast : Plan → Packets → Packets
broadcast plan clear = packets_from plan.site [] (sent plan clear ++ closing_of plan clear)

-- the bytes that one packet adds after those before it, and those that packets add one after the other
abbrev pub bytes_added : Plan → Packets → Packet → Bytes
bytes_added plan before packet = concat (packets_from plan.site (sent plan before) (added plan before packet))

unfoldable pub sent_bytes_from : Plan → Packets → Packets → Bytes
sent_bytes_from plan before [] = []
sent_bytes_from plan before (packet ∷ packets) = bytes_added plan before packet
    ++ sent_bytes_from plan (before ++ packet ∷ []) packets
