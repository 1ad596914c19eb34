-- Public meaning: which clear packets a receiver writes that is switched off and on and loses packets. Events are
-- listed with the newest first.
use Rattle.std.specs.Prelude.{ℕ, nat_eq, List, filter, length, map, take}
use Rattle.std.specs.List.{flat_map, list_any, range_with_len}
use Rattle.sd_base.specs.Types.{Packets, Arrived, LeafNumber, PacketNumber}
use Rattle.sd_site_cards.specs.CardFields.{CardFields, site_card}
use Rattle.sd_spec.specs.Plan.{Plan}
use Rattle.sd_spec.specs.Sent.{Item, Cat, sent}
use Rattle.sd_law_losses.specs.Kept.{after_cat}
use Rattle.sd_law_losses.specs.Confirmed.{is_confirmed_at}
use Rattle.sd_spec.specs.declared.event.Event.{Event}
use Rattle.sd_spec.specs.Book.{sends}
use Rattle.sd_spec.specs.Watch.{Watch, at_places, times}

-- the most things that are sent for one clear packet, if the tree is of height at most 6: the CAT, 43 sections for at
-- most 127 sets, 22 parts of a control message, and the packet [this project, docs/FORMATS.md, Broadcast]
abbrev pub most_added : ℕ
most_added = 67

-- the card of leaf u of the plan's site
abbrev pub plan_card : Plan → LeafNumber → CardFields
plan_card plan u = site_card plan.site u

-- the clear packets that were sent in these events
abbrev pub clear_sent_in : Packets → List Event → Packets
clear_sent_in clear past = take (sends (length clear) past) clear

-- of each number below n, whether it is one of these
unfoldable pub arrived_flags : List PacketNumber → ℕ → Arrived
arrived_flags places n = map (λ i. list_any (nat_eq i) places) (range_with_len 0 n)

-- what follows the first CAT, of what was sent, for a receiver that was offered the packets with these numbers in one
-- time that it was on
abbrev pub kept_at : Plan → Packets → List PacketNumber → List Item
kept_at plan clear places = after_cat (at_places Cat (sent plan clear) places)

-- the numbers of the clear packets that are confirmed to leaf u in one time that its receiver was on [this project,
-- docs/FORMATS.md, Receiver]
unfoldable pub confirmed_places_in : Plan → LeafNumber → Packets → List PacketNumber → List PacketNumber
confirmed_places_in plan u clear places =
    filter (is_confirmed_at plan u clear (kept_at plan clear places)) (range_with_len 0 (length clear))

-- the numbers of the clear packets that are confirmed to leaf u in all times that its receiver was on
unfoldable pub confirmed_to_leaf : Plan → LeafNumber → Packets → Watch → List PacketNumber
confirmed_to_leaf plan u clear w = flat_map (confirmed_places_in plan u clear) (times w)
