-- Public meaning: what a receiver of a field is offered, and what it writes. Events, and the packets of a time, are
-- listed with the newest first.
use Rattle.std.specs.Prelude.{ℕ, suc, ◌==◌, ◌&&◌, Bool, true, false, not, nat_lt, List, [], ◌∷◌, map}
use Rattle.std.specs.Prelude.{length, take, reverse, get_or, if◌then◌else◌}
use Rattle.std.specs.List.{concat, flat_map}
use Rattle.sd_base.specs.Types.{Packets, LeafNumber, PacketNumber}
use Rattle.sd_site_cards.specs.CardFields.{CardFields}
use Rattle.sd_engine.specs.Stream.{packets_of}
use Rattle.sd_spec.specs.Plan.{Plan}
use Rattle.sd_spec.specs.Sent.{body}
use Rattle.sd_spec.specs.Offered.{out_from}
use Rattle.sd_spec.specs.declared.event.Event.{Event}
use Rattle.sd_spec.specs.declared.event.Event.TheVariants.{Subscribe, Revoke, Send, Offer, Lose, Off, On}
use Rattle.sd_spec.specs.Book.{sends}

-- One receiver: whether it is on; the number of packets that it has passed; the numbers of the packets that it was
-- offered since it was last switched on; and, for each earlier time that it was on, of those that it was offered then
pub record Watch : Type 0 where
  pub on : Bool
  pub cursor : ℕ
  pub now : List PacketNumber
  pub earlier : List (List PacketNumber)

-- it passes one packet, and is offered it if it is on
abbrev pub offered_to : Watch → Watch
offered_to w =
    if w.on then record { on = w.on; cursor = suc w.cursor; now = w.cursor ∷ w.now; earlier = w.earlier }
    else record { on = w.on; cursor = suc w.cursor; now = w.now; earlier = w.earlier }

-- it passes one packet, and isn't offered it
abbrev pub passed_by : Watch → Watch
passed_by w = record { on = w.on; cursor = suc w.cursor; now = w.now; earlier = w.earlier }

-- it is switched off
abbrev pub switched_off : Watch → Watch
switched_off w = record { on = false; cursor = w.cursor; now = w.now; earlier = w.earlier }

-- it is switched on, as a new receiver that was offered nothing
abbrev pub switched_on : Watch → Watch
switched_on w = record { on = true; cursor = w.cursor; now = []; earlier = w.now ∷ w.earlier }

-- the receiver of leaf u after one event more, which comes after n packets were sent
abbrev pub watch_after_event : LeafNumber → ℕ → Event → Watch → Watch
watch_after_event u n (Subscribe v) w = w
watch_after_event u n (Revoke v) w = w
watch_after_event u n Send w = w
watch_after_event u n (Offer v) w = if (v == u) && nat_lt w.cursor n then offered_to w else w
watch_after_event u n (Lose v) w = if (v == u) && nat_lt w.cursor n then passed_by w else w
watch_after_event u n (Off v) w = if v == u then switched_off w else w
watch_after_event u n (On v) w = if (v == u) && not w.on then switched_on w else w

-- the packets that are sent for a clear stream
unfoldable pub stream : Plan → Packets → Packets
stream plan clear = packets_of (concat (body plan clear))

-- the number of packets that are sent for the first k of a clear stream
abbrev pub count_sent : Plan → Packets → ℕ → ℕ
count_sent plan clear k = length (stream plan (take k clear))

-- the receiver of leaf u after these events
unfoldable pub watch : Plan → Packets → LeafNumber → List Event → Watch
watch plan clear u [] = record { on = true; cursor = 0; now = []; earlier = [] }
watch plan clear u (event ∷ past) =
    watch_after_event u (count_sent plan clear (sends (length clear) past)) event (watch plan clear u past)

-- the times that it was on, the oldest first, and in each the numbers of the packets that it was offered, in order
unfoldable pub times : Watch → List (List PacketNumber)
times w = reverse (map reverse (w.now ∷ w.earlier))

-- the elements of a list at these indices, or `none` past its end
unfoldable pub at_places : {A : Type 0} → A → List A → List ℕ → List A
at_places none xs places = map (λ i. get_or xs i none) places

-- the packets that it was offered since it was last switched on, if these clear packets are sent
unfoldable pub present : Plan → Packets → Watch → Packets
present plan clear w = at_places [] (stream plan clear) (reverse w.now)

-- what the receivers with this card write, one time after the other, if these clear packets are sent [this project,
-- docs/FORMATS.md, Receiver]
unfoldable pub written : Plan → CardFields → Packets → Watch → Packets
written plan card clear w = flat_map (λ places. out_from card [] (at_places [] (stream plan clear) places)) (times w)
