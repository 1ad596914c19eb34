-- Public meaning: a field: a head end and a receiver for each leaf, to which events happen one after the other [this
-- project, docs/FORMATS.md, Field].
use Rattle.std.specs.Prelude.{◌≡◌, ◌⊎◌, ◌↔◌, ℕ, suc, ◌*◌, ◌+◌, ◌^◌, ◌<◌, ◌≤◌, ◌&&◌, true, false, nat_lt, List, []}
use Rattle.std.specs.Prelude.{All, length, reverse, take, get_or, slice_get, if◌then◌else◌}
use Rattle.std.specs.Prelude.{Option, Some, None, IsSome, option_and_then}
use Rattle.std.specs.List.{concat}
use Rattle.sd_site_cards.specs.SiteFields.{SiteFields}
use Rattle.sd_site_cards.specs.CardFields.{CardFields, site_card}
use Rattle.sd_book.specs.Value.{BookValue}
use Rattle.sd_message.specs.declared.clear_fault.ClearFault.{ClearFault}
use Rattle.sd_spec.specs.Plan.{Plan, IsPlan}
use Rattle.sd_spec.specs.Refused.{refusal_of, IsClear}
use Rattle.sd_spec.specs.Sent.{body}
use Rattle.sd_head.specs.Schedule.{begins_with}
use Rattle.sd_spec.specs.declared.event.Event.{Event}
use Rattle.sd_spec.specs.declared.event.Event.TheVariants.{Subscribe, Revoke, Send, Offer, Lose, Off, On}
use Rattle.sd_spec.specs.Events.{is_of, is_send}
use Rattle.sd_spec.specs.Book.{sends, plan_after}
use Rattle.sd_spec.specs.Watch.{Watch, watch, written}
use Rattle.sd_field.specs.declared.fault.FieldFault.{FieldFault}
use Rattle.sd_field.specs.declared.fault.FieldFault.TheVariants.{NoMemory}
use Rattle.sd_field.specs.Heard.{HasStoreRoom}
use Rattle.sd_field.specs.Seats.{IsSeated}
use Rattle.sd_field.specs.Stations.{IsHeadAfter}
use Rattle.sd_field.specs.declared.seat.Seat.{Seat}
use Rattle.sd_field.specs.declared.station.Station.{Station}

-- a field: its site, its clear packets, its events with the oldest first, the number of events that are done, and the
-- fault at which it stopped, if it did
pub record FieldValue : Type 0 where
  pub site : SiteFields
  pub clear : List (List ℕ)
  pub events : List Event
  pub done : ℕ
  pub failed : Option FieldFault

-- the events that are done, the newest first
abbrev pub past_of : FieldValue → List Event
past_of v = reverse (take v.done v.events)

-- the number of clear packets that were sent
abbrev pub sends_of : FieldValue → ℕ
sends_of v = sends (length v.clear) (past_of v)

-- the clear packets that were sent
abbrev pub field_clear_packets : FieldValue → List (List ℕ)
field_clear_packets v = take (sends_of v) v.clear

-- the site with the book of all events, whether they are done or not
abbrev pub plan_of_field : FieldValue → Plan
plan_of_field v = plan_after v.site (length v.clear) (reverse v.events)

-- leaf u's receiver after the events that are done
abbrev pub watch_of : ℕ → FieldValue → Watch
watch_of u v = watch (plan_of_field v) v.clear u (past_of v)

-- leaf u's card
abbrev pub field_card : FieldValue → ℕ → CardFields
field_card v u = site_card v.site u

-- what leaf u's receivers wrote
abbrev pub written_of : ℕ → FieldValue → List ℕ
written_of u v = concat (written (plan_of_field v) (field_card v u) (field_clear_packets v) (watch_of u v))

-- one event more is done
abbrev pub after_next : FieldValue → FieldValue
after_next v =
    record { site = v.site; clear = v.clear; events = v.events; done = v.done + 1; failed = v.failed }

-- this number of events is done
abbrev pub done_to : ℕ → FieldValue → FieldValue
done_to done v = record { site = v.site; clear = v.clear; events = v.events; done = done; failed = v.failed }

-- the field stopped at the next event with this fault
abbrev pub after_fault : FieldFault → FieldValue → FieldValue
after_fault fault v =
    record { site = v.site; clear = v.clear; events = v.events; done = v.done; failed = Some fault }

-- the next event, if one is left
abbrev pub next_event : FieldValue → Option Event
next_event v = slice_get v.events v.done

-- why the clear packet that an event sends is refused: only a send sends one, if one is left
abbrev pub refusal_at : FieldValue → Event → Option ClearFault
refusal_at v event =
    if is_send event && nat_lt (sends_of v) (length v.clear)
    then refusal_of v.site (field_clear_packets v) (get_or v.clear (sends_of v) []) else None

-- why the clear packet that the next event sends is refused
abbrev pub next_refusal : FieldValue → Option ClearFault
next_refusal v = option_and_then (refusal_at v) (next_event v)

-- the field stopped at a send
abbrev pub IsSendRefused : FieldValue → Type 0
IsSendRefused v = IsSome v.failed × (next_event v ≡ Some Send)

-- the next event is a send that isn't refused, and all that is then sent is more than the room of 72 packets for each
-- clear packet
pub record IsSentOver (v : FieldValue) : Type 0 where
  pub next : next_event v ≡ Some Send
  pub allowed : next_refusal v ≡ None
  pub over : 188 * 72 * length v.clear < length (concat (body (plan_of_field v) (take (suc (sends_of v)) v.clear)))

-- the next event is an offer to leaf u, and all that its receivers then wrote is more than the room of one packet for
-- each clear packet
pub record IsWrittenOver (u : ℕ) (v : FieldValue) : Type 0 where
  pub next : next_event v ≡ Some (Offer u)
  pub over : 188 * length v.clear < length (written_of u (after_next v))

-- a send was cut short, since the room didn't suffice
abbrev pub IsSentCut : FieldValue → Type 0
IsSentCut v = (v.failed ≡ Some NoMemory) × IsSentOver v

-- an offer to leaf u was cut short, since the room didn't suffice
abbrev pub IsWrittenCut : ℕ → FieldValue → Type 0
IsWrittenCut u v = (v.failed ≡ Some NoMemory) × IsWrittenOver u v

-- the next event may run out of memory: a send with which a period begins, a send or an offer for which the room
-- doesn't suffice, or switching on a receiver that is off
abbrev pub EventTakesMemory : FieldValue → Option Event → Type 0
EventTakesMemory v None = ⊥
EventTakesMemory v (Some (Subscribe u)) = ⊥
EventTakesMemory v (Some (Revoke u)) = ⊥
EventTakesMemory v (Some Send) = (begins_with (plan_of_field v) (sends_of v) ≡ true) ⊎ IsSentOver v
EventTakesMemory v (Some (Offer u)) = IsWrittenOver u v
EventTakesMemory v (Some (Lose u)) = ⊥
EventTakesMemory v (Some (Off u)) = ⊥
EventTakesMemory v (Some (On u)) = (watch_of u v).on ≡ false

-- leaf u's seat is as the events that are done leave it, unless an offer to it was cut short
pub record IsSeatKept (u : ℕ) (v : FieldValue) (seat : Seat) : Type 0 where
  pub on : IsSome seat.receiver ↔ ((watch_of u v).on ≡ true)
  pub seated : ¬ IsWrittenCut u v →
      IsSeated (plan_of_field v) (field_card v u) (field_clear_packets v) (188 * length v.clear) (watch_of u v) seat

-- each seat is as the events that are done leave it
abbrev pub AreSeated : FieldValue → List Seat → Type 0
AreSeated v seats = (u : ℕ) (seat : Seat) → slice_get seats u ≡ Some seat → IsSeatKept u v seat

-- what a field keeps: its limits, the book, the head end, and a seat for each leaf
pub record IsField (v : FieldValue) (book : BookValue) (station : Station) (seats : List Seat) : Type 0 where
  pub packets : length v.clear ≤ 16384
  pub few : length v.events ≤ 524288
  pub leaves : All (λ event. is_of v.site.height event ≡ true) v.events
  pub done : v.done ≤ length v.events
  pub plan : IsPlan (plan_of_field v)
  pub clear : IsClear v.site (field_clear_packets v)
  pub height : book.height ≡ v.site.height
  pub commands : book.commands ≡ (plan_of_field v).commands
  pub count : station.count ≡ sends_of v
  pub head : ¬ IsSendRefused v → IsHeadAfter (plan_of_field v) (field_clear_packets v) station.head
  pub sent : ¬ IsSentCut v → station.sent.held ≡ concat (body (plan_of_field v) (field_clear_packets v))
  pub room : v.failed ≡ None → HasStoreRoom (188 * 72 * length v.clear) station.sent
  pub many : length seats ≡ 2 ^ v.site.height
  pub seated : AreSeated v seats

-- the event is a command
abbrev pub IsCommand : Event → Type 0
IsCommand (Subscribe u) = Unit {0}
IsCommand (Revoke u) = Unit {0}
IsCommand Send = ⊥
IsCommand (Offer u) = ⊥
IsCommand (Lose u) = ⊥
IsCommand (Off u) = ⊥
IsCommand (On u) = ⊥
