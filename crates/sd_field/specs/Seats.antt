-- Public meaning: one seat of a field: a leaf's receiver, the number of packets that it has passed, and what was
-- written.
use Rattle.std.specs.Prelude.{◌≡◌, ◌↔◌, ℕ, true, List, [], map, reverse, slice_get, IsSome, Some}
use Rattle.std.specs.List.{concat, flat_map}
use Rattle.sd_site_cards.specs.declared.site.Site.{Site}
use Rattle.sd_site_cards.specs.CardFields.{CardFields, card_of}
use Rattle.sd_spec.specs.Plan.{Plan}
use Rattle.sd_spec.specs.Offered.{out_from}
use Rattle.sd_receive.specs.declared.receiver.Receiver.{Receiver}
use Rattle.sd_spec.specs.Watch.{Watch, at_places, present, stream, written}
use Rattle.sd_field.specs.Heard.{HasStoreRoom, IsHeard}
use Rattle.sd_field.specs.declared.seat.Seat.{Seat}

-- the bytes that were written in the earlier times that the receiver was on
unfoldable pub wrote_before : Plan → CardFields → List (List ℕ) → Watch → List ℕ
wrote_before plan card clear w = concat (flat_map (λ places. out_from card [] (at_places [] (stream plan clear) places))
    (reverse (map reverse w.earlier)))

-- the seat is as a watch says, with room for `total` bytes in all
pub record IsSeated (plan : Plan) (card : CardFields) (clear : List (List ℕ)) (total : ℕ) (w : Watch) (seat : Seat)
    : Type 0 where
  pub cursor : seat.cursor ≡ w.cursor
  pub on : IsSome seat.receiver ↔ (w.on ≡ true)
  pub held : seat.written.held ≡ concat (written plan card clear w)
  pub room : HasStoreRoom total seat.written
  pub heard : (receiver : Receiver) → seat.receiver ≡ Some receiver →
      IsHeard card (wrote_before plan card clear w) (present plan clear w) receiver seat.written.held

-- a seat whose receiver is on, and was offered nothing
abbrev pub IsNewSeat : CardFields → ℕ → Seat → Type 0
IsNewSeat card total seat = (plan : Plan) (clear : List (List ℕ)) →
    IsSeated plan card clear total (record { on = true; cursor = 0; now = []; earlier = [] }) seat

-- each of these seats is new: seat u is that of leaf u
abbrev pub AreNew : Site → ℕ → List Seat → Type 0
AreNew site total seats = (u : ℕ) (seat : Seat) → slice_get seats u ≡ Some seat →
    IsNewSeat (card_of site.master site.ca site.height u) total seat
