-- What one event more makes of a seat.
use Rattle.std.proofs.Common.{arith, ◌≡◌, ℕ, suc, ◌+◌, ◌<◌, ◌≤◌, List, [], ◌∷◌, ◌++◌, refl, ap, sym, subst, ◌∙◌, Bool}
use Rattle.std.proofs.Common.{true, false}
use Rattle.std.proofs.Common.{inl, inr, length, zero}
use Rattle.std.specs.Prelude.{◌⊎◌, ◌&&◌, ◌==◌, get_or, map, nat_lt, reverse, slice_get, IsSome, is_some, Option}
use Rattle.std.specs.Prelude.{None, Some, Result, Ok, Err, IfOk}
use Rattle.std.specs.List.{concat, flat_map}
use Rattle.std.proofs.lemmas.Bool.Decides.{nat_tests}
use Rattle.std.proofs.lemmas.List.Folds.{concat-append}
use Rattle.std.proofs.lemmas.Option.{get_or_from_slice_get, slice_get_within}
use Rattle.sd_site_cards.specs.declared.site.Site.{Site}
use Rattle.sd_site_cards.specs.declared.card.Card.{Card}
use Rattle.sd_site_cards.specs.CardFields.{CardFields, card_fields_of, card_of}
use Rattle.sd_spec.specs.Plan.{Plan}
use Rattle.sd_ports.specs.Memory.{Store}
use Rattle.sd_spec.specs.Offered.{out_from, break_from}
use Rattle.sd_receive.specs.Receiving.{HasReceived, MayReceive, receiver_card}
use Rattle.sd_receive.specs.declared.receiver.Receiver.{Receiver}
use Rattle.sd_spec.specs.declared.event.Event.TheVariants.{Lose, Off, Offer, On}
use Rattle.sd_spec.specs.Watch.{Watch, at_places, passed_by, present, stream, times, watch_after_event}
use Rattle.sd_spec.specs.Watch.{switched_off, switched_on, written}
use Rattle.sd_spec.proofs.Offers.{heard_is, on_is, offer_is_present, switched_writes_nothing, written_parts}
use Rattle.sd_field.specs.Heard.{HasStoreRoom, IsHeard}
use Rattle.sd_field.specs.Seats.{AreNew, IsNewSeat, IsSeated, wrote_before}
use Rattle.sd_field.specs.declared.seat.Seat.{Seat}

-- what was written is what was written before, and in the present time
pub written_in : (plan : Plan) (card : CardFields) (clear : List (List ℕ)) (w : Watch) →
    concat (written plan card clear w) ≡ wrote_before plan card clear w
    ++ concat (out_from card [] (present plan clear w))
unfolding wrote_before
written_in plan card clear w =
    ap concat (written_parts plan card clear w)
    ∙ concat-append
    (flat_map (λ places. out_from card [] (at_places [] (stream plan clear) places)) (reverse (map reverse w.earlier)))
    (out_from card [] (present plan clear w))

-- a seat that is off passes a packet
off_passes : (u n : ℕ) (w : Watch) → w.on ≡ false → w.cursor < n → watch_after_event u n (Offer u) w ≡ passed_by w
off_passes u n w off left =
    let test : ((u == u) && nat_lt w.cursor n) ≡ true = grind (arith, nat_tests, left) in
    rw test (rw off refl)

-- a seat that is on heard a packet
pub heard_seat : (plan : Plan) (card : CardFields) (clear : List (List ℕ)) (total u n : ℕ) (w : Watch) (seat : Seat)
    (before after : Receiver) (packet : List ℕ) (store : Store) (cursor : ℕ) → seat.receiver ≡ Some before →
    w.cursor < n → packet ≡ get_or (stream plan clear) w.cursor [] → IsSeated plan card clear total w seat →
    cursor ≡ seat.cursor + 1 → HasStoreRoom total store →
    IsHeard card (wrote_before plan card clear w) (present plan clear w ++ packet ∷ []) after store.held →
    IsSeated plan card clear total (watch_after_event u n (Offer u) w)
    (record { receiver = Some after; cursor = cursor; written = store })
unfolding wrote_before
heard_seat plan card clear total u n w seat before after packet store cursor some left next seated more room heard =
    let on : w.on ≡ true = seated.on.0 (subst IsSome (sym some) refl) in
    let is = heard_is u n w on left in
    let to : Watch = watch_after_event u n (Offer u) w in
    let now : present plan clear to ≡ present plan clear w ++ packet ∷ [] =
    offer_is_present plan clear u n w on left
    ∙ ap (λ (p : List ℕ). present plan clear w ++ p ∷ []) (sym next) in
    let before_same : wrote_before plan card clear to ≡ wrote_before plan card clear w =
    ap (λ (x : Watch). concat (flat_map (λ places. out_from card [] (at_places [] (stream plan clear) places))
    (reverse (map reverse x.earlier)))) is in
    record {
      cursor = more ∙ (ap (λ (k : ℕ). k + 1) seated.cursor ∙ (let e : w.cursor + 1 ≡ suc w.cursor = omega arith in e
          ∙ ap (λ (x : Watch). x.cursor) (sym is)));
      on = (λ _. ap (λ (x : Watch). x.on) is ∙ on, λ _. refl);
      held =
          heard.bytes
          ∙ (ap (λ (xs : List (List ℕ)). wrote_before plan card clear w ++ concat (out_from card [] xs)) (sym now)
          ∙ (ap (λ (first : List ℕ). first ++ concat (out_from card [] (present plan clear to))) (sym before_same)
          ∙ sym (written_in plan card clear to)));
      room = room;
      heard = λ receiver same.
          subst (λ (r : Receiver). IsHeard card (wrote_before plan card clear to) (present plan clear to) r store.held)
          (let e : after ≡ receiver = cc in e)
          (subst (λ (xs : List (List ℕ)). IsHeard card (wrote_before plan card clear to) xs after store.held) (sym now)
          (subst (λ (first : List ℕ). IsHeard card first (present plan clear w ++ packet ∷ []) after store.held)
          (sym before_same) heard));
    }

-- a seat that passes a packet, and isn't offered it
passed_same : (plan : Plan) (card : CardFields) (clear : List (List ℕ)) (total : ℕ) (w : Watch) (seat : Seat)
    (cursor : ℕ) → IsSeated plan card clear total w seat → cursor ≡ suc w.cursor →
    IsSeated plan card clear total (passed_by w)
    (record { receiver = seat.receiver; cursor = cursor; written = seat.written })
unfolding wrote_before present written times
passed_same plan card clear total w seat cursor seated next = record {
  cursor = next;
  on = seated.on;
  held = seated.held;
  room = seated.room;
  heard = seated.heard;
}

-- a seat that is off passed one
pub passed_seat : (plan : Plan) (card : CardFields) (clear : List (List ℕ)) (total u n : ℕ) (w : Watch) (seat : Seat)
    (cursor : ℕ) → seat.receiver ≡ None → w.cursor < n → IsSeated plan card clear total w seat →
    cursor ≡ seat.cursor + 1 →
    IsSeated plan card clear total (watch_after_event u n (Offer u) w)
    (record { receiver = seat.receiver; cursor = cursor; written = seat.written })
passed_seat plan card clear total u n w seat cursor none left seated more = by_on w.on refl
  where
    by_on : (on : Bool) → w.on ≡ on → IsSeated plan card clear total (watch_after_event u n (Offer u) w)
        (record { receiver = seat.receiver; cursor = cursor; written = seat.written })
    by_on true on = absurd (let no = subst IsSome none (seated.on.1 on) in cc)
    by_on false off =
        let next : cursor ≡ suc w.cursor = omega (arith, more, seated.cursor) in
        subst (λ (x : Watch). IsSeated plan card clear total x
        (record { receiver = seat.receiver; cursor = cursor; written = seat.written }))
        (sym (off_passes u n w off left))
        (passed_same plan card clear total w seat cursor seated next)

-- a seat whose receiver is switched on
new_seat : (plan : Plan) (card : CardFields) (clear : List (List ℕ)) (total : ℕ) (w : Watch) (seat : Seat)
    (receiver : Receiver) → IsSeated plan card clear total w seat → HasReceived [] receiver → MayReceive receiver →
    receiver_card receiver ≡ card →
    IsSeated plan card clear total (switched_on w)
    (record { receiver = Some receiver; cursor = seat.cursor; written = seat.written })
unfolding present at_places out_from break_from
new_seat plan card clear total w seat receiver seated new live same =
    let held : seat.written.held ≡ wrote_before plan card clear (switched_on w) ++ [] =
    seated.held ∙ (ap concat (sym (switched_writes_nothing plan card clear w))
    ∙ written_in plan card clear (switched_on w)) in
    record {
      cursor = seated.cursor;
      on = (λ _. refl, λ _. refl);
      held = held ∙ sym (written_in plan card clear (switched_on w));
      room = seated.room;
      heard = λ other is.
          subst (λ (r : Receiver). IsHeard card (wrote_before plan card clear (switched_on w)) [] r seat.written.held)
          (let e : receiver ≡ other = cc in e)
          (record {
            bytes = held;
            stands = λ _. record {
              start = receiver;
              bytes = [];
              steps = 0;
              new = new;
              live = live;
              same = same;
              chain = (refl, refl, refl);
              wrote = refl;
            };
            broken = λ why is. absurd cc;
            live = live;
          });
    }

pub on_seat : (plan : Plan) (card : CardFields) (clear : List (List ℕ)) (total u n : ℕ) (w : Watch) (seat : Seat)
    (receiver : Receiver) → seat.receiver ≡ None → IsSeated plan card clear total w seat → HasReceived [] receiver →
    MayReceive receiver → receiver_card receiver ≡ card →
    IsSeated plan card clear total (watch_after_event u n (On u) w)
    (record { receiver = Some receiver; cursor = seat.cursor; written = seat.written })
on_seat plan card clear total u n w seat receiver none seated new live same = by_on w.on refl
  where
    to : Seat
    to = record { receiver = Some receiver; cursor = seat.cursor; written = seat.written }

    by_on : (on : Bool) → w.on ≡ on → IsSeated plan card clear total (watch_after_event u n (On u) w) to
    by_on true on = absurd (let no = subst IsSome none (seated.on.1 on) in cc)
    by_on false off =
        subst (λ (x : Watch). IsSeated plan card clear total x to) (sym (on_is u n w off))
        (new_seat plan card clear total w seat receiver seated new live same)

-- a seat whose receiver is switched off
off_same : (plan : Plan) (card : CardFields) (clear : List (List ℕ)) (total : ℕ) (w : Watch) (seat : Seat) →
    IsSeated plan card clear total w seat → IsSeated plan card clear total (switched_off w)
    (record { receiver = None; cursor = seat.cursor; written = seat.written })
unfolding wrote_before present written times
off_same plan card clear total w seat seated = record {
  cursor = seated.cursor;
  on = (λ some. absurd (let no = some in cc), λ on. absurd (let no = on in cc));
  held = seated.held;
  room = seated.room;
  heard = λ receiver is. absurd (let no = is in cc);
}

pub off_seat : (plan : Plan) (card : CardFields) (clear : List (List ℕ)) (total u n : ℕ) (w : Watch) (seat : Seat) →
    IsSeated plan card clear total w seat → IsSeated plan card clear total (watch_after_event u n (Off u) w)
    (record { receiver = None; cursor = seat.cursor; written = seat.written })
off_seat plan card clear total u n w seat seated =
    let test : (u == u) ≡ true = grind (arith, nat_tests) in
    rw test (off_same plan card clear total w seat seated)

-- a seat that lost a packet
pub lost_seat : (plan : Plan) (card : CardFields) (clear : List (List ℕ)) (total u n : ℕ) (w : Watch) (seat : Seat)
    (cursor : ℕ) → seat.cursor < n → IsSeated plan card clear total w seat → cursor ≡ seat.cursor + 1 →
    IsSeated plan card clear total (watch_after_event u n (Lose u) w)
    (record { receiver = seat.receiver; cursor = cursor; written = seat.written })
lost_seat plan card clear total u n w seat cursor left seated more =
    let test : ((u == u) && nat_lt w.cursor n) ≡ true = grind (arith, nat_tests, left, seated.cursor) in
    rw test (passed_same plan card clear total w seat cursor seated (omega (arith, more, seated.cursor)))

pub none_lost : (plan : Plan) (card : CardFields) (clear : List (List ℕ)) (total u n : ℕ) (w : Watch) (seat : Seat) →
    n ≤ seat.cursor → IsSeated plan card clear total w seat →
    IsSeated plan card clear total (watch_after_event u n (Lose u) w) seat
none_lost plan card clear total u n w seat none seated =
    let test : ((u == u) && nat_lt w.cursor n) ≡ false = grind (arith, nat_tests, none, seated.cursor) in
    rw test seated

-- no receiver is there
pub none_there : (receiver : Option Receiver) → is_some receiver ≡ false → receiver ≡ None
none_there None is = refl
none_there (Some receiver) is = absurd (let no = is in cc)

-- what a seat that is on writes of a packet
pub heard_full : (plan : Plan) (card : CardFields) (clear : List (List ℕ)) (total u n : ℕ) (w : Watch) (seat : Seat)
    (before : Receiver) (packet : List ℕ) → seat.receiver ≡ Some before → w.cursor < n →
    packet ≡ get_or (stream plan clear) w.cursor [] → IsSeated plan card clear total w seat →
    total < length (wrote_before plan card clear w
    ++ concat (out_from card [] (present plan clear w ++ packet ∷ []))) →
    total < length (concat (written plan card clear (watch_after_event u n (Offer u) w)))
unfolding wrote_before
heard_full plan card clear total u n w seat before packet some left next seated full =
    let on : w.on ≡ true = seated.on.0 (subst IsSome (sym some) refl) in
    let to : Watch = watch_after_event u n (Offer u) w in
    let now : present plan clear to ≡ present plan clear w ++ packet ∷ [] =
    offer_is_present plan clear u n w on left
    ∙ ap (λ (p : List ℕ). present plan clear w ++ p ∷ []) (sym next) in
    let before_same : wrote_before plan card clear to ≡ wrote_before plan card clear w =
    ap (λ (x : Watch). concat (flat_map (λ places. out_from card [] (at_places [] (stream plan clear) places))
    (reverse (map reverse x.earlier)))) (heard_is u n w on left) in
    let all : concat (written plan card clear to) ≡ wrote_before plan card clear w
    ++ concat (out_from card [] (present plan clear w ++ packet ∷ [])) =
    written_in plan card clear to
    ∙ (ap (λ (first : List ℕ). first ++ concat (out_from card [] (present plan clear to))) before_same
    ∙ ap (λ (xs : List (List ℕ)). wrote_before plan card clear w ++ concat (out_from card [] xs)) now) in
    omega (arith, full, ap length all)

-- a place that is there is below the length
pub left_at : (xs : List (List ℕ)) (i : ℕ) → is_some (slice_get xs i) ≡ true → i < length xs
left_at [] i is = absurd (let no = is in cc)
left_at (x ∷ xs) zero is = omega arith
left_at (x ∷ xs) (suc i) is = let rest = left_at xs i is in omega (arith, rest)

-- one that isn't is at its end, or past it
pub none_at : (xs : List (List ℕ)) (i : ℕ) → is_some (slice_get xs i) ≡ false → length xs ≤ i
none_at [] i is = omega arith
none_at (x ∷ xs) zero is = absurd (let no = is in cc)
none_at (x ∷ xs) (suc i) is = let rest = none_at xs i is in omega (arith, rest)

-- a receiver that isn't there is off
pub off_if_none : (plan : Plan) (card : CardFields) (clear : List (List ℕ)) (total : ℕ) (w : Watch) (seat : Seat) →
    is_some seat.receiver ≡ false → IsSeated plan card clear total w seat → w.on ≡ false
off_if_none plan card clear total w seat none seated = by_on w.on refl
  where
    by_on : (on : Bool) → w.on ≡ on → w.on ≡ false
    by_on true on = absurd (let no = subst IsSome (none_there seat.receiver none) (seated.on.1 on) in cc)
    by_on false on = on

-- the seat of a new receiver
pub first_seat : (card : CardFields) (total : ℕ) (receiver : Receiver) (store : Store) → store.held ≡ [] →
    HasStoreRoom total store → HasReceived [] receiver → MayReceive receiver → receiver_card receiver ≡ card →
    IsNewSeat card total (record { receiver = Some receiver; cursor = 0; written = store })
unfolding present at_places out_from break_from wrote_before
first_seat card total receiver store held room new live same plan clear =
    let start : Watch = record { on = true; cursor = 0; now = []; earlier = [] } in
    let none : concat (written plan card clear start) ≡ [] = written_in plan card clear start in
    record {
      cursor = refl;
      on = (λ _. refl, λ _. refl);
      held = held ∙ sym none;
      room = room;
      heard = λ other is.
          subst (λ (r : Receiver). IsHeard card (wrote_before plan card clear start) [] r store.held)
          (let e : receiver ≡ other = cc in e)
          (record {
            bytes = held;
            stands = λ _. record {
              start = receiver;
              bytes = [];
              steps = 0;
              new = new;
              live = live;
              same = same;
              chain = (refl, refl, refl);
              wrote = refl;
            };
            broken = λ why is. absurd cc;
            live = live;
          });
    }

-- a new seat more
pub seats_more : (site : Site) (total : ℕ) (seats : List Seat) (more : Seat) → AreNew site total seats →
    IsNewSeat (card_of site.master site.ca site.height (length seats)) total more →
    AreNew site total (seats ++ more ∷ [])
seats_more site total seats more old new u seat there = elim (before_or_last seats u there) [
  | inl before ↦ old u seat before
  | inr last ↦
      subst (λ (s : Seat). IsNewSeat (card_of site.master site.ca site.height u) total s) last.1
      (subst (λ (k : ℕ). IsNewSeat (card_of site.master site.ca site.height k) total more) last.0 new)
]
  where
    before_or_last : (xs : List Seat) (k : ℕ) → slice_get (xs ++ more ∷ []) k ≡ Some seat →
        (slice_get xs k ≡ Some seat) ⊎ ((length xs ≡ k) × (more ≡ seat))
    before_or_last [] zero is = inr (refl, let e : more ≡ seat = cc in e)
    before_or_last [] (suc k) is = absurd (let no = is in cc)
    before_or_last (x ∷ xs) zero is = inl is
    before_or_last (x ∷ xs) (suc k) is = elim (before_or_last xs k is) [
      | inl before ↦ inl before
      | inr last ↦ inr (ap suc last.0, last.1)
    ]

-- what is there is some value
pub some_there : {A : Type 0} (value : Option A) → IsSome value → ((x : A) → value ≡ Some x → ⊥) → ⊥
some_there None some never = absurd (let none = some in cc)
some_there (Some x) some never = never x refl

-- a receiver has the card that it was made with
pub has_card : {E : Type 0} (made : Result Receiver E) (card : Card) (fields : CardFields) →
    IfOk made (λ receiver. receiver.card ≡ card) → card_fields_of card ≡ fields →
    IfOk made (λ receiver. receiver_card receiver ≡ fields)
has_card (Ok receiver) card fields is same = ap card_fields_of is ∙ same
has_card (Err fault) card fields is same = tt

-- a seat that passed all packets stays as it is
pub none_passed : (plan : Plan) (card : CardFields) (clear : List (List ℕ)) (total u n : ℕ) (w : Watch) (seat : Seat) →
    n ≤ seat.cursor → IsSeated plan card clear total w seat →
    IsSeated plan card clear total (watch_after_event u n (Offer u) w) seat
none_passed plan card clear total u n w seat none seated =
    let test : ((u == u) && nat_lt w.cursor n) ≡ false = grind (arith, nat_tests, none, seated.cursor) in
    rw test seated

-- a packet that is there is the next of the stream
pub record IsNext (sent all : List (List ℕ)) (k : ℕ) (packet : List ℕ) : Type 0 where
  pub left : k < length sent
  pub is : packet ≡ get_or all k []

pub next_there : (sent all : List (List ℕ)) (i k : ℕ) (packet : List ℕ) → Some packet ≡ slice_get sent i → i ≡ k →
    sent ≡ all → IsNext sent all k packet
next_there sent all i k packet there same stream =
    let is : slice_get sent k ≡ Some packet = ap (slice_get sent) (sym same) ∙ sym there in
    record {
      left = slice_get_within sent k packet is;
      is = sym (get_or_from_slice_get sent k packet [] is) ∙ ap (λ (xs : List (List ℕ)). get_or xs k []) stream;
    }
