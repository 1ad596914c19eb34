-- What a clear packet makes of the head end of a field.
use Rattle.std.proofs.Common.{arith, ◌≡◌, ℕ, ◌+◌, ◌-◌, ◌<◌, List, [], ◌∷◌, ◌++◌, refl, ap, sym, subst}
use Rattle.std.proofs.Common.{◌∙◌, append-nil, inl, inr, length, length-append}
use Rattle.std.specs.Prelude.{Option, Some, None}
use Rattle.std.specs.List.{concat}
use Rattle.std.proofs.lemmas.List.Folds.{concat-append}
use Rattle.sd_ports.specs.Memory.{Store, room_in}
use Rattle.sd_ports.specs.Rooms.{HasTaken}
use Rattle.sd_engine.specs.Stage.{Chain, IsTooShort}
use Rattle.sd_engine.proofs.Chains.{chain_on}
use Rattle.sd_spec.specs.Plan.{Plan}
use Rattle.sd_spec.specs.Refused.{refusal_of, IsClear}
use Rattle.sd_spec.specs.Sent.{Item, added, body, bytes_added, packets_from, sent, sent_from}
use Rattle.sd_spec.proofs.Sending.{packets_in_turn, sent_more}
use Rattle.sd_head.specs.Schedule.{IsDue}
use Rattle.sd_head.specs.Staged.{IsHeadEndAfter, IsHeadReady, RefusesClearPacket, head_does}
use Rattle.sd_head.specs.declared.fault.HeadFault.{HeadFault}
use Rattle.sd_head.specs.declared.head.Head.{Head}
use Rattle.sd_head.proofs.Chained.{all_clear, chained}
use Rattle.sd_field.specs.Heard.{HasStoreRoom}
use Rattle.sd_field.specs.Stations.{IsHeadAfter, IsStation}
use Rattle.sd_field.specs.declared.station.Station.{Station}

-- the head end has sent what is sent for its packets
pub head_after : (plan : Plan) (packets : List (List ℕ)) (head : Head) → IsHeadAfter plan packets head →
    IsHeadEndAfter plan packets head
head_after plan packets head stands =
    (chained plan packets stands.start head (concat (body plan packets)) stands.steps stands.new.0 stands.chain).1

-- and they are clear
pub head_clear : (plan : Plan) (packets : List (List ℕ)) (head : Head) → IsHeadAfter plan packets head →
    IsClear plan.site packets
head_clear plan packets head stands =
    all_clear plan packets stands.start head (concat (body plan packets)) stands.steps stands.new.0 stands.chain

-- so it may be offered one more
pub head_ready : (plan : Plan) (packets : List (List ℕ)) (head : Head) → IsHeadAfter plan packets head →
    IsHeadReady head
head_ready plan packets head stands calm =
    let after = head_after plan packets head stands in
    (packets, subst (λ (p : Plan). IsHeadEndAfter p packets head) (sym after.keeps_to) after)

-- it stands with one packet more
pub head_goes_on : (plan : Plan) (packets : List (List ℕ)) (s : Head) (packet : List ℕ) (t : Head) (bytes : List ℕ)
    (steps : ℕ) → IsHeadAfter plan packets s → head_does s packet t bytes steps →
    IsHeadAfter plan (packets ++ packet ∷ []) t
head_goes_on plan packets s packet t bytes steps stands does =
    let before : List ℕ = concat (body plan packets) in
    let more : List (List ℕ) = packets ++ packet ∷ [] in
    let chain = chain_on head_does stands.start packets s before stands.steps packet t bytes steps stands.chain does in
    let wrote = (chained plan more stands.start t (before ++ bytes) (stands.steps + steps) stands.new.0 chain).0 in
    record {
      start = stands.start;
      steps = stands.steps + steps;
      new = stands.new;
      chain = subst (λ (b : List ℕ). Chain head_does stands.start more t b (stands.steps + steps)) wrote chain;
    }

-- what is sent with one packet more
pub body_more : (plan : Plan) (packets : List (List ℕ)) (packet : List ℕ) →
    concat (body plan (packets ++ packet ∷ [])) ≡ concat (body plan packets) ++ bytes_added plan packets packet
unfolding body
body_more plan packets packet =
    ap (λ (items : List Item). concat (packets_from plan.site [] items)) (sent_more plan packets packet)
    ∙ (ap concat (packets_in_turn plan.site [] (sent plan packets) (added plan packets packet))
    ∙ concat-append (packets_from plan.site [] (sent plan packets))
    (packets_from plan.site (sent plan packets) (added plan packets packet)))

-- the room after bytes that were taken
pub room_after : (total : ℕ) (old new : Store) (bytes : List ℕ) → new.held ≡ old.held ++ bytes →
    HasTaken (room_in old) (room_in new) (length bytes) → HasStoreRoom total old → HasStoreRoom total new
room_after total old new bytes held taken room =
    let took : HasTaken (Some (total - length old.held)) (room_in new) (length bytes) =
    subst (λ (left : Option ℕ). HasTaken left (room_in new) (length bytes)) room.left taken in
    let fits = room.fits in
    let within = took.0 in
    let long : length new.held ≡ length old.held + length bytes = ap length held ∙ length-append old.held bytes in
    let left : total - length old.held - length bytes ≡ total - length new.held = omega (arith, long, within, fits) in
    record { fits = omega (arith, fits, within, long); left = took.1 ∙ ap (λ (n : ℕ). Some n) left }

-- a packet is sent
pub station_sent : (plan : Plan) (packets : List (List ℕ)) (total : ℕ) (s : Station) (packet : List ℕ) (t : Head)
    (store : Store) (count : ℕ) (bytes : List ℕ) (steps : ℕ) → IsStation plan packets total s →
    head_does s.head packet t bytes steps → store.held ≡ s.sent.held ++ bytes →
    HasTaken (room_in s.sent) (room_in store) (length bytes) → count ≡ s.count + 1 →
    IsStation plan (packets ++ packet ∷ []) total (record { head = t; count = count; sent = store })
station_sent plan packets total s packet t store count bytes steps stands does held taken next =
    let wrote = (does plan packets (head_after plan packets s.head stands.head)).1 in
    record {
      count = omega (arith, next, stands.count, length-append packets (packet ∷ []));
      head = head_goes_on plan packets s.head packet t bytes steps stands.head does;
      held = held ∙ (ap (λ (first : List ℕ). first ++ bytes) stands.held
          ∙ (ap (λ (last : List ℕ). concat (body plan packets) ++ last) wrote ∙ sym (body_more plan packets packet)));
      room = room_after total s.sent store bytes held taken stands.room;
    }

-- and isn't refused
pub station_allowed : (plan : Plan) (packets : List (List ℕ)) (total : ℕ) (s : Station) (packet : List ℕ) (t : Head)
    (bytes : List ℕ) (steps : ℕ) → IsStation plan packets total s → head_does s.head packet t bytes steps →
    refusal_of plan.site packets packet ≡ None
station_allowed plan packets total s packet t bytes steps stands does =
    (does plan packets (head_after plan packets s.head stands.head)).0

-- a refusal is due
pub station_due : (plan : Plan) (packets : List (List ℕ)) (total : ℕ) (s : Station) (packet : List ℕ)
    (fault : HeadFault) (bytes : List ℕ) → IsStation plan packets total s →
    RefusesClearPacket s.head (Some packet) fault bytes → IsDue plan packets (Some packet) fault
station_due plan packets total s packet fault bytes stands refuses =
    let after = head_after plan packets s.head stands.head in
    elim refuses.cause [
      | inl kept ↦ absurd (let no = sym after.unrefused ∙ kept in cc)
      | inr due ↦ due plan packets after
    ]

-- and writes nothing
pub none_sent : (old new : List ℕ) (bytes : List ℕ) → new ≡ old ++ bytes → bytes ≡ [] → new ≡ old
none_sent old new bytes all none = all ∙ (ap (λ (last : List ℕ). old ++ last) none ∙ append-nil old)

-- a write that fails passes the room
pub station_full : (plan : Plan) (packets : List (List ℕ)) (total : ℕ) (s : Station) (packet : List ℕ) (bytes : List ℕ)
    → IsStation plan packets total s → IsTooShort (room_in s.sent) (length bytes) →
    bytes ≡ bytes_added plan packets packet → total < length (concat (body plan (packets ++ packet ∷ [])))
station_full plan packets total s packet bytes stands short wrote =
    let passes : total - length s.sent.held < length bytes =
    subst (λ (left : Option ℕ). IsTooShort left (length bytes)) stands.room.left short in
    let fits = stands.room.fits in
    let all = body_more plan packets packet in
    let long : length (concat (body plan (packets ++ packet ∷ []))) ≡ length s.sent.held + length bytes =
    ap length all
    ∙ (length-append (concat (body plan packets)) (bytes_added plan packets packet)
    ∙ (ap (λ (n : ℕ). n + length (bytes_added plan packets packet)) (ap length (sym stands.held))
    ∙ ap (λ (n : ℕ). length s.sent.held + n) (ap length (sym wrote)))) in
    omega (arith, passes, fits, long)

-- no write of nothing fails
pub never_short : (left : Option ℕ) (total : ℕ) (bytes : List ℕ) → left ≡ Some total → IsTooShort left (length bytes) →
    bytes ≡ [] → ⊥
never_short left total bytes is short none =
    let passes : total < length bytes = subst (λ (left : Option ℕ). IsTooShort left (length bytes)) is short in
    omega (arith, passes, ap length none)

-- a new head end
pub first_station : (plan : Plan) (total : ℕ) (head : Head) (store : Store) → store.held ≡ [] →
    HasStoreRoom total store →
    IsHeadEndAfter plan [] head → IsHeadReady head →
    IsStation plan [] total (record { head = head; count = 0; sent = store })
unfolding body sent_from packets_from
first_station plan total head store held room new ready = record {
  count = refl;
  head = record { start = head; steps = 0; new = (new, ready); chain = (refl, refl, refl) };
  held = held;
  room = room;
}
