-- What one event more makes of a field.
use Rattle.std.proofs.Common.{arith, ◌≡◌, ◌≢◌, ℕ, zero, suc, ◌+◌, ◌*◌, ◌<◌, ◌≤◌, ◌^◌, List, [], ◌∷◌, ◌++◌, refl, ap}
use Rattle.std.proofs.Common.{sym, subst}
use Rattle.std.proofs.Common.{◌∙◌, false, inl, inr, length, length-append, take}
use Rattle.std.specs.List.{concat}
use Rattle.std.proofs.lemmas.Bool.{cases_eq, lt-ltb, le-ltb}
use Rattle.std.specs.Prelude.{◌↔◌, ◌⊎◌, IfSome, IsSome, Option, None, Some, option_and_then, All, nat_lt, true, get_or}
use Rattle.std.specs.Prelude.{reverse, slice_get, slice_set}
use Rattle.std.proofs.lemmas.List.{append_cancel_right, length-map, length-reverse, length-take-le, reverse-append}
use Rattle.std.proofs.lemmas.List.{take_more, length-set, get_or-set_same, get_or-set_other}
use Rattle.std.proofs.lemmas.Option.{get_or_from_slice_get, slice_get-get_or, slice_get_within}
use Rattle.sd_engine.specs.Stream.{packets_of}
use Rattle.sd_spec.specs.Plan.{Plan}
use Rattle.sd_spec.specs.Refused.{IsClear, refusal_of}
use Rattle.sd_receive.specs.declared.receiver.Receiver.{Receiver}
use Rattle.sd_receive.specs.Receiving.{IsCountable, MayReceive}
use Rattle.sd_spec.specs.declared.event.Event.{Event}
use Rattle.sd_spec.specs.declared.event.Event.TheVariants.{Lose, Off, Offer, On, Revoke, Send, Subscribe}
use Rattle.sd_spec.specs.Events.{is_of, is_send}
use Rattle.sd_spec.specs.Book.{sends}
use Rattle.sd_spec.specs.Watch.{Watch, at_places, count_sent, present, stream, watch, watch_after_event, written}
use Rattle.sd_spec.proofs.Watching.{all_offered, cursor_within, move_of, offers, passes, waits}
use Rattle.sd_spec.proofs.Offers.{others_wait, present_stays, written_stays}
use Rattle.sd_site_cards.specs.CardFields.{CardFields}
use Rattle.sd_spec.specs.Offered.{out_from}
use Rattle.sd_field.specs.Heard.{IsHeard}
use Rattle.sd_field.specs.Seats.{IsNewSeat, IsSeated, wrote_before}
use Rattle.sd_field.proofs.Seats.{written_in}
use Rattle.sd_field.proofs.Stations.{head_after, head_clear}
use Rattle.sd_field.specs.Stations.{IsHeadAfter, IsStation}
use Rattle.sd_field.specs.Fields.{AreSeated, FieldValue, IsField, IsSeatKept, IsSendRefused, IsSentCut, IsWrittenCut}
use Rattle.sd_field.specs.Fields.{IsCommand, IsSentOver, EventTakesMemory, next_event, next_refusal, refusal_at}
use Rattle.sd_field.specs.Fields.{sends_of}
use Rattle.sd_field.specs.Fields.{IsWrittenOver, after_fault, after_next, field_card, past_of, plan_of_field}
use Rattle.sd_field.specs.Fields.{field_clear_packets, watch_of}
use Rattle.sd_field.specs.Fields.{written_of}
use Rattle.sd_field.specs.declared.fault.FieldFault.{FieldFault}
use Rattle.sd_field.specs.declared.fault.FieldFault.TheVariants.{Clear, NoMemory}
use Rattle.sd_field.specs.declared.station.Station.{Station}
use Rattle.sd_book.specs.Value.{BookValue}
use Rattle.sd_message.specs.declared.clear_fault.ClearFault.{ClearFault}
use Rattle.sd_spec.specs.Sent.{body}
use Rattle.sd_head.specs.Schedule.{begins_with}
use Rattle.sd_head.specs.Kept.{HasBegun}
use Rattle.sd_field.specs.declared.seat.Seat.{Seat}

-- a field that hasn't failed was not cut short
uncut : (u : ℕ) (v : FieldValue) → v.failed ≡ None → ¬ IsWrittenCut u v
uncut u v calm cut = let no = sym calm ∙ cut.0 in cc

pub unsent : (v : FieldValue) → v.failed ≡ None → ¬ IsSentCut v
unsent v calm cut = let no = sym calm ∙ cut.0 in cc

pub unrefused : (v : FieldValue) → v.failed ≡ None → ¬ IsSendRefused v
unrefused v calm refused = is_none v.failed calm refused.0
  where
    is_none : (failed : Option FieldFault) → failed ≡ None → ¬ IsSome failed
    is_none None is some = let no = some in cc
    is_none (Some fault) is some = let no = is in cc

-- where nothing failed each leaf's seat stands
pub seat_stands : (v : FieldValue) (seats : List Seat) (u : ℕ) (seat : Seat) → v.failed ≡ None → AreSeated v seats →
    slice_get seats u ≡ Some seat →
    IsSeated (plan_of_field v) (field_card v u) (field_clear_packets v) (188 * length v.clear) (watch_of u v) seat
seat_stands v seats u seat calm seated there = (seated u seat there).seated (uncut u v calm)

-- a receiver in its seat may be offered a packet
pub seat_live : (v : FieldValue) (seats : List Seat) (u : ℕ) (seat : Seat) → v.failed ≡ None → AreSeated v seats →
    slice_get seats u ≡ Some seat → IfSome seat.receiver MayReceive
seat_live v seats u seat calm seated there = by_receiver seat.receiver refl
  where
    by_receiver : (receiver : Option Receiver) → seat.receiver ≡ receiver → IfSome receiver MayReceive
    by_receiver None is = tt
    by_receiver (Some receiver) is = ((seat_stands v seats u seat calm seated there).heard receiver is).live

-- with one event more the past begins with it
pub past_next : (v : FieldValue) (event : Event) → slice_get v.events v.done ≡ Some event →
    past_of (after_next v) ≡ event ∷ past_of v
past_next v event is =
    let within = slice_get_within v.events v.done event is in
    let one : take (v.done + 1) v.events ≡ take v.done v.events ++ event ∷ [] =
    take_more v.events v.done event within
    ∙ ap (λ (x : Event). take v.done v.events ++ x ∷ [])
    (get_or_from_slice_get v.events v.done event event is) in
    ap reverse one ∙ reverse-append (take v.done v.events) (event ∷ [])

-- an event of one leaf's receiver: it sends nothing, and changes no other receiver
pub record IsAt (u : ℕ) (event : Event) : Type 0 where
  pub quiet : is_send event ≡ false
  pub others : (w n : ℕ) (x : Watch) → u ≢ w → watch_after_event w n event x ≡ x

pub offer_at : (u : ℕ) → IsAt u (Offer u)
offer_at u = record { quiet = refl; others = λ w n x apart. (others_wait w n u x apart).0 }

pub lose_at : (u : ℕ) → IsAt u (Lose u)
lose_at u = record { quiet = refl; others = λ w n x apart. (others_wait w n u x apart).1 }

pub off_at : (u : ℕ) → IsAt u (Off u)
off_at u = record { quiet = refl; others = λ w n x apart. (others_wait w n u x apart).2 }

pub on_at : (u : ℕ) → IsAt u (On u)
on_at u = record { quiet = refl; others = λ w n x apart. (others_wait w n u x apart).3 }

-- an event that is no send sends nothing
quiet_past : (v : FieldValue) (event : Event) → slice_get v.events v.done ≡ Some event → is_send event ≡ false →
    sends (length v.clear) (past_of (after_next v)) ≡ sends (length v.clear) (past_of v)
unfolding sends
quiet_past v event is quiet =
    ap (sends (length v.clear)) (past_next v event is) ∙ rw quiet refl

pub quiet_taken : (v : FieldValue) (event : Event) → slice_get v.events v.done ≡ Some event → is_send event ≡ false →
    field_clear_packets (after_next v) ≡ field_clear_packets v
quiet_taken v event is quiet = ap (λ (k : ℕ). take k v.clear) (quiet_past v event is quiet)

-- what an event makes of each leaf's receiver
next_watch : (v : FieldValue) (event : Event) (w : ℕ) → slice_get v.events v.done ≡ Some event →
    watch_of w (after_next v)
    ≡ watch_after_event w (length (stream (plan_of_field v) (field_clear_packets v))) event (watch_of w v)
unfolding watch
next_watch v event w is = ap (watch (plan_of_field v) v.clear w) (past_next v event is)

other_watch : (v : FieldValue) (event : Event) (u w : ℕ) → slice_get v.events v.done ≡ Some event → IsAt u event →
    u ≢ w → watch_of w (after_next v) ≡ watch_of w v
other_watch v event u w is at apart =
    next_watch v event w is ∙ at.others w (length (stream (plan_of_field v) (field_clear_packets v)))
    (watch_of w v) apart

-- a seat with one event more
moved_seat : (v : FieldValue) (w : ℕ) (x : Watch) (seat : Seat) → field_clear_packets (after_next v)
    ≡ field_clear_packets v →
    watch_of w (after_next v) ≡ x →
    IsSeated (plan_of_field v) (field_card v w) (field_clear_packets v) (188 * length v.clear) x seat →
    IsSeated (plan_of_field v) (field_card v w) (field_clear_packets (after_next v)) (188 * length v.clear)
    (watch_of w (after_next v)) seat
moved_seat v w x seat sent is seated =
    subst (λ (clear : List (List ℕ)). IsSeated (plan_of_field v) (field_card v w) clear (188 * length v.clear)
    (watch_of w (after_next v)) seat) (sym sent)
    (subst (λ (y : Watch). IsSeated (plan_of_field v) (field_card v w) (field_clear_packets v) (188 * length v.clear) y
    seat) (sym is) seated)

-- the seat at a place where one was put
put_here : (seats : List Seat) (u : ℕ) (to seat : Seat) → u < length seats →
    slice_get (slice_set seats u to) u ≡ Some seat → to ≡ seat
put_here seats u to seat within there =
    sym (get_or-set_same seats u to to within) ∙ get_or_from_slice_get (slice_set seats u to) u seat to there

-- and at another
put_there : (seats : List Seat) (u w : ℕ) (to seat : Seat) → u ≢ w →
    slice_get (slice_set seats u to) w ≡ Some seat → slice_get seats w ≡ Some seat
put_there seats u w to seat apart there =
    let within = slice_get_within (slice_set seats u to) w seat there in
    let inside : w < length seats = omega (arith, within, length-set seats u to) in
    slice_get-get_or seats w to inside
    ∙ ap (λ (x : Seat). Some x) (sym (get_or-set_other seats u w to to (λ same. apart (sym same)))
    ∙ get_or_from_slice_get (slice_set seats u to) w seat to there)

-- the seats of a field after an event of one of them, and the others
seated_next : (v : FieldValue) (event : Event) (seats : List Seat) (u : ℕ) (to : Seat) → v.failed ≡ None →
    slice_get v.events v.done ≡ Some event → IsAt u event → AreSeated v seats → u < length seats →
    IsSeated (plan_of_field v) (field_card v u) (field_clear_packets v) (188 * length v.clear)
    (watch_after_event u (length (stream (plan_of_field v) (field_clear_packets v))) event (watch_of u v)) to →
    AreSeated (after_next v) (slice_set seats u to)
seated_next v event seats u to calm is at seated within passed w seat there = kept_by (elim (cases_eq u w) [
  | inl same ↦
      let n : ℕ = length (stream (plan_of_field v) (field_clear_packets v)) in
      let here : to ≡ seat = put_here seats u to seat within
      (subst (λ (k : ℕ). slice_get (slice_set seats u to) k ≡ Some seat) (sym same) there) in
      moved_seat v w (watch_after_event w n event (watch_of w v)) seat (quiet_taken v event is at.quiet)
      (next_watch v event w is)
      (subst (IsSeated (plan_of_field v) (field_card v w) (field_clear_packets v) (188 * length v.clear)
      (watch_after_event w n event (watch_of w v))) here
      (subst (λ (k : ℕ). IsSeated (plan_of_field v) (field_card v k) (field_clear_packets v) (188 * length v.clear)
      (watch_after_event k n event (watch_of k v)) to) same passed))
  | inr apart ↦
      moved_seat v w (watch_of w v) seat (quiet_taken v event is at.quiet) (other_watch v event u w is at apart)
      (seat_stands v seats w seat calm seated (put_there seats u w to seat apart there))
])
  where
    kept_by : IsSeated (plan_of_field v) (field_card v w) (field_clear_packets (after_next v)) (188 * length v.clear)
        (watch_of w (after_next v)) seat → IsSeatKept w (after_next v) seat
    kept_by stands = record { on = stands.on; seated = λ _. stands }

-- a receiver was offered no more packets than there were events
offered_few : (plan : Plan) (clear : List (List ℕ)) (u : ℕ) (past : List Event) →
    length (all_offered (watch plan clear u past)) ≤ length past
unfolding watch
offered_few plan clear u [] = omega arith
offered_few plan clear u (event ∷ past) =
    let before = offered_few plan clear u past in
    elim (move_of u (count_sent plan clear (sends (length clear) past)) event (watch plan clear u past)) [
      | offers left next is ↦ omega (arith, ap length is, before)
      | passes left next is ↦ omega (arith, ap length is, before)
      | waits next is ↦ omega (arith, ap length is, before)
    ]

present_long : (plan : Plan) (clear : List (List ℕ)) (w : Watch) → length (present plan clear w) ≡ length w.now
unfolding present at_places
present_long plan clear w =
    length-map (reverse w.now) (λ (i : ℕ). get_or (stream plan clear) i []) ∙ length-reverse w.now

-- so more packets may come than were counted
pub present_few : (v : FieldValue) (u : ℕ) → v.done ≤ 524288 → v.done ≤ length v.events →
    IsCountable (present (plan_of_field v) (field_clear_packets v) (watch_of u v))
present_few v u few within =
    let w : Watch = watch_of u v in
    let long = length-append w.now (concat w.earlier) in
    omega (
      arith,
      present_long (plan_of_field v) (field_clear_packets v) w,
      long,
      offered_few (plan_of_field v) v.clear u (past_of v),
      length-reverse (take v.done v.events),
      length-take-le v.done v.events within,
      few,
    )

-- a field after an event of one leaf's receiver
pub field_next : (v : FieldValue) (event : Event) (book : BookValue) (station : Station) (seats : List Seat) (u : ℕ)
    (to : Seat) → slice_get v.events v.done ≡ Some event → IsAt u event → v.failed ≡ None → u < 2 ^ v.site.height →
    IsField v book station seats →
    (packets_of station.sent.held ≡ stream (plan_of_field v) (field_clear_packets v) →
    IsSeated (plan_of_field v) (field_card v u) (field_clear_packets v) (188 * length v.clear) (watch_of u v)
    (get_or seats u to) →
    IsSeated (plan_of_field v) (field_card v u) (field_clear_packets v) (188 * length v.clear)
    (watch_after_event u (length (packets_of station.sent.held)) event (watch_of u v)) to) →
    IsField (after_next v) book station (slice_set seats u to)
unfolding stream
field_next v event book station seats u to is at calm low field goes_on =
    let inside : u < length seats = omega (arith, field.many, low) in
    let all : packets_of station.sent.held ≡ stream (plan_of_field v) (field_clear_packets v) =
    ap packets_of (field.sent (unsent v calm)) in
    let there = slice_get-get_or seats u to inside in
    let passed = goes_on all (seat_stands v seats u (get_or seats u to) calm field.seated there) in
    let same : field_clear_packets (after_next v) ≡ field_clear_packets v = quiet_taken v event is at.quiet in
    record {
      packets = field.packets;
      few = field.few;
      leaves = field.leaves;
      done = let within = slice_get_within v.events v.done event is in omega (arith, within);
      plan = field.plan;
      clear = subst (IsClear v.site) (sym same) field.clear;
      height = field.height;
      commands = field.commands;
      count = field.count ∙ sym (quiet_past v event is at.quiet);
      head = λ _. subst (λ (xs : List (List ℕ)). IsHeadAfter (plan_of_field v) xs station.head) (sym same)
          (field.head (unrefused v calm));
      sent = λ _. field.sent (unsent v calm)
          ∙ ap (λ (xs : List (List ℕ)). concat (body (plan_of_field v) xs)) (sym same);
      room = field.room;
      many = length-set seats u to ∙ field.many;
      seated = seated_next v event seats u to calm is at field.seated inside
          (subst (λ (xs : List (List ℕ)). IsSeated (plan_of_field v) (field_card v u) (field_clear_packets v)
          (188 * length v.clear)
          (watch_after_event u (length xs) event (watch_of u v)) to) all passed);
    }

-- the packets of what was sent
pub stream_sent : (v : FieldValue) (book : BookValue) (station : Station) (seats : List Seat) → v.failed ≡ None →
    IsField v book station seats → packets_of station.sent.held ≡ stream (plan_of_field v) (field_clear_packets v)
unfolding stream
stream_sent v book station seats calm field = ap packets_of (field.sent (unsent v calm))

-- a leaf has passed no more packets than were sent
pub seat_behind : (v : FieldValue) (book : BookValue) (station : Station) (seats : List Seat) (u : ℕ) (seat : Seat)
    (sent : List ℕ) → v.failed ≡ None → IsField v book station seats → slice_get seats u ≡ Some seat →
    sent ≡ station.sent.held → seat.cursor ≤ length (packets_of sent)
unfolding stream
seat_behind v book station seats u seat sent calm field there is =
    let all : packets_of sent ≡ stream (plan_of_field v) (field_clear_packets v) =
    ap packets_of (is ∙ field.sent (unsent v calm)) in
    let passed = cursor_within (plan_of_field v) v.clear u (past_of v) in
    let same = (seat_stands v seats u seat calm field.seated there).cursor in
    omega (arith, passed, same, ap length all)

-- a field after an event that sends nothing and changes no receiver: only one event more is done
pub field_on : (v : FieldValue) (event : Event) (book : BookValue) (station : Station) (seats : List Seat) →
    slice_get v.events v.done ≡ Some event → sends_of (after_next v) ≡ sends_of v →
    ((w n : ℕ) (x : Watch) → watch_after_event w n event x ≡ x) → v.failed ≡ None → IsField v book station seats →
    IsField (after_next v) book station seats
field_on v event book station seats is quiet still calm field =
    let same : field_clear_packets (after_next v) ≡ field_clear_packets v = ap (λ (k : ℕ). take k v.clear) quiet in
    record {
      packets = field.packets;
      few = field.few;
      leaves = field.leaves;
      done = let within = slice_get_within v.events v.done event is in omega (arith, within);
      plan = field.plan;
      clear = subst (IsClear v.site) (sym same) field.clear;
      height = field.height;
      commands = field.commands;
      count = field.count ∙ sym quiet;
      head = λ _. subst (λ (xs : List (List ℕ)). IsHeadAfter (plan_of_field v) xs station.head) (sym same)
          (field.head (unrefused v calm));
      sent = λ _. field.sent (unsent v calm)
          ∙ ap (λ (xs : List (List ℕ)). concat (body (plan_of_field v) xs)) (sym same);
      room = field.room;
      many = field.many;
      seated = λ w seat there.
          let stands = moved_seat v w (watch_of w v) seat same
          (next_watch v event w is ∙ still w (length (stream (plan_of_field v) (field_clear_packets v))) (watch_of w v))
          (seat_stands v seats w seat calm field.seated there) in
          record { on = stands.on; seated = λ _. stands };
    }

-- a command sends nothing, and changes no receiver
pub command_quiet : (v : FieldValue) (event : Event) → slice_get v.events v.done ≡ Some event → IsCommand event →
    sends_of (after_next v) ≡ sends_of v
command_quiet v (Subscribe u) is command = quiet_past v (Subscribe u) is refl
command_quiet v (Revoke u) is command = quiet_past v (Revoke u) is refl
command_quiet v Send is command = absurd command
command_quiet v (Offer u) is command = absurd command
command_quiet v (Lose u) is command = absurd command
command_quiet v (Off u) is command = absurd command
command_quiet v (On u) is command = absurd command

pub command_still : (event : Event) → IsCommand event → (w n : ℕ) (x : Watch) → watch_after_event w n event x ≡ x
command_still (Subscribe u) command w n x = refl
command_still (Revoke u) command w n x = refl
command_still Send command w n x = absurd command
command_still (Offer u) command w n x = absurd command
command_still (Lose u) command w n x = absurd command
command_still (Off u) command w n x = absurd command
command_still (On u) command w n x = absurd command

-- a send with no clear packet left sends nothing
pub none_to_send : (v : FieldValue) → slice_get v.events v.done ≡ Some Send → length v.clear ≤ sends_of v →
    sends_of (after_next v) ≡ sends_of v
unfolding sends
none_to_send v is end =
    let test : nat_lt (sends_of v) (length v.clear) ≡ false = le-ltb (sends_of v) (length v.clear) end in
    ap (sends (length v.clear)) (past_next v Send is) ∙ rw test refl

pub none_refused : (v : FieldValue) → slice_get v.events v.done ≡ Some Send → length v.clear ≤ sends_of v →
    next_refusal v ≡ None
none_refused v is end =
    let test : nat_lt (sends_of v) (length v.clear) ≡ false = le-ltb (sends_of v) (length v.clear) end in
    ap (option_and_then (refusal_at v)) is ∙ rw test refl

-- one with a clear packet left sends it
pub one_to_send : (v : FieldValue) → slice_get v.events v.done ≡ Some Send → sends_of v < length v.clear →
    sends_of (after_next v) ≡ suc (sends_of v)
unfolding sends
one_to_send v is left =
    let test : nat_lt (sends_of v) (length v.clear) ≡ true = lt-ltb (sends_of v) (length v.clear) left in
    ap (sends (length v.clear)) (past_next v Send is) ∙ rw test refl

pub one_refused : (v : FieldValue) → slice_get v.events v.done ≡ Some Send → sends_of v < length v.clear →
    next_refusal v ≡ refusal_of v.site (field_clear_packets v) (get_or v.clear (sends_of v) [])
one_refused v is left =
    let test : nat_lt (sends_of v) (length v.clear) ≡ true = lt-ltb (sends_of v) (length v.clear) left in
    ap (option_and_then (refusal_at v)) is ∙ rw test refl

-- the clear packets with the next one
pub taken_more : (v : FieldValue) → sends_of v < length v.clear →
    take (suc (sends_of v)) v.clear ≡ field_clear_packets v ++ get_or v.clear (sends_of v) [] ∷ []
taken_more v left =
    let next : suc (sends_of v) ≡ sends_of v + 1 = omega arith in
    ap (λ (k : ℕ). take k v.clear) next ∙ take_more v.clear (sends_of v) [] left

-- what a receiver has come to stays if more is sent
sent_seat : (v : FieldValue) (w k : ℕ) (seat : Seat) → sends_of v ≤ k →
    IsSeated (plan_of_field v) (field_card v w) (field_clear_packets v) (188 * length v.clear) (watch_of w v) seat →
    IsSeated (plan_of_field v) (field_card v w) (take k v.clear) (188 * length v.clear) (watch_of w v) seat
sent_seat v w k seat more stands =
    let plan : Plan = plan_of_field v in
    let card : CardFields = field_card v w in
    let x : Watch = watch_of w v in
    let now = present_stays plan v.clear w (past_of v) k more in
    let all = written_stays plan card v.clear w (past_of v) k more in
    let before : wrote_before plan card (take k v.clear) x ≡ wrote_before plan card (field_clear_packets v) x =
    append_cancel_right (wrote_before plan card (take k v.clear) x) (wrote_before plan card (field_clear_packets v) x)
    (concat (out_from card [] (present plan (field_clear_packets v) x)))
    (ap (λ (xs : List (List ℕ)). wrote_before plan card (take k v.clear) x ++ concat (out_from card [] xs)) (sym now)
    ∙ (sym (written_in plan card (take k v.clear) x) ∙ (ap concat all ∙ written_in plan card (field_clear_packets v)
    x))) in
    record {
      cursor = stands.cursor;
      on = stands.on;
      held = stands.held ∙ ap concat (sym all);
      room = stands.room;
      heard = λ receiver is.
          subst (λ (first : List ℕ). IsHeard card first (present plan (take k v.clear) x) receiver seat.written.held)
          (sym before)
          (subst (λ (xs : List (List ℕ)). IsHeard card (wrote_before plan card (field_clear_packets v) x) xs receiver
          seat.written.held) (sym now) (stands.heard receiver is));
    }

-- a field after a send
pub field_sent : (v : FieldValue) (book : BookValue) (station to : Station) (seats : List Seat) →
    slice_get v.events v.done ≡ Some Send → sends_of v < length v.clear → v.failed ≡ None →
    IsField v book station seats →
    IsStation (plan_of_field v) (field_clear_packets v ++ get_or v.clear (sends_of v) [] ∷ [])
    (188 * 72 * length v.clear) to →
    IsField (after_next v) book to seats
field_sent v book station to seats is left calm field stands =
    let one = one_to_send v is left in
    let same : field_clear_packets (after_next v) ≡ field_clear_packets v ++ get_or v.clear (sends_of v) [] ∷ [] =
    ap (λ (k : ℕ). take k v.clear) one ∙ taken_more v left in
    let more : sends_of v ≤ suc (sends_of v) = omega arith in
    let long : length (field_clear_packets v) ≡ sends_of v =
    length-take-le (sends_of v) v.clear (let low = left in omega (arith, low)) in
    record {
      packets = field.packets;
      few = field.few;
      leaves = field.leaves;
      done = let within = slice_get_within v.events v.done Send is in omega (arith, within);
      plan = field.plan;
      clear = subst (IsClear v.site) (sym same)
          (head_clear (plan_of_field v) (field_clear_packets v ++ get_or v.clear (sends_of v) [] ∷ []) to.head
          stands.head);
      height = field.height;
      commands = field.commands;
      count = omega (
        arith,
        stands.count,
        one,
        long,
        length-append (field_clear_packets v)
            (get_or v.clear (sends_of v) [] ∷ []),
      );
      head = λ _. subst (λ (xs : List (List ℕ)). IsHeadAfter (plan_of_field v) xs to.head) (sym same) stands.head;
      sent = λ _. stands.held ∙ ap (λ (xs : List (List ℕ)). concat (body (plan_of_field v) xs)) (sym same);
      room = λ _. stands.room;
      many = field.many;
      seated = λ w seat there.
          let before = seat_stands v seats w seat calm field.seated there in
          let after = sent_seat v w (suc (sends_of v)) seat more before in
          let now = subst (λ (k : ℕ). IsSeated (plan_of_field v) (field_card v w) (take k v.clear)
          (188 * length v.clear)
          (watch_of w v) seat) (sym one) after in
          let stays = subst (λ (x : Watch). IsSeated (plan_of_field v) (field_card v w)
          (field_clear_packets (after_next v))
          (188 * length v.clear) x seat) (sym (next_watch v Send w is)) now in
          record { on = stays.on; seated = λ _. stays };
    }

-- a field before a send
pub field_station : (v : FieldValue) (book : BookValue) (station : Station) (seats : List Seat) → v.failed ≡ None →
    sends_of v ≤ length v.clear → IsField v book station seats →
    IsStation (plan_of_field v) (field_clear_packets v) (188 * 72 * length v.clear) station
field_station v book station seats calm low field = record {
  count = field.count ∙ sym (length-take-le (sends_of v) v.clear low);
  head = field.head (unrefused v calm);
  held = field.sent (unsent v calm);
  room = field.room calm;
}

-- a field in which a send failed
pub send_failed : (v : FieldValue) (fault : FieldFault) (book : BookValue) (station to : Station) (seats : List Seat) →
    slice_get v.events v.done ≡ Some Send → v.failed ≡ None → to.count ≡ station.count →
    (¬ IsSentCut (after_fault fault v) → to.sent.held ≡ station.sent.held) → IsField v book station seats →
    IsField (after_fault fault v) book to seats
send_failed v fault book station to seats is calm count held field = record {
  packets = field.packets;
  few = field.few;
  leaves = field.leaves;
  done = field.done;
  plan = field.plan;
  clear = field.clear;
  height = field.height;
  commands = field.commands;
  count = count ∙ field.count;
  head = λ free. absurd (free (refl, is));
  sent = λ uncut. held uncut ∙ field.sent (unsent v calm);
  room = λ no. absurd cc;
  many = field.many;
  seated = λ w seat there.
      let stands = seat_stands v seats w seat calm field.seated there in
      record { on = stands.on; seated = λ _. stands };
}

-- what memory was out of at a send
pub send_memory : (v : FieldValue) → slice_get v.events v.done ≡ Some Send → sends_of v < length v.clear →
    refusal_of v.site (field_clear_packets v) (get_or v.clear (sends_of v) []) ≡ None →
    188 * 72 * length v.clear
    < length (concat (body (plan_of_field v) (field_clear_packets v ++ get_or v.clear (sends_of v) [] ∷ []))) →
    IsSentOver v
send_memory v is left allowed over = record {
  next = is;
  allowed = one_refused v is left ∙ allowed;
  over = let same = ap (λ (xs : List (List ℕ)). length (concat (body (plan_of_field v) xs))) (taken_more v left) in
      omega (arith, over, same);
}

-- if the next event's bytes pass the room
pub over_next : (v : FieldValue) (u : ℕ) (packets : List (List ℕ)) → slice_get v.events v.done ≡ Some (Offer u) →
    packets ≡ stream (plan_of_field v) (field_clear_packets v) →
    188 * length v.clear < length (concat (written (plan_of_field v) (field_card v u) (field_clear_packets v)
    (watch_after_event u (length packets) (Offer u) (watch_of u v)))) → IsWrittenOver u v
over_next v u packets is all over =
    let same : written_of u (after_next v) ≡ concat (written (plan_of_field v) (field_card v u) (field_clear_packets v)
    (watch_after_event u (length packets) (Offer u) (watch_of u v))) =
    ap (λ (clear : List (List ℕ)). concat (written (plan_of_field v) (field_card v u) clear
    (watch_of u (after_next v))))
    (quiet_taken v (Offer u) is refl)
    ∙ (ap (λ (w : Watch). concat (written (plan_of_field v) (field_card v u) (field_clear_packets v) w))
    (next_watch v (Offer u) u is)
    ∙ ap (λ (xs : List (List ℕ)). concat (written (plan_of_field v) (field_card v u) (field_clear_packets v)
    (watch_after_event u (length xs) (Offer u) (watch_of u v)))) (sym all)) in
    record { next = is; over = omega (arith, over, ap length same) }

-- a field in which an offer was cut short, since it passed the room
pub field_cut : (v : FieldValue) (book : BookValue) (station : Station) (seats : List Seat) (u : ℕ) (to : Seat) →
    v.failed ≡ None → u < length seats → IsWrittenOver u v → IsSome to.receiver ↔ ((watch_of u v).on ≡ true) →
    IsField v book station seats → IsField (after_fault NoMemory v) book station (slice_set seats u to)
field_cut v book station seats u to calm inside over on field = record {
  packets = field.packets;
  few = field.few;
  leaves = field.leaves;
  done = field.done;
  plan = field.plan;
  clear = field.clear;
  height = field.height;
  commands = field.commands;
  count = field.count;
  head = λ _. field.head (unrefused v calm);
  sent = λ _. field.sent (unsent v calm);
  room = λ no. absurd cc;
  many = length-set seats u to ∙ field.many;
  seated = λ w seat there. elim (cases_eq u w) [
    | inl same ↦
        let here : to ≡ seat = put_here seats u to seat inside
        (subst (λ (k : ℕ). slice_get (slice_set seats u to) k ≡ Some seat) (sym same) there) in
        record {
          on = subst (λ (k : ℕ). IsSome seat.receiver ↔ ((watch_of k v).on ≡ true)) same
              (subst (λ (s : Seat). IsSome s.receiver ↔ ((watch_of u v).on ≡ true)) here on);
          seated = λ whole. absurd (whole (subst (λ (k : ℕ). IsWrittenCut k (after_fault NoMemory v)) same
              (refl, record { next = over.next; over = over.over })));
        }
    | inr apart ↦
        let stands = seat_stands v seats w seat calm field.seated (put_there seats u w to seat apart there) in
        record { on = stands.on; seated = λ _. stands }
  ];
}

-- a field in which an event failed that changed nothing of its seats
pub field_failed : (v : FieldValue) (fault : FieldFault) (book : BookValue) (station : Station) (seats : List Seat) →
    v.failed ≡ None → IsField v book station seats → IsField (after_fault fault v) book station seats
field_failed v fault book station seats calm field = record {
  packets = field.packets;
  few = field.few;
  leaves = field.leaves;
  done = field.done;
  plan = field.plan;
  clear = field.clear;
  height = field.height;
  commands = field.commands;
  count = field.count;
  head = λ _. field.head (unrefused v calm);
  sent = λ _. field.sent (unsent v calm);
  room = λ no. absurd cc;
  many = field.many;
  seated = λ w seat there.
      let stands = seat_stands v seats w seat calm field.seated there in
      record { on = stands.on; seated = λ _. stands };
}

-- a field in which an event failed that left its seat as it was
pub seat_failed : (v : FieldValue) (book : BookValue) (station : Station) (seats : List Seat) (u : ℕ) (to : Seat) →
    v.failed ≡ None → u < length seats → get_or seats u to ≡ to → IsField v book station seats →
    IsField (after_fault NoMemory v) book station (slice_set seats u to)
seat_failed v book station seats u to calm inside same field =
    subst (λ (xs : List Seat). IsField (after_fault NoMemory v) book station xs) (sym (set_same seats u to inside same))
    (field_failed v NoMemory book station seats calm field)
  where
    set_same : (seats : List Seat) (u : ℕ) (to : Seat) → u < length seats → get_or seats u to ≡ to →
        slice_set seats u to ≡ seats
    set_same [] u to inside same = absurd (omega (arith, inside))
    set_same (x ∷ xs) zero to inside same = ap (λ (s : Seat). s ∷ xs) (sym same)
    set_same (x ∷ xs) (suc u) to inside same =
        ap (λ (s : List Seat). x ∷ s) (set_same xs u to (omega (arith, inside)) same)

-- what memory was out of at a send, and what is then kept: the packet isn't refused, and either a period begins with it
-- and nothing was sent, or it passes the room
abbrev pub MemoryOut : FieldValue → List ℕ → Type 0 → Type 0
MemoryOut v packet Same = (refusal_of v.site (field_clear_packets v) packet ≡ None)
    × (((begins_with (plan_of_field v) (length (field_clear_packets v)) ≡ true) × Same)
    ⊎ (188 * 72 * length v.clear < length (concat (body (plan_of_field v) (field_clear_packets v ++ packet ∷ [])))))

over_at : (v : FieldValue) (packet : List ℕ) → slice_get v.events v.done ≡ Some Send → sends_of v < length v.clear →
    packet ≡ get_or v.clear (sends_of v) [] → refusal_of v.site (field_clear_packets v) packet ≡ None →
    188 * 72 * length v.clear < length (concat (body (plan_of_field v) (field_clear_packets v ++ packet ∷ []))) →
    IsSentOver v
over_at v packet is left same allowed over =
    send_memory v is left (ap (refusal_of v.site (field_clear_packets v)) (sym same) ∙ allowed)
    (subst (λ (p : List ℕ). 188 * 72 * length v.clear < length
    (concat (body (plan_of_field v) (field_clear_packets v ++ p ∷ [])))) same
    over)

pub memory_at : (v : FieldValue) (packet : List ℕ) (Same : Type 0) → slice_get v.events v.done ≡ Some Send →
    sends_of v < length v.clear → packet ≡ get_or v.clear (sends_of v) [] → length (field_clear_packets v)
    ≡ sends_of v →
    MemoryOut v packet Same → EventTakesMemory v (Some Send)
memory_at v packet Same is left same long out = elim out.1 [
  | inl begins ↦ inl (subst (λ (k : ℕ). begins_with (plan_of_field v) k ≡ true) long begins.0)
  | inr over ↦ inr (over_at v packet is left same out.0 over)
]

-- a send that failed sent nothing, unless it was cut short
pub held_kept : (v : FieldValue) (fault : FieldFault) (packet : List ℕ) (Same : Type 0) →
    slice_get v.events v.done ≡ Some Send → sends_of v < length v.clear → packet ≡ get_or v.clear (sends_of v) [] →
    ((why : ClearFault) → fault ≡ Clear why → Same) → (fault ≡ NoMemory → MemoryOut v packet Same) →
    ¬ IsSentCut (after_fault fault v) → Same
held_kept v (Clear why) packet Same is left same refused memory uncut = refused why refl
held_kept v NoMemory packet Same is left same refused memory uncut = elim (memory refl).1 [
  | inl begins ↦ begins.1
  | inr over ↦
      absurd (let all = over_at v packet is left same (memory refl).0 over in
      uncut (refl, record { next = all.next; allowed = all.allowed; over = all.over }))
]

-- a field after a command
pub field_commanded : (v : FieldValue) (book : BookValue) (station : Station) (seats : List Seat) →
    IfSome (next_event v) IsCommand → IsSome (next_event v) → v.failed ≡ None → IsField v book station seats →
    IsField (after_next v) book station seats
field_commanded v book station seats command some calm field = by_event (next_event v) refl command some
  where
    by_event : (next : Option Event) → next_event v ≡ next → IfSome next IsCommand → IsSome next →
        IsField (after_next v) book station seats
    by_event None is command some = absurd (let no = some in cc)
    by_event (Some event) is command some =
        field_on v event book station seats is (command_quiet v event is command) (command_still event command) calm
        field

-- the seats of all leaves are new
abbrev pub AreFirst : FieldValue → List Seat → Type 0
AreFirst v seats = (u : ℕ) (seat : Seat) → slice_get seats u ≡ Some seat →
    IsNewSeat (field_card v u) (188 * length v.clear) seat

-- a field before its first event
pub first_field : (v : FieldValue) (book : BookValue) (station : Station) (seats : List Seat) → v.done ≡ 0 →
    length v.clear ≤ 16384 → length v.events ≤ 524288 → All (λ event. is_of v.site.height event ≡ true) v.events →
    book.height ≡ v.site.height → book.commands ≡ (plan_of_field v).commands →
    IsStation (plan_of_field v) [] (188 * 72 * length v.clear) station → length seats ≡ 2 ^ v.site.height →
    AreFirst v seats → IsField v book station seats
unfolding sends watch
first_field v book station seats none packets few leaves height commands stands many first =
    let past : past_of v ≡ [] = ap (λ (n : ℕ). reverse (take n v.events)) none in
    let nothing : field_clear_packets v ≡ [] = ap (λ (xs : List Event). take (sends (length v.clear) xs) v.clear) past
    in
    let after = head_after (plan_of_field v) [] station.head stands.head in
    let begun : HasBegun (plan_of_field v) 0 station.head.entitling = after.entitled in
    record {
      packets = packets;
      few = few;
      leaves = leaves;
      done = let e = none in omega (arith, e);
      plan = begun.is_plan;
      clear = subst (IsClear v.site) (sym nothing) (head_clear (plan_of_field v) [] station.head stands.head);
      height = height;
      commands = commands;
      count = stands.count ∙ sym (ap (sends (length v.clear)) past);
      head = λ _. subst (λ (xs : List (List ℕ)). IsHeadAfter (plan_of_field v) xs station.head)
          (sym nothing) stands.head;
      sent = λ _. stands.held ∙ ap (λ (xs : List (List ℕ)). concat (body (plan_of_field v) xs)) (sym nothing);
      room = λ _. stands.room;
      many = many;
      seated = λ u seat there.
          let stays : IsSeated (plan_of_field v) (field_card v u) (field_clear_packets v) (188 * length v.clear)
          (watch_of u v) seat =
          subst (λ (xs : List Event). IsSeated (plan_of_field v) (field_card v u) (field_clear_packets v)
          (188 * length v.clear)
          (watch (plan_of_field v) v.clear u xs) seat) (sym past) (first u seat there (plan_of_field v)
          (field_clear_packets v)) in
          record { on = stays.on; seated = λ _. stays };
    }
