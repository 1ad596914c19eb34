use Rattle.std.proofs.Common.{arith, ◌≡◌, ◌∙◌, ◌*◌, ◌<◌, ◌≤◌, ◌++◌, ◌∷◌, [], ℕ, List, length, ap, refl, sym, subst}
use Rattle.std.proofs.Common.{Err, None, Some}
use Rattle.std.specs.Prelude.{get_or, slice_get}
use Rattle.std.proofs.lemmas.List.{length-take-le}
use Rattle.std.proofs.lemmas.Option.{get_or_from_slice_get, slice_get_read, slice_get_within}
use Rattle.sd_site_cards.specs.SiteFields.{site_fields_of}
use Rattle.sd_spec.specs.Refused.{refusal_of}
use Rattle.sd_spec.specs.declared.event.Event.TheVariants.{Send}
use Rattle.sd_field.specs.Stations.{IsStation}
use Rattle.sd_field.specs.Fields.{FieldValue, EventTakesMemory, next_refusal, plan_of_field}
use Rattle.sd_field.specs.Fields.{sends_of, field_clear_packets}
use Rattle.sd_field.proofs.Stations.{head_ready}
use Rattle.sd_field.proofs.Fields.{field_on, field_sent, field_station, none_to_send, one_refused}
use Rattle.sd_field.proofs.Fields.{held_kept, memory_at, send_failed, unrefused}
use Rattle.sd_field.proofs.field.Field.send.Goals as goal

pub invariant_of-self : goal.invariant_of-self
invariant_of-self g c =
    let v : FieldValue = record {
      site = site_fields_of c.self.inside.site;
      clear = c.self.inside.clear.items;
      events = c.self.inside.events.items;
      done = c.self.inside.done;
      failed = c.self.inside.failed;
    } in
    let calm : v.failed ≡ None = ap (λ (x : FieldValue). x.failed) c.self.view_is ∙ c.requires.calm in
    let field = c.self.invariant in
    let station = c.self.inside.station in
    let book = c.self.inside.book in
    let seats = c.self.inside.seats.items in
    let next : slice_get v.events v.done ≡ Some Send =
    ap (λ (x : FieldValue). slice_get x.events x.done) c.self.view_is ∙ c.requires.next in
    let end : length v.clear ≤ sends_of v =
    let past = c.in_default.ensures.lookup.3 in
    omega (arith, past, field.count, ap length c.deref.ensures.value) in
    field_on v Send book station seats next (none_to_send v next end) (λ w n x. refl) calm field

pub send-requires-clause-live : goal.send-requires-clause-live
send-requires-clause-live g c =
    let v : FieldValue = record {
      site = site_fields_of c.self.inside.site;
      clear = c.self.inside.clear.items;
      events = c.self.inside.events.items;
      done = c.self.inside.done;
      failed = c.self.inside.failed;
    } in
    let calm : v.failed ≡ None = ap (λ (x : FieldValue). x.failed) c.self.view_is ∙ c.requires.calm in
    let field = c.self.invariant in
    let station = c.self.inside.station in
    let book = c.self.inside.book in
    let seats = c.self.inside.seats.items in
    let next : slice_get v.events v.done ≡ Some Send =
    ap (λ (x : FieldValue). slice_get x.events x.done) c.self.view_is ∙ c.requires.next in
    head_ready (plan_of_field v) (field_clear_packets v) station.head (field.head (unrefused v calm))

pub invariant_of-self-in-Ok : goal.invariant_of-self-in-Ok
invariant_of-self-in-Ok g c =
    let v : FieldValue = record {
      site = site_fields_of c.self.inside.site;
      clear = c.self.inside.clear.items;
      events = c.self.inside.events.items;
      done = c.self.inside.done;
      failed = c.self.inside.failed;
    } in
    let calm : v.failed ≡ None = ap (λ (x : FieldValue). x.failed) c.self.view_is ∙ c.requires.calm in
    let field = c.self.invariant in
    let station = c.self.inside.station in
    let book = c.self.inside.book in
    let seats = c.self.inside.seats.items in
    let next : slice_get v.events v.done ≡ Some Send =
    ap (λ (x : FieldValue). slice_get x.events x.done) c.self.view_is ∙ c.requires.next in
    let there : slice_get v.clear station.count ≡ Some c.in-Some.packet.now =
    ap (λ (xs : List (List ℕ)). slice_get xs station.count) (sym c.deref.ensures.value)
    ∙ slice_get_read c.deref.result.now (length c.deref.result.now) station.count c.in-Some.packet.now refl
    c.in-Some.ensures.lookup.3.0 c.in-Some.ensures.lookup.1 in
    let within = slice_get_within v.clear station.count c.in-Some.packet.now there in
    let left : sends_of v < length v.clear = omega (arith, within, field.count) in
    let packet_is : c.in-Some.packet.now ≡ get_or v.clear (sends_of v) [] =
    sym (get_or_from_slice_get v.clear station.count c.in-Some.packet.now [] there)
    ∙ ap (λ (k : ℕ). get_or v.clear k []) field.count in
    let low : sends_of v ≤ length v.clear = omega (arith, left) in
    let stands = field_station v book station seats calm low field in
    let long : length (field_clear_packets v) ≡ sends_of v = length-take-le (sends_of v) v.clear low in
    field_sent v book station c.send.new.self seats next left calm field
    (subst (λ (p : List ℕ). IsStation (plan_of_field v) (field_clear_packets v ++ p ∷ []) (188 * 72 * length v.clear)
    c.send.new.self)
    packet_is (c.in-Ok.ensures.sent (plan_of_field v) (field_clear_packets v) (188 * 72 * length v.clear) stands))

pub invariant_of-self-in-Err : goal.invariant_of-self-in-Err
invariant_of-self-in-Err g c =
    let v : FieldValue = record {
      site = site_fields_of c.self.inside.site;
      clear = c.self.inside.clear.items;
      events = c.self.inside.events.items;
      done = c.self.inside.done;
      failed = c.self.inside.failed;
    } in
    let calm : v.failed ≡ None = ap (λ (x : FieldValue). x.failed) c.self.view_is ∙ c.requires.calm in
    let field = c.self.invariant in
    let station = c.self.inside.station in
    let book = c.self.inside.book in
    let seats = c.self.inside.seats.items in
    let next : slice_get v.events v.done ≡ Some Send =
    ap (λ (x : FieldValue). slice_get x.events x.done) c.self.view_is ∙ c.requires.next in
    let there : slice_get v.clear station.count ≡ Some c.in-Some.packet.now =
    ap (λ (xs : List (List ℕ)). slice_get xs station.count) (sym c.deref.ensures.value)
    ∙ slice_get_read c.deref.result.now (length c.deref.result.now) station.count c.in-Some.packet.now refl
    c.in-Some.ensures.lookup.3.0 c.in-Some.ensures.lookup.1 in
    let within = slice_get_within v.clear station.count c.in-Some.packet.now there in
    let left : sends_of v < length v.clear = omega (arith, within, field.count) in
    let packet_is : c.in-Some.packet.now ≡ get_or v.clear (sends_of v) [] =
    sym (get_or_from_slice_get v.clear station.count c.in-Some.packet.now [] there)
    ∙ ap (λ (k : ℕ). get_or v.clear k []) field.count in
    let low : sends_of v ≤ length v.clear = omega (arith, left) in
    let stands = field_station v book station seats calm low field in
    let long : length (field_clear_packets v) ≡ sends_of v = length-take-le (sends_of v) v.clear low in
    let refused_is : next_refusal v ≡ refusal_of v.site (field_clear_packets v) c.in-Some.packet.now =
    one_refused v next left ∙ ap (refusal_of v.site (field_clear_packets v)) (sym packet_is) in
    send_failed v c.in-Err.fault book station c.send.new.self seats next calm (c.in-Err.ensures.count refl)
    (held_kept v c.in-Err.fault c.in-Some.packet.now (c.send.new.self.sent.held ≡ station.sent.held) next left packet_is
    (λ fault same. (c.in-Err.ensures.refused (plan_of_field v) (field_clear_packets v) (188 * 72 * length v.clear)
    fault stands
    (ap (λ x. Err x) same)).1)
    (λ same. c.in-Err.ensures.memory (plan_of_field v) (field_clear_packets v) (188 * 72 * length v.clear) stands
    (ap (λ x. Err x) same)))
    field

pub returns-in-Ok-clause-allowed : goal.returns-in-Ok-clause-allowed
returns-in-Ok-clause-allowed g c =
    let v : FieldValue = record {
      site = site_fields_of c.self.inside.site;
      clear = c.self.inside.clear.items;
      events = c.self.inside.events.items;
      done = c.self.inside.done;
      failed = c.self.inside.failed;
    } in
    let calm : v.failed ≡ None = ap (λ (x : FieldValue). x.failed) c.self.view_is ∙ c.requires.calm in
    let field = c.self.invariant in
    let station = c.self.inside.station in
    let book = c.self.inside.book in
    let seats = c.self.inside.seats.items in
    let next : slice_get v.events v.done ≡ Some Send =
    ap (λ (x : FieldValue). slice_get x.events x.done) c.self.view_is ∙ c.requires.next in
    let there : slice_get v.clear station.count ≡ Some c.in-Some.packet.now =
    ap (λ (xs : List (List ℕ)). slice_get xs station.count) (sym c.deref.ensures.value)
    ∙ slice_get_read c.deref.result.now (length c.deref.result.now) station.count c.in-Some.packet.now refl
    c.in-Some.ensures.lookup.3.0 c.in-Some.ensures.lookup.1 in
    let within = slice_get_within v.clear station.count c.in-Some.packet.now there in
    let left : sends_of v < length v.clear = omega (arith, within, field.count) in
    let packet_is : c.in-Some.packet.now ≡ get_or v.clear (sends_of v) [] =
    sym (get_or_from_slice_get v.clear station.count c.in-Some.packet.now [] there)
    ∙ ap (λ (k : ℕ). get_or v.clear k []) field.count in
    let low : sends_of v ≤ length v.clear = omega (arith, left) in
    let stands = field_station v book station seats calm low field in
    let long : length (field_clear_packets v) ≡ sends_of v = length-take-le (sends_of v) v.clear low in
    let refused_is : next_refusal v ≡ refusal_of v.site (field_clear_packets v) c.in-Some.packet.now =
    one_refused v next left ∙ ap (refusal_of v.site (field_clear_packets v)) (sym packet_is) in
    subst (λ (x : FieldValue). next_refusal x ≡ None) c.self.view_is
    (refused_is ∙ c.in-Ok.ensures.allowed (plan_of_field v) (field_clear_packets v) (188 * 72 * length v.clear) stands)

pub returns-in-Err-clause-clear : goal.returns-in-Err-clause-clear
returns-in-Err-clause-clear g c fault is =
    let v : FieldValue = record {
      site = site_fields_of c.self.inside.site;
      clear = c.self.inside.clear.items;
      events = c.self.inside.events.items;
      done = c.self.inside.done;
      failed = c.self.inside.failed;
    } in
    let calm : v.failed ≡ None = ap (λ (x : FieldValue). x.failed) c.self.view_is ∙ c.requires.calm in
    let field = c.self.invariant in
    let station = c.self.inside.station in
    let book = c.self.inside.book in
    let seats = c.self.inside.seats.items in
    let next : slice_get v.events v.done ≡ Some Send =
    ap (λ (x : FieldValue). slice_get x.events x.done) c.self.view_is ∙ c.requires.next in
    let there : slice_get v.clear station.count ≡ Some c.in-Some.packet.now =
    ap (λ (xs : List (List ℕ)). slice_get xs station.count) (sym c.deref.ensures.value)
    ∙ slice_get_read c.deref.result.now (length c.deref.result.now) station.count c.in-Some.packet.now refl
    c.in-Some.ensures.lookup.3.0 c.in-Some.ensures.lookup.1 in
    let within = slice_get_within v.clear station.count c.in-Some.packet.now there in
    let left : sends_of v < length v.clear = omega (arith, within, field.count) in
    let packet_is : c.in-Some.packet.now ≡ get_or v.clear (sends_of v) [] =
    sym (get_or_from_slice_get v.clear station.count c.in-Some.packet.now [] there)
    ∙ ap (λ (k : ℕ). get_or v.clear k []) field.count in
    let low : sends_of v ≤ length v.clear = omega (arith, left) in
    let stands = field_station v book station seats calm low field in
    let long : length (field_clear_packets v) ≡ sends_of v = length-take-le (sends_of v) v.clear low in
    let refused_is : next_refusal v ≡ refusal_of v.site (field_clear_packets v) c.in-Some.packet.now =
    one_refused v next left ∙ ap (refusal_of v.site (field_clear_packets v)) (sym packet_is) in
    subst (λ (x : FieldValue). next_refusal x ≡ Some fault) c.self.view_is
    (refused_is ∙ (c.in-Err.ensures.refused (plan_of_field v) (field_clear_packets v) (188 * 72 * length v.clear) fault
    stands is).0)

pub returns-in-Err-clause-memory : goal.returns-in-Err-clause-memory
returns-in-Err-clause-memory g c is =
    let v : FieldValue = record {
      site = site_fields_of c.self.inside.site;
      clear = c.self.inside.clear.items;
      events = c.self.inside.events.items;
      done = c.self.inside.done;
      failed = c.self.inside.failed;
    } in
    let calm : v.failed ≡ None = ap (λ (x : FieldValue). x.failed) c.self.view_is ∙ c.requires.calm in
    let field = c.self.invariant in
    let station = c.self.inside.station in
    let book = c.self.inside.book in
    let seats = c.self.inside.seats.items in
    let next : slice_get v.events v.done ≡ Some Send =
    ap (λ (x : FieldValue). slice_get x.events x.done) c.self.view_is ∙ c.requires.next in
    let there : slice_get v.clear station.count ≡ Some c.in-Some.packet.now =
    ap (λ (xs : List (List ℕ)). slice_get xs station.count) (sym c.deref.ensures.value)
    ∙ slice_get_read c.deref.result.now (length c.deref.result.now) station.count c.in-Some.packet.now refl
    c.in-Some.ensures.lookup.3.0 c.in-Some.ensures.lookup.1 in
    let within = slice_get_within v.clear station.count c.in-Some.packet.now there in
    let left : sends_of v < length v.clear = omega (arith, within, field.count) in
    let packet_is : c.in-Some.packet.now ≡ get_or v.clear (sends_of v) [] =
    sym (get_or_from_slice_get v.clear station.count c.in-Some.packet.now [] there)
    ∙ ap (λ (k : ℕ). get_or v.clear k []) field.count in
    let low : sends_of v ≤ length v.clear = omega (arith, left) in
    let stands = field_station v book station seats calm low field in
    let long : length (field_clear_packets v) ≡ sends_of v = length-take-le (sends_of v) v.clear low in
    let refused_is : next_refusal v ≡ refusal_of v.site (field_clear_packets v) c.in-Some.packet.now =
    one_refused v next left ∙ ap (refusal_of v.site (field_clear_packets v)) (sym packet_is) in
    let out = c.in-Err.ensures.memory (plan_of_field v) (field_clear_packets v) (188 * 72 * length v.clear) stands is in
    subst (λ (x : FieldValue). (next_refusal x ≡ None) × EventTakesMemory x (Some Send)) c.self.view_is (
      refused_is ∙ out.0,
      memory_at v c.in-Some.packet.now (c.send.new.self.sent.held ≡ station.sent.held) next left
          packet_is long out,
    )
