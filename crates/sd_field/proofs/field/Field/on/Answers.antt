use Rattle.std.proofs.Common.{◌≡◌, ◌∙◌, ◌*◌, ◌<◌, ◌^◌, ℕ, length, arith, ap, refl, sym, subst, None, false}
use Rattle.std.specs.Prelude.{get_or, slice_get, Some}
use Rattle.std.proofs.lemmas.List.{get_or_default}
use Rattle.std.proofs.lemmas.Option.{slice_get-get_or}
use Rattle.sd_engine.specs.Stream.{packets_of}
use Rattle.sd_site_cards.specs.SiteFields.{site_fields_of}
use Rattle.sd_spec.specs.declared.event.Event.TheVariants.{On}
use Rattle.sd_spec.specs.Watch.{watch_after_event}
use Rattle.sd_field.specs.Seats.{IsSeated}
use Rattle.sd_field.specs.Fields.{FieldValue, field_card, plan_of_field, field_clear_packets, watch_of}
use Rattle.sd_field.specs.declared.seat.Seat.{Seat}
use Rattle.sd_field.proofs.Fields.{field_next, on_at, seat_failed, seat_stands}
use Rattle.sd_field.proofs.Seats.{off_if_none}
use Rattle.sd_field.proofs.field.Field.on.Goals as goal

pub invariant_of-self : goal.invariant_of-self
invariant_of-self g c =
    let v : FieldValue = record {
      site = site_fields_of c.self.inside.site;
      clear = c.self.inside.clear.items;
      events = c.self.inside.events.items;
      done = c.self.inside.done;
      failed = c.self.inside.failed;
    } in
    let u : ℕ = c.get.result in
    let calm : v.failed ≡ None = ap (λ (x : FieldValue). x.failed) c.self.view_is ∙ c.requires.calm in
    let field = c.self.invariant in
    let seat = c.index_mut-seat.result.now in
    let seats = c.self.inside.seats.items in
    let next : slice_get v.events v.done ≡ Some (On u) =
    ap (λ (x : FieldValue). slice_get x.events x.done) c.self.view_is
    ∙ (c.requires.next ∙ ap (λ (k : ℕ). Some (On k)) (sym c.get.ensures.value)) in
    let low : u < 2 ^ v.site.height =
    subst (λ (x : FieldValue). u < 2 ^ x.site.height) (sym c.self.view_is)
    (subst (λ (k : ℕ). k < 2 ^ c.args.self.now.site.height) (sym c.get.ensures.value) c.requires.leaf) in
    let inside : u < length seats = omega (arith, low, field.many) in
    let to = c.turn_on.new.self in
    let same : get_or seats u to ≡ seat =
    get_or_default seats u to seat inside ∙ sym c.index_mut-seat.ensures.value in
    field_next v (On u) c.self.inside.book c.self.inside.station seats u to next (on_at u) calm low field
    (λ all seated. subst (λ (k : ℕ). IsSeated (plan_of_field v) (field_card v k) (field_clear_packets v)
    (188 * length v.clear)
    (watch_after_event k (length (packets_of c.self.inside.station.sent.held)) (On k) (watch_of k v)) to)
    (sym c.get.ensures.value)
    (c.in-Ok.ensures.seated (plan_of_field v) (field_card v c.args.u) (field_clear_packets v) (188 * length v.clear)
    (length (packets_of c.self.inside.station.sent.held)) (watch_of c.args.u v) refl
    (subst (λ (k : ℕ). IsSeated (plan_of_field v) (field_card v k) (field_clear_packets v) (188 * length v.clear)
    (watch_of k v) seat)
    c.get.ensures.value
    (subst (IsSeated (plan_of_field v) (field_card v u) (field_clear_packets v) (188 * length v.clear) (watch_of u v))
    same seated))))

pub invariant_of-self-in-Err : goal.invariant_of-self-in-Err
invariant_of-self-in-Err g c =
    let v : FieldValue = record {
      site = site_fields_of c.self.inside.site;
      clear = c.self.inside.clear.items;
      events = c.self.inside.events.items;
      done = c.self.inside.done;
      failed = c.self.inside.failed;
    } in
    let u : ℕ = c.get.result in
    let calm : v.failed ≡ None = ap (λ (x : FieldValue). x.failed) c.self.view_is ∙ c.requires.calm in
    let field = c.self.invariant in
    let seat = c.index_mut-seat.result.now in
    let seats = c.self.inside.seats.items in
    let next : slice_get v.events v.done ≡ Some (On u) =
    ap (λ (x : FieldValue). slice_get x.events x.done) c.self.view_is
    ∙ (c.requires.next ∙ ap (λ (k : ℕ). Some (On k)) (sym c.get.ensures.value)) in
    let low : u < 2 ^ v.site.height =
    subst (λ (x : FieldValue). u < 2 ^ x.site.height) (sym c.self.view_is)
    (subst (λ (k : ℕ). k < 2 ^ c.args.self.now.site.height) (sym c.get.ensures.value) c.requires.leaf) in
    let inside : u < length seats = omega (arith, low, field.many) in
    let to = c.turn_on.new.self in
    let stays : to ≡ seat = c.in-Err.ensures.same refl in
    let same : get_or seats u to ≡ seat =
    get_or_default seats u to seat inside ∙ sym c.index_mut-seat.ensures.value in
    seat_failed v c.self.inside.book c.self.inside.station seats u to calm inside (same ∙ sym stays) field

pub returns-in-Err-clause-was_off : goal.returns-in-Err-clause-was_off
returns-in-Err-clause-was_off g c failed =
    let v : FieldValue = record {
      site = site_fields_of c.self.inside.site;
      clear = c.self.inside.clear.items;
      events = c.self.inside.events.items;
      done = c.self.inside.done;
      failed = c.self.inside.failed;
    } in
    let u : ℕ = c.get.result in
    let calm : v.failed ≡ None = ap (λ (x : FieldValue). x.failed) c.self.view_is ∙ c.requires.calm in
    let field = c.self.invariant in
    let seat = c.index_mut-seat.result.now in
    let seats = c.self.inside.seats.items in
    let next : slice_get v.events v.done ≡ Some (On u) =
    ap (λ (x : FieldValue). slice_get x.events x.done) c.self.view_is
    ∙ (c.requires.next ∙ ap (λ (k : ℕ). Some (On k)) (sym c.get.ensures.value)) in
    let low : u < 2 ^ v.site.height =
    subst (λ (x : FieldValue). u < 2 ^ x.site.height) (sym c.self.view_is)
    (subst (λ (k : ℕ). k < 2 ^ c.args.self.now.site.height) (sym c.get.ensures.value) c.requires.leaf) in
    let inside : u < length seats = omega (arith, low, field.many) in
    let there = slice_get-get_or seats u seat inside
    ∙ ap (λ (x : Seat). Some x) (sym c.index_mut-seat.ensures.value) in
    let off = off_if_none (plan_of_field v) (field_card v u) (field_clear_packets v) (188 * length v.clear)
    (watch_of u v) seat
    (c.in-Err.ensures.was_off refl) (seat_stands v seats u seat calm field.seated there) in
    subst (λ (x : FieldValue). (watch_of c.args.u x).on ≡ false) c.self.view_is
    (subst (λ (k : ℕ). (watch_of k v).on ≡ false) c.get.ensures.value off)
