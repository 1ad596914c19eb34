use Rattle.std.proofs.Common.{◌≡◌, ◌∙◌, ◌*◌, ◌<◌, ◌^◌, ℕ, List, length, arith, ap, refl, sym, subst, None}
use Rattle.std.specs.Prelude.{get_or, slice_get, Some}
use Rattle.std.specs.List.{concat}
use Rattle.std.proofs.lemmas.List.{get_or_default}
use Rattle.std.proofs.lemmas.Option.{slice_get-get_or}
use Rattle.sd_engine.specs.Stream.{packets_of}
use Rattle.sd_site_cards.specs.SiteFields.{site_fields_of}
use Rattle.sd_spec.specs.declared.event.Event.TheVariants.{Offer}
use Rattle.sd_spec.specs.Watch.{stream, watch_after_event, written}
use Rattle.sd_field.specs.Seats.{IsSeated}
use Rattle.sd_field.specs.Fields.{FieldValue, IsWrittenOver, field_card, plan_of_field, field_clear_packets, watch_of}
use Rattle.sd_field.specs.declared.seat.Seat.{Seat}
use Rattle.sd_field.proofs.Fields.{field_cut, field_next, offer_at, over_next, present_few, seat_behind, seat_live}
use Rattle.sd_field.proofs.Fields.{seat_stands, stream_sent}
use Rattle.sd_field.proofs.field.Field.offer.Goals as goal

pub pass_next-requires : goal.pass_next-requires
pass_next-requires g c =
    let v : FieldValue = record {
      site = site_fields_of c.self.inside.site;
      clear = c.self.inside.clear.items;
      events = c.self.inside.events.items;
      done = c.self.inside.done;
      failed = c.self.inside.failed;
    } in
    let u : ℕ = c.get.result in
    let calm : v.failed ≡ None = ap (λ (x : FieldValue). x.failed) c.self.view_is ∙ c.requires.calm in
    let field = c.self.invariant in
    let seat = c.index_mut-seat.result.now in
    let seats = c.self.inside.seats.items in
    let next : slice_get v.events v.done ≡ Some (Offer u) =
    ap (λ (x : FieldValue). slice_get x.events x.done) c.self.view_is
    ∙ (c.requires.next ∙ ap (λ (k : ℕ). Some (Offer k)) (sym c.get.ensures.value)) in
    let low : u < 2 ^ v.site.height =
    subst (λ (x : FieldValue). u < 2 ^ x.site.height) (sym c.self.view_is)
    (subst (λ (k : ℕ). k < 2 ^ c.args.self.now.site.height) (sym c.get.ensures.value) c.requires.leaf) in
    let inside : u < length seats = omega (arith, low, field.many) in
    let there = slice_get-get_or seats u seat inside
    ∙ ap (λ (x : Seat). Some x) (sym c.index_mut-seat.ensures.value) in
    record {
      live = seat_live v seats u seat calm field.seated there;
      behind = seat_behind v c.self.inside.book c.self.inside.station seats u seat c.bytes.result.now calm field there
          c.bytes.ensures;
    }

pub invariant_of-self : goal.invariant_of-self
invariant_of-self g c =
    let v : FieldValue = record {
      site = site_fields_of c.self.inside.site;
      clear = c.self.inside.clear.items;
      events = c.self.inside.events.items;
      done = c.self.inside.done;
      failed = c.self.inside.failed;
    } in
    let u : ℕ = c.get.result in
    let calm : v.failed ≡ None = ap (λ (x : FieldValue). x.failed) c.self.view_is ∙ c.requires.calm in
    let field = c.self.invariant in
    let seat = c.index_mut-seat.result.now in
    let seats = c.self.inside.seats.items in
    let next : slice_get v.events v.done ≡ Some (Offer u) =
    ap (λ (x : FieldValue). slice_get x.events x.done) c.self.view_is
    ∙ (c.requires.next ∙ ap (λ (k : ℕ). Some (Offer k)) (sym c.get.ensures.value)) in
    let low : u < 2 ^ v.site.height =
    subst (λ (x : FieldValue). u < 2 ^ x.site.height) (sym c.self.view_is)
    (subst (λ (k : ℕ). k < 2 ^ c.args.self.now.site.height) (sym c.get.ensures.value) c.requires.leaf) in
    let inside : u < length seats = omega (arith, low, field.many) in
    let to = c.pass_next.new.seat in
    let same : get_or seats u to ≡ seat =
    get_or_default seats u to seat inside ∙ sym c.index_mut-seat.ensures.value in
    let few = present_few v u (let a = field.few in let b = field.done in omega (arith, a, b)) field.done in
    field_next v (Offer u) c.self.inside.book c.self.inside.station seats u to next (offer_at u) calm low field
    (λ all seated. subst (λ (held : List ℕ). IsSeated (plan_of_field v) (field_card v u) (field_clear_packets v)
    (188 * length v.clear) (watch_after_event u (length (packets_of held)) (Offer u) (watch_of u v)) to) c.bytes.ensures
    (c.in-Ok.ensures.seated (plan_of_field v) (field_card v u) (field_clear_packets v) (188 * length v.clear) u
    (watch_of u v) few
    (ap packets_of c.bytes.ensures ∙ all)
    (subst (IsSeated (plan_of_field v) (field_card v u) (field_clear_packets v) (188 * length v.clear) (watch_of u v))
    same seated)))

pub invariant_of-self-in-Err : goal.invariant_of-self-in-Err
invariant_of-self-in-Err g c =
    let v : FieldValue = record {
      site = site_fields_of c.self.inside.site;
      clear = c.self.inside.clear.items;
      events = c.self.inside.events.items;
      done = c.self.inside.done;
      failed = c.self.inside.failed;
    } in
    let u : ℕ = c.get.result in
    let calm : v.failed ≡ None = ap (λ (x : FieldValue). x.failed) c.self.view_is ∙ c.requires.calm in
    let field = c.self.invariant in
    let seat = c.index_mut-seat.result.now in
    let seats = c.self.inside.seats.items in
    let next : slice_get v.events v.done ≡ Some (Offer u) =
    ap (λ (x : FieldValue). slice_get x.events x.done) c.self.view_is
    ∙ (c.requires.next ∙ ap (λ (k : ℕ). Some (Offer k)) (sym c.get.ensures.value)) in
    let low : u < 2 ^ v.site.height =
    subst (λ (x : FieldValue). u < 2 ^ x.site.height) (sym c.self.view_is)
    (subst (λ (k : ℕ). k < 2 ^ c.args.self.now.site.height) (sym c.get.ensures.value) c.requires.leaf) in
    let inside : u < length seats = omega (arith, low, field.many) in
    let there = slice_get-get_or seats u seat inside
    ∙ ap (λ (x : Seat). Some x) (sym c.index_mut-seat.ensures.value) in
    let few = present_few v u (let a = field.few in let b = field.done in omega (arith, a, b)) field.done in
    let all : packets_of c.self.inside.station.sent.held ≡ stream (plan_of_field v) (field_clear_packets v) =
    stream_sent v c.self.inside.book c.self.inside.station seats calm field in
    let over : IsWrittenOver u v = over_next v u (packets_of c.self.inside.station.sent.held) next all
    (subst (λ (held : List ℕ). 188 * length v.clear < length (concat (written (plan_of_field v) (field_card v u)
    (field_clear_packets v)
    (watch_after_event u (length (packets_of held)) (Offer u) (watch_of u v))))) c.bytes.ensures
    (c.in-Err.ensures.full (plan_of_field v) (field_card v u) (field_clear_packets v) (188 * length v.clear) u
    (watch_of u v) refl few
    (ap packets_of c.bytes.ensures ∙ all) (seat_stands v seats u seat calm field.seated there))) in
    let to = c.pass_next.new.seat in
    let same = c.in-Err.ensures.there refl in
    let on = (field.seated u seat there).on in
    field_cut v c.self.inside.book c.self.inside.station seats u to calm inside over
    (λ some. on.0 (same.0 some), λ is. same.1 (on.1 is)) field

pub returns-in-Err-clause-full : goal.returns-in-Err-clause-full
returns-in-Err-clause-full g c failed =
    let v : FieldValue = record {
      site = site_fields_of c.self.inside.site;
      clear = c.self.inside.clear.items;
      events = c.self.inside.events.items;
      done = c.self.inside.done;
      failed = c.self.inside.failed;
    } in
    let u : ℕ = c.get.result in
    let calm : v.failed ≡ None = ap (λ (x : FieldValue). x.failed) c.self.view_is ∙ c.requires.calm in
    let field = c.self.invariant in
    let seat = c.index_mut-seat.result.now in
    let seats = c.self.inside.seats.items in
    let next : slice_get v.events v.done ≡ Some (Offer u) =
    ap (λ (x : FieldValue). slice_get x.events x.done) c.self.view_is
    ∙ (c.requires.next ∙ ap (λ (k : ℕ). Some (Offer k)) (sym c.get.ensures.value)) in
    let low : u < 2 ^ v.site.height =
    subst (λ (x : FieldValue). u < 2 ^ x.site.height) (sym c.self.view_is)
    (subst (λ (k : ℕ). k < 2 ^ c.args.self.now.site.height) (sym c.get.ensures.value) c.requires.leaf) in
    let inside : u < length seats = omega (arith, low, field.many) in
    let there = slice_get-get_or seats u seat inside
    ∙ ap (λ (x : Seat). Some x) (sym c.index_mut-seat.ensures.value) in
    let few = present_few v u (let a = field.few in let b = field.done in omega (arith, a, b)) field.done in
    let all : packets_of c.self.inside.station.sent.held ≡ stream (plan_of_field v) (field_clear_packets v) =
    stream_sent v c.self.inside.book c.self.inside.station seats calm field in
    let over : IsWrittenOver u v = over_next v u (packets_of c.self.inside.station.sent.held) next all
    (subst (λ (held : List ℕ). 188 * length v.clear < length (concat (written (plan_of_field v) (field_card v u)
    (field_clear_packets v)
    (watch_after_event u (length (packets_of held)) (Offer u) (watch_of u v))))) c.bytes.ensures
    (c.in-Err.ensures.full (plan_of_field v) (field_card v u) (field_clear_packets v) (188 * length v.clear) u
    (watch_of u v) refl few
    (ap packets_of c.bytes.ensures ∙ all) (seat_stands v seats u seat calm field.seated there))) in
    subst (IsWrittenOver c.args.u) c.self.view_is (subst (λ (k : ℕ). IsWrittenOver k v) c.get.ensures.value over)
