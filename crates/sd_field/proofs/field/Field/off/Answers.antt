use Rattle.std.proofs.Common.{◌≡◌, ◌∙◌, ◌*◌, ◌<◌, ◌^◌, ℕ, length, arith, ap, sym, subst, None}
use Rattle.std.specs.Prelude.{get_or, slice_get, Some}
use Rattle.std.proofs.lemmas.List.{get_or_default}
use Rattle.sd_engine.specs.Stream.{packets_of}
use Rattle.sd_site_cards.specs.SiteFields.{site_fields_of}
use Rattle.sd_spec.specs.declared.event.Event.TheVariants.{Off}
use Rattle.sd_field.specs.Seats.{IsSeated}
use Rattle.sd_field.specs.Fields.{FieldValue, field_card, plan_of_field, field_clear_packets, watch_of}
use Rattle.sd_field.proofs.Fields.{field_next, off_at}
use Rattle.sd_field.proofs.field.Field.off.Goals as goal

pub invariant_of-self : goal.invariant_of-self
invariant_of-self c =
    let v : FieldValue = record {
      site = site_fields_of c.self.inside.site;
      clear = c.self.inside.clear.items;
      events = c.self.inside.events.items;
      done = c.self.inside.done;
      failed = c.self.inside.failed;
    } in
    let u : ℕ = c.get.result in
    let calm : v.failed ≡ None = ap (λ (x : FieldValue). x.failed) c.self.view_is ∙ c.requires.calm in
    let field = c.self.invariant in
    let seat = c.index_mut-seat.result.now in
    let seats = c.self.inside.seats.items in
    let next : slice_get v.events v.done ≡ Some (Off u) =
    ap (λ (x : FieldValue). slice_get x.events x.done) c.self.view_is
    ∙ (c.requires.next ∙ ap (λ (k : ℕ). Some (Off k)) (sym c.get.ensures.value)) in
    let low : u < 2 ^ v.site.height =
    subst (λ (x : FieldValue). u < 2 ^ x.site.height) (sym c.self.view_is)
    (subst (λ (k : ℕ). k < 2 ^ c.args.self.now.site.height) (sym c.get.ensures.value) c.requires.leaf) in
    let inside : u < length seats = omega (arith, low, field.many) in
    let to = c.turn_off.new.self in
    let same : get_or seats u to ≡ seat =
    get_or_default seats u to seat inside ∙ sym c.index_mut-seat.ensures.value in
    field_next v (Off u) c.self.inside.book c.self.inside.station seats u to next (off_at u) calm low field
    (λ all seated. c.turn_off.ensures.seated (plan_of_field v) (field_card v u) (field_clear_packets v)
    (188 * length v.clear) u
    (length (packets_of c.self.inside.station.sent.held)) (watch_of u v)
    (subst (IsSeated (plan_of_field v) (field_card v u) (field_clear_packets v) (188 * length v.clear) (watch_of u v))
    same seated))
