use Rattle.std.proofs.Common.{arith, ◌≡◌, ◌∙◌, ◌<◌, ◌^◌, ℕ, length, ap, sym, subst}
use Rattle.std.specs.Prelude.{Some, slice_get}
use Rattle.std.proofs.lemmas.Option.{slice_get-get_or}
use Rattle.sd_site_cards.specs.SiteFields.{site_fields_of}
use Rattle.sd_field.specs.Fields.{FieldValue, IsWrittenCut, written_of}
use Rattle.sd_field.specs.declared.seat.Seat.{Seat}
use Rattle.sd_field.proofs.Lent.{written_here}
use Rattle.sd_field.proofs.field.Field.written.Goals as goal

pub returns : goal.returns
returns c =
    let v : FieldValue = record {
      site = site_fields_of c.self.inside.site;
      clear = c.self.inside.clear.items;
      events = c.self.inside.events.items;
      done = c.self.inside.done;
      failed = c.self.inside.failed;
    } in
    let u : ℕ = c.get.result in
    let field = c.self.invariant in
    let seat : Seat = c.index.result.now in
    let seats = c.self.inside.seats.items in
    let low : u < 2 ^ v.site.height =
    subst (λ (x : FieldValue). u < 2 ^ x.site.height) (sym c.self.view_is)
    (subst (λ (k : ℕ). k < 2 ^ c.args.self.now.site.height) (sym c.get.ensures.value) c.requires.leaf) in
    let inside : u < length seats = omega (arith, low, field.many) in
    let there : slice_get seats u ≡ Some seat =
    slice_get-get_or seats u seat inside ∙ ap (λ (x : Seat). Some x) (sym c.index.ensures) in
    record {
      value = λ whole. c.bytes.ensures
          ∙ (written_here v c.self.inside.book c.self.inside.station seats u seat field there
          (λ cut. whole (subst (λ (k : ℕ). IsWrittenCut k c.args.self.now) c.get.ensures.value
          (subst (IsWrittenCut u) c.self.view_is cut)))
          ∙ (ap (written_of u) c.self.view_is ∙ ap (λ (k : ℕ). written_of k c.args.self.now) c.get.ensures.value));
    }
