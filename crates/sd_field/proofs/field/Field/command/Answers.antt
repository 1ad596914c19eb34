use Rattle.std.proofs.Common.{◌∙◌, ap, sym, subst}
use Rattle.std.specs.Prelude.{IfSome, IsSome}
use Rattle.sd_site_cards.specs.SiteFields.{site_fields_of}
use Rattle.sd_field.specs.Fields.{FieldValue, IsCommand, next_event}
use Rattle.sd_field.proofs.Fields.{field_commanded}
use Rattle.sd_field.proofs.field.Field.command.Goals as goal

pub invariant_of-self : goal.invariant_of-self
invariant_of-self c =
    let v : FieldValue = record {
      site = site_fields_of c.self.inside.site;
      clear = c.self.inside.clear.items;
      events = c.self.inside.events.items;
      done = c.self.inside.done;
      failed = c.self.inside.failed;
    } in
    field_commanded v c.self.inside.book c.self.inside.station c.self.inside.seats.items
    (subst (λ (x : FieldValue). IfSome (next_event x) IsCommand) (sym c.self.view_is) c.requires.next)
    (subst (λ (x : FieldValue). IsSome (next_event x)) (sym c.self.view_is) c.requires.some)
    (ap (λ (x : FieldValue). x.failed) c.self.view_is ∙ c.requires.calm) c.self.invariant
