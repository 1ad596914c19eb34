use Rattle.std.proofs.Common.{arith, ◌≡◌, ◌∙◌, ◌*◌, [], ℕ, List, None, ap, length, refl, subst}
use Rattle.std.specs.Prelude.{reverse}
use Rattle.sd_site_cards.specs.SiteFields.{SiteFields, site_fields_of}
use Rattle.sd_book.specs.declared.command.Command.{Command}
use Rattle.sd_spec.specs.Plan.{Plan}
use Rattle.sd_spec.specs.declared.event.Event.{Event}
use Rattle.sd_spec.specs.Book.{event_book}
use Rattle.sd_field.specs.Fields.{FieldValue, plan_of_field}
use Rattle.sd_field.specs.Seats.{AreNew}
use Rattle.sd_field.specs.Stations.{IsStation}
use Rattle.sd_field.proofs.Fields.{first_field}
use Rattle.sd_field.proofs.field.Field.new.Goals as goal

pub invariant_of-result : goal.invariant_of-result
invariant_of-result g c =
    let site : SiteFields = site_fields_of c.args.site in
    let v : FieldValue = record {
      site = site;
      clear = c.args.clear.items;
      events = c.args.events.items;
      done = 0;
      failed = None;
    } in
    let many : c.len-count.result ≡ length v.clear =
    omega (arith, c.len-count.ensures, c.args.clear.ok.0) in
    let of_all : (xs : List Event) → xs ≡ v.events →
    event_book site c.len-count.result (reverse xs) ≡ (plan_of_field v).commands =
    λ xs is.
    ap (λ (events : List Event). event_book site c.len-count.result (reverse events)) is
    ∙ ap (λ (n : ℕ). event_book site n (reverse v.events)) many in
    let book = c.in_ok-book.ensures.value ∙ of_all c.deref.result.now c.deref.ensures.value in
    let plan : c.in_ok-plan.plan.commands ≡ (plan_of_field v).commands =
    c.in_ok-plan.ensures.value ∙ of_all c.deref-2.result.now c.deref-2.ensures.value in
    let same = ap (λ (commands : List Command). record { site = site; commands = commands }) plan in
    let stands =
    subst (λ (n : ℕ). IsStation (plan_of_field v) [] (188 * 72 * n) c.in_ok-station.station) many
    (subst (λ (p : Plan). IsStation p [] (188 * 72 * c.len-count.result) c.in_ok-station.station) same
    c.in_ok-station.ensures) in
    let first = subst (λ (n : ℕ). AreNew c.args.site (188 * n) c.in_ok-seats.seats.items) many
    c.in_ok-seats.ensures.new in
    first_field v c.in_ok-book.book c.in_ok-station.station c.in_ok-seats.seats.items refl c.requires.packets
    c.requires.events c.requires.leaves c.in_ok-book.ensures.height book stands c.in_ok-seats.ensures.many first
