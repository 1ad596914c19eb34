use Rattle.std.proofs.Common.{arith, ℕ, List, take, sym, subst}
use Rattle.std.proofs.lemmas.Bool.{false≢true}
use Rattle.std.specs.Prelude.{reverse}
use Rattle.sd_site_cards.specs.SiteFields.{site_fields_of}
use Rattle.sd_book.specs.Limits.{IsWithinLimits}
use Rattle.sd_spec.specs.declared.event.Event.{Event}
use Rattle.sd_field.specs.Laid.{IsBookOfEvents}
use Rattle.sd_field.proofs.Laying.{laid_on, next_fits, past_more, sends_low, taken_fits}
use Rattle.sd_field.proofs.laid.event_book.Goals as goal

pub take-requires-clause-within : goal.take-requires-clause-within
take-requires-clause-within c =
    let past : List Event = reverse (take c.loop-event.event-index c.args.events.now) in
    let low = sends_low c.args.clear past in
    omega (arith, low, c.loop-event.invariant.sends)

pub take-requires-clause-fits : goal.take-requires-clause-fits
take-requires-clause-fits c =
    next_fits (site_fields_of c.args.site.now) c.args.clear c.loop-event.event-index c.args.events.now
    c.event-item.result
    c.loop-event.laid c.requires.low c.requires.short c.requires.leaves c.loop-event-test.true (sym c.event-item.is)
    c.loop-event.invariant

pub loop-event-preserved : goal.loop-event-preserved
loop-event-preserved c =
    let events : List Event = c.args.events.now in
    let i : ℕ = c.loop-event.event-index in
    let event : Event = c.event-item.result in
    let past : List Event = reverse (take i events) in
    let e = c.in_ok-take.ensures in
    subst (λ (xs : List Event). IsBookOfEvents (site_fields_of c.args.site.now) c.args.clear xs c.take.new.self)
    (sym (past_more events i event c.loop-event-test.true (sym c.event-item.is)))
    (laid_on (site_fields_of c.args.site.now) c.args.clear event past c.loop-event.laid c.take.new.self
    c.loop-event.invariant e.height e.value e.last e.sends)

pub unreachable-requires : goal.unreachable-requires
unreachable-requires c =
    let laid = c.loop-event.laid.draft in
    let site = site_fields_of c.args.site.now in
    let made = c.loop-event.invariant in
    let fits = taken_fits site c.args.clear c.loop-event.event-index c.args.events.now c.requires.low c.requires.short
    c.requires.leaves in
    let whole : IsWithinLimits laid.height laid.commands =
    subst (λ (d : ℕ). IsWithinLimits d laid.commands) (sym made.height)
    (subst (IsWithinLimits site.height) (sym made.commands) fits) in
    absurd (false≢true (c.in-Err.ensures.complete whole))
