use Rattle.std.proofs.Common.{take}
use Rattle.std.specs.Prelude.{reverse}
use Rattle.sd_site_cards.specs.SiteFields.{site_fields_of}
use Rattle.sd_field.specs.Laid.{IsBookOfEvents}
use Rattle.sd_field.proofs.laid.event_book.Given as goal

abbrev pub invariant-loop-event : goal.invariant-loop-event
invariant-loop-event l = IsBookOfEvents (site_fields_of l.site) l.clear (reverse (take l.event-index l.events)) l.laid
