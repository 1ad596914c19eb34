-- Inner: the book of a field, as far as it is made.
use Rattle.std.specs.Prelude.{◌≡◌, ℕ, List}
use Rattle.sd_site_cards.specs.SiteFields.{SiteFields}
use Rattle.sd_book.specs.Commands.{last_period}
use Rattle.sd_spec.specs.declared.event.Event.{Event}
use Rattle.sd_spec.specs.Book.{event_book, sends}
use Rattle.sd_field.specs.declared.laid.Laid.{Laid}

-- the book is that of these events, of a clear stream of m packets
pub record IsBookOfEvents (site : SiteFields) (m : ℕ) (past : List Event) (laid : Laid) : Type 0 where
  pub height : laid.draft.height ≡ site.height
  pub commands : laid.draft.commands ≡ event_book site m past
  pub last : laid.last ≡ last_period laid.draft.commands
  pub sends : laid.sends ≡ sends m past
