use Rattle.sd_spec.proofs.Fitting.{event_books_fit, event_fronts_fit, event_plans_fit}
use Rattle.sd_law_field.proofs.books.event_books_fit.Goals as goal

pub returns : goal.returns
returns c = record { fits = event_books_fit; fronts = event_fronts_fit; plan = event_plans_fit }
