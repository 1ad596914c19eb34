use Rattle.sd_spec.proofs.Filled.{filled_ends, filled_again, filled_keeps}
use Rattle.sd_law_field.proofs.books.periods_fill_books.Goals as goal

pub returns : goal.returns
returns c = record { last = filled_ends; again = filled_again; keeps = filled_keeps }
