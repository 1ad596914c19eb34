use Rattle.sd_spec.proofs.Books.{period_is, period_kept}
use Rattle.sd_law_field.proofs.books.periods_of_packets_stay.Goals as goal

pub returns : goal.returns
returns c = record { period = period_is; kept = period_kept }
