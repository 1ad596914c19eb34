use Rattle.sd_spec.proofs.Offers.{watch_stays, written_stays_later}
use Rattle.sd_law_field.proofs.Stays.{places_stay}
use Rattle.sd_law_field.proofs.watches.what_was_received_stays.Goals as goal

pub returns : goal.returns
returns c = record { offered = watch_stays; places = places_stay; written = written_stays_later }
