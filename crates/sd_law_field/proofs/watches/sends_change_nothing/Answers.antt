use Rattle.sd_spec.proofs.Offers.{present_stays, written_stays}
use Rattle.sd_law_field.proofs.watches.sends_change_nothing.Goals as goal

pub returns : goal.returns
returns c = record { present = present_stays; written = written_stays }
