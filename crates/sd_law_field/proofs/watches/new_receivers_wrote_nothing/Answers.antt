use Rattle.sd_spec.proofs.Offers.{new_is_offered_nothing, new_writes_nothing}
use Rattle.sd_law_field.proofs.watches.new_receivers_wrote_nothing.Goals as goal

pub returns : goal.returns
returns c = record { present = new_is_offered_nothing; written = new_writes_nothing }
