use Rattle.sd_spec.proofs.Periods.{section_number}
use Rattle.sd_law_losses.proofs.Alike.{any_two, none_mixed}
use Rattle.sd_law_losses.proofs.laws.sections_say_same.Goals as goal

pub returns : goal.returns
returns c = record { period = section_number; two = any_two; mixed = none_mixed }
