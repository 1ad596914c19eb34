use Rattle.sd_law_losses.proofs.Keyed.{key_due, check_due}
use Rattle.sd_law_losses.proofs.laws.keys_are_due.Goals as goal

pub returns : goal.returns
returns c = record { key = key_due; check = check_due }
