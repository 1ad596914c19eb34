use Rattle.sd_law_field.proofs.Kept.{confirmed_are_kept}
use Rattle.sd_law_field.proofs.time.confirmed_packets_were_offered.Goals as goal

pub returns : goal.returns
returns c = confirmed_are_kept
