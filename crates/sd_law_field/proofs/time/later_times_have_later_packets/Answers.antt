use Rattle.sd_law_field.proofs.Kept.{kept_apart}
use Rattle.sd_law_field.proofs.time.later_times_have_later_packets.Goals as goal

pub returns : goal.returns
returns c = kept_apart
