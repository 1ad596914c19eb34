use Rattle.sd_law_field.proofs.Moments.{clear_are_written}
use Rattle.sd_law_field.proofs.laws.receivers_write_clear_packets.Goals as goal

pub returns : goal.returns
returns c = clear_are_written
