use Rattle.sd_run_broadcasts.proofs.AirLines.{broken_feed}
use Rattle.sd_run_broadcasts.proofs.air_line.write_first.Goals as goal

pub write_status-requires : goal.write_status-requires
write_status-requires c = broken_feed c.in-Some.fault
