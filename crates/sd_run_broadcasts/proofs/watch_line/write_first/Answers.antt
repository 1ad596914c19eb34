use Rattle.sd_run_broadcasts.proofs.WatchLines.{fault_feed}
use Rattle.sd_run_broadcasts.proofs.watch_line.write_first.Goals as goal

pub write_status-requires : goal.write_status-requires
write_status-requires c = fault_feed c.in-Some.fault
