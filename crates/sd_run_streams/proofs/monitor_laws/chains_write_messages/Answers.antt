use Rattle.sd_run_streams.proofs.MonitorChained.{begun_lines}
use Rattle.sd_run_streams.proofs.monitor_laws.chains_write_messages.Goals as goal

pub returns : goal.returns
returns c = begun_lines
