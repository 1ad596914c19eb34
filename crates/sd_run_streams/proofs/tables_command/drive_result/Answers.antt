use Rattle.std.proofs.Common.{rules}
use Rattle.sd_run_streams.proofs.tables_command.drive_result.Goals as goal

pub returns-in-Err-ReadFault : goal.returns-in-Err-ReadFault
returns-in-Err-ReadFault c = search rules
