use Rattle.std.proofs.Common.{rules}
use Rattle.sd_run_books.proofs.report.report.Goals as goal

pub write_report-requires-clause-revoked : goal.write_report-requires-clause-revoked
write_report-requires-clause-revoked c = search rules
