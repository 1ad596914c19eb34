use Rattle.std.proofs.Common.{subst}
use Rattle.sd_ports.specs.Bytes.{AppendsPrefix}
use Rattle.sd_run_broadcasts.specs.Air.{air_line}
use Rattle.sd_run_broadcasts.specs.declared.air_report.AirReport.{AirReport}
use Rattle.sd_run_broadcasts.proofs.Saying.{one_noted}
use Rattle.sd_run_broadcasts.proofs.air_send.note.Goals as goal

pub returns : goal.returns
returns g c plan past keeps =
    one_noted plan past c.args.skipped _ _
    (subst (λ (r : AirReport). AppendsPrefix (g.N.Sink.held c.args.notes.now) (g.N.Sink.held c.write_noted.new.notes)
    (air_line r)) (c.report.ensures plan past keeps) c.write_noted.ensures)
