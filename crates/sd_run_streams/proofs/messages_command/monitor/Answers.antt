use Rattle.sd_site_cards.specs.SiteFields.{site_fields_of}
use Rattle.sd_command_base.specs.Outcome.{status_of}
use Rattle.sd_run_streams.proofs.Inspected.{read_caused}
use Rattle.sd_run_streams.proofs.Monitored.{is_monitored}
use Rattle.sd_run_streams.proofs.messages_command.monitor.Goals as goal

pub returns-clause-value : goal.returns-clause-value
returns-clause-value g c =
    is_monitored (site_fields_of c.args.site.now) _ _ _ _ c.drive.result (status_of c.drive_result.result)
    c.new-monitor.ensures.value c.drive.ensures.written c.drive.ensures.value c.drive_result.ensures

pub returns-clause-cause : goal.returns-clause-cause
returns-clause-cause g c =
    read_caused _ _ c.drive.result (status_of c.drive_result.result) c.drive_result.ensures c.drive.ensures.read
