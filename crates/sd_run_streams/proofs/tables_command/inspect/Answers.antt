use Rattle.std.proofs.lemmas.Result.{err_from_is_err_and}
use Rattle.sd_command_base.specs.Outside.{page_state}
use Rattle.sd_command_base.specs.Outcome.{status_of}
use Rattle.sd_run_streams.proofs.Inspected.{not_inspected, is_inspected, read_caused}
use Rattle.sd_run_streams.proofs.tables_command.inspect.Goals as goal

pub returns-in_err-inspector-clause-value : goal.returns-in_err-inspector-clause-value
returns-in_err-inspector-clause-value g c =
    let p = err_from_is_err_and c.from_residual.result c.from_residual.ensures.1 in
    rw (p.1, p.2) (not_inspected (g.S.Source.left c.args.source.now) (page_state g.P.Sink c.args.print.now))

pub returns-clause-value : goal.returns-clause-value
returns-clause-value g c =
    is_inspected _ _ _ _ c.drive.result (status_of c.drive_result.result) c.in_ok-inspector.ensures.value
    c.drive.ensures.written
    c.drive.ensures.value c.drive_result.ensures

pub returns-clause-cause : goal.returns-clause-cause
returns-clause-cause g c =
    read_caused _ _ c.drive.result (status_of c.drive_result.result) c.drive_result.ensures c.drive.ensures.read
