use Rattle.std.proofs.Common.{refl}
use Rattle.sd_engine.specs.Stage.{sink_state_of}
use Rattle.sd_command_base.specs.Outcome.{status_of}
use Rattle.sd_command_base.specs.Outside.{page_state}
use Rattle.sd_run_broadcasts.proofs.WatchPacket.{passes, passes_told, stops}
use Rattle.sd_run_broadcasts.proofs.watch_command.watch_packet.Goals as goal

pub returns-in-Ok-None-clause-value : goal.returns-in-Ok-None-clause-value
returns-in-Ok-None-clause-value g c =
    passes c.args.watcher.now c.watch.new.self c.args.packet.now (sink_state_of g.K.Sink c.args.sink.now)
    (sink_state_of g.K.Sink c.watch.new.out) (page_state g.P.Sink c.args.print.now) c.args.steps.now c.watch.new.steps
    c.args.skipped (rw c.in-Ok-None.field-0-is at c.in-Ok-None.ensures.value)

pub returns-in-Ok-Some-clause-value : goal.returns-in-Ok-Some-clause-value
returns-in-Ok-Some-clause-value g c =
    passes_told c.args.watcher.now c.watch.new.self c.args.packet.now c.in-Ok-Some.report
    (sink_state_of g.K.Sink c.args.sink.now)
    (sink_state_of g.K.Sink c.watch.new.out) (page_state g.P.Sink c.args.print.now)
    (page_state g.P.Sink c.print_report.new.print) c.args.steps.now c.watch.new.steps
    c.args.skipped (status_of c.print_report.result) (rw c.in-Ok-Some.field-0-is at c.in-Ok-Some.ensures.value)
    c.print_report.ensures.value

pub returns-in-Err-clause-value : goal.returns-in-Err-clause-value
returns-in-Err-clause-value g c =
    stops c.args.watcher.now c.watch.new.self c.args.packet.now (sink_state_of g.K.Sink c.args.sink.now)
    (sink_state_of g.K.Sink c.watch.new.out) (page_state g.P.Sink c.args.print.now) c.args.steps.now c.watch.new.steps
    c.args.skipped (c.in-Err.ensures.prefix refl)
