use Rattle.sd_command_base.specs.Outside.{io_state_at}
use Rattle.sd_command_base.specs.Outcome.{status_of}
use Rattle.sd_command_line.specs.CommandLine.{words_of}
use Rattle.sd_command_line.specs.Orders.{order_said}
use Rattle.sd_run.proofs.Notes.{order_said_so, refused_quietly}
use Rattle.sd_run.proofs.Ordered.{order_follows, words_follow}
use Rattle.sd_run.proofs.top.obey.Goals as goal

pub returns-in-Err-clause-value : goal.returns-in-Err-clause-value
returns-in-Err-clause-value g c =
    let read = rw c.in-Err.is at c.order.ensures.value in
    let fault = rw c.in-Err.is at c.order.ensures.fault in
    words_follow (words_of c.args.line.now) c.in-Err.status
    (io_state_at g.D.Depot g.P.Sink c.args.depot.now c.args.print.now c.args.steps.now)
    read fault

pub returns-in-Ok-clause-value : goal.returns-in-Ok-clause-value
returns-in-Ok-clause-value g c =
    let read = rw c.in-Ok.is at c.order.ensures.value in
    order_follows (words_of c.args.line.now) (order_said c.in-Ok.order)
    (io_state_at g.D.Depot g.P.Sink c.args.depot.now c.args.print.now c.args.steps.now)
    (io_state_at g.D.Depot g.P.Sink c.follow.new.depot c.follow.new.print c.follow.new.steps)
    (status_of c.follow.result) read c.follow.ensures.value

pub returns-in-Err-clause-notes : goal.returns-in-Err-clause-notes
returns-in-Err-clause-notes g c =
    let read = rw c.in-Err.is at c.order.ensures.value in
    refused_quietly (words_of c.args.line.now) c.in-Err.status (g.D.Depot.files c.args.depot.now)
    (g.N.Sink.held c.args.notes.now) read

pub returns-in-Ok-clause-notes : goal.returns-in-Ok-clause-notes
returns-in-Ok-clause-notes g c =
    let read = rw c.in-Ok.is at c.order.ensures.value in
    order_said_so (words_of c.args.line.now) (order_said c.in-Ok.order) read c.follow.ensures.notes
