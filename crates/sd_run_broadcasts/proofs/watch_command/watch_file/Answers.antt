use Rattle.std.proofs.Common.{[], Some, refl}
use Rattle.std.proofs.lemmas.Result.{err_from_is_err_and}
use Rattle.sd_ports.proofs.Outlets.{there_after}
use Rattle.sd_watch.specs.Watching.{watcher_card}
use Rattle.sd_command_base.specs.Outside.{depot_state, io_state, page_state}
use Rattle.sd_command_base.specs.Spec.{whole_file_bytes, value, ◌>>=◌}
use Rattle.sd_command_base.specs.Outcome.{status_of}
use Rattle.sd_command_base.specs.Shown.{shown_word}
use Rattle.sd_command_base.proofs.Looked.{opened_got}
use Rattle.sd_command_base.proofs.Streamed.{got_follows}
use Rattle.sd_run_broadcasts.specs.Watch.{watched_of, watching}
use Rattle.sd_run_broadcasts.proofs.Living.{not_lived}
use Rattle.sd_run_broadcasts.proofs.WatchedFile.{watched_obeys}
use Rattle.sd_run_broadcasts.proofs.watch_command.watch_file.Goals as goal

pub returns-in_err-inlet : goal.returns-in_err-inlet
returns-in_err-inlet g c =
    let result = err_from_is_err_and c.from_residual.result c.from_residual.ensures.1 in
    let card = watcher_card c.args.watcher in
    let stream = shown_word c.args.stream in
    let out = shown_word c.args.out in
    let page = page_state g.P.Sink c.args.print.now in
    let p = depot_state g.D.Depot c.args.depot.now in
    let q = depot_state g.D.Depot c.open_both.new.depot in
    let i = c.args.steps.now in
    let status = c.in_err-inlet.field-0.0 in
    let not = not_lived (watching card out) (watched_of card) stream out p q page i status (λ bytes. refl)
    (λ bytes. refl) c.in_err-inlet.ensures.fault in
    rw (result.1, result.2) (got_follows (λ got. whole_file_bytes stream.number got >>=
    λ bytes. value (watching card out bytes)) stream not.got
    (io_state p page i) (io_state q page i) status not.is_got not.obeys)

pub close_both-closed-requires : goal.close_both-closed-requires
close_both-closed-requires g c = there_after _ _ c.args.out.text.now [] c.in_ok-inlet.ensures.ok.files

pub returns : goal.returns
returns g c =
    let card = watcher_card c.args.watcher in
    let stream = shown_word c.args.stream in
    let out = shown_word c.args.out in
    let p = depot_state g.D.Depot c.args.depot.now in
    let q = depot_state g.D.Depot c.open_both.new.depot in
    let r = depot_state g.D.Depot c.close_both-closed.new.depot in
    let i = c.args.steps.now in
    let j = c.watch_all-ended.new.steps in
    let opened = c.in_ok-inlet.ensures.ok in
    let watched = c.watch_all-ended.ensures.value in
    got_follows (λ got. whole_file_bytes stream.number got >>= λ bytes. value (watching card out bytes)) stream
    (Some watched.bytes)
    (io_state p (page_state g.P.Sink c.args.print.now) i) (io_state r (page_state g.P.Sink c.tell_end.new.print) j)
    (status_of c.tell_end.result) (opened_got p.files stream.text _ watched.bytes opened.opens watched.is_left)
    (watched_obeys card stream out p q r (page_state g.P.Sink c.args.print.now)
    (page_state g.P.Sink c.watch_all-ended.new.print)
    (page_state g.P.Sink c.tell_end.new.print) i j _ _ _ _ _ _ _ c.watch_all-ended.new.watcher
    c.watch_all-ended.new.skipped c.watch_all-ended.result c.close_both-closed.result (status_of c.tell_end.result)
    opened
    c.watch_all-ended.ensures.cause watched c.close_both-closed.ensures c.tell_end.ensures.untold
    c.tell_end.ensures.told)
