use Rattle.std.proofs.lemmas.Result.{err_from_is_err_and}
use Rattle.sd_watch.specs.Watching.{watcher_card}
use Rattle.sd_command_base.specs.Outside.{depot_state, page_state, io_state_at}
use Rattle.sd_command_base.specs.Spec.{whole_file_bytes, value, ◌>>=◌}
use Rattle.sd_command_base.specs.Outcome.{status_of}
use Rattle.sd_command_base.specs.Shown.{shown_word}
use Rattle.sd_command_base.proofs.Streamed.{first_follows, then_follows}
use Rattle.sd_run_broadcasts.specs.Receive.{card_of_file}
use Rattle.sd_run_broadcasts.specs.Watch.{watch_meaning, watched_meaning, watching}
use Rattle.sd_run_broadcasts.proofs.watch_command.watch.Goals as goal

pub returns-in_err-watcher : goal.returns-in_err-watcher
unfolding watch_meaning
returns-in_err-watcher g c =
    let p = err_from_is_err_and c.from_residual.result c.from_residual.ensures.1 in
    let card = shown_word c.args.card in
    rw (p.1, p.2) (first_follows watcher_card (card_of_file card.number)
    (λ given fields. watched_meaning fields (shown_word c.args.stream) (shown_word c.args.out) given) card
    (depot_state g.D.Depot c.args.depot.now) (depot_state g.D.Depot c.read_watcher.new.depot)
    (page_state g.P.Sink c.args.print.now) c.args.steps.now
    c.in_err-watcher.field-0.0 c.in_err-watcher.ensures.value)

pub returns : goal.returns
unfolding watch_meaning
returns g c =
    let card = shown_word c.args.card in
    let stream = shown_word c.args.stream in
    then_follows watcher_card (card_of_file card.number)
    (λ fields got. whole_file_bytes stream.number got >>= λ bytes. value
    (watching fields (shown_word c.args.out) bytes)) card
    stream
    (depot_state g.D.Depot c.args.depot.now) (depot_state g.D.Depot c.read_watcher.new.depot)
    (page_state g.P.Sink c.args.print.now) c.args.steps.now
    (io_state_at g.D.Depot g.P.Sink c.watch_file.new.depot c.watch_file.new.print
    c.watch_file.new.steps) c.in_ok-watcher.watcher
    (status_of c.watch_file.result) c.requires c.in_ok-watcher.ensures.value c.watch_file.ensures
