use Rattle.sd_watch.specs.Watching.{watcher_card, counted_of}
use Rattle.sd_watch.proofs.Watched.{report_is}
use Rattle.sd_watch.proofs.watcher.Watcher.report.Goals as goal

-- src/watching.rt:81:5
pub returns : goal.returns
returns c s watching low =
    let past = counted_of (watcher_card c.args.self.now) s in
    report_is s c.args.self.now c.written.result c.name.result c.run_end.result watching
    (c.written.ensures past watching.receiver) (c.name.ensures past watching.receiver)
    (c.run_end.ensures past watching.receiver)
