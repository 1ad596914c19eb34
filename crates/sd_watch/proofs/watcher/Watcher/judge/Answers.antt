use Rattle.std.proofs.Common.{true, false}
use Rattle.sd_watch.specs.Watching.{watcher_card}
use Rattle.sd_watch.proofs.Watched.{reason_is}
use Rattle.sd_watch.proofs.watcher.Watcher.judge.Goals as goal

-- src/watching.rt:112:5
pub returns-then-is_stray : goal.returns-then-is_stray
returns-then-is_stray c past n tally kept =
    reason_is (watcher_card c.args.self.now) past c.args.packet.now false false true c.if-is_marked.ensures
    (c.if-is_doubled.ensures past n tally kept) (c.if-is_stray.ensures past kept.receiver)

-- src/watching.rt:112:5
pub returns-else-is_stray : goal.returns-else-is_stray
returns-else-is_stray c past n tally kept =
    reason_is (watcher_card c.args.self.now) past c.args.packet.now false false false c.if-is_marked.ensures
    (c.if-is_doubled.ensures past n tally kept) (c.if-is_stray.ensures past kept.receiver)
