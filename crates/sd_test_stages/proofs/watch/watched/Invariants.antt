use Rattle.sd_watch.specs.Watching.{IsWatcherReady}
use Rattle.sd_test_stages.proofs.watch.watched.Given as goal

-- the watcher may be given the next packet
abbrev pub invariant-loop-packet : goal.invariant-loop-packet
invariant-loop-packet g l = record { ready : IsWatcherReady l.watcher }
