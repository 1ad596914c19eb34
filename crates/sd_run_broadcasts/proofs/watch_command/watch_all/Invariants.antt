use Rattle.std.proofs.Common.{◌≡◌, ◌≤◌, length}
use Rattle.sd_engine.specs.Feeding.{waiting}
use Rattle.sd_watch.specs.Watching.{watcher_card, IsWatcherReady}
use Rattle.sd_command_base.specs.Outside.{page_state}
use Rattle.sd_run_broadcasts.specs.Watched.{IsUnderWay}
use Rattle.sd_run_broadcasts.proofs.watch_command.watch_all.Given as goal

-- so many packets were watched, and nothing failed
abbrev pub invariant-loop-count : goal.invariant-loop-count
invariant-loop-count g l = record {
  ready : IsWatcherReady l.watcher;
  begun : l.ahead.at ≤ l.ahead.filled;
  within : l.ahead.filled ≤ 66176;
  long : length l.piece ≡ 66176;
  way : IsUnderWay (watcher_card l.fn.watcher) (g.S.Source.left l.fn.source) (g.S.Source.left l.source)
      (g.K.Sink.held l.fn.sink) (g.K.Sink.held l.sink) (page_state g.P.Sink l.fn.print) (page_state g.P.Sink l.print)
      l.fn.steps l.steps l.watcher (waiting l.piece l.ahead.at l.ahead.filled) l.ahead.ended l.skipped l.count;
  read : g.S.Source.faults l.source ≡ g.S.Source.faults l.fn.source;
  written : g.K.Sink.faults l.sink ≡ g.K.Sink.faults l.fn.sink;
}
