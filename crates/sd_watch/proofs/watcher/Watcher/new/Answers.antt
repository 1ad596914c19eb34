use Rattle.std.proofs.Common.{refl}
use Rattle.sd_spec.specs.Counting.{counting}
use Rattle.sd_spec.specs.Reports.{tally_from}
use Rattle.sd_watch.proofs.watcher.Watcher.new.Goals as goal

-- src/watching.rt:40:5
pub returns-clause-value : goal.returns-clause-value
unfolding counting tally_from
returns-clause-value c = record {
  receiver = c.in_ok-receiver.ensures.value;
  recent = c.in_ok-recent.ensures;
  packets_are = refl;
  tally_is = refl;
}

-- src/watching.rt:40:5
pub returns-clause-ready : goal.returns-clause-ready
returns-clause-ready c = record {
  fit = c.in_ok-receiver.ensures.live c.in_ok-receiver.ensures.value.unrefused;
  unrefused = c.in_ok-receiver.ensures.value.unrefused;
  told = c.in_ok-receiver.ensures.told;
}
