use Rattle.std.proofs.Common.{arith, refl, ◌∷◌, ◌∙◌}
use Rattle.sd_watch.proofs.watcher.Watcher.keep.Goals as goal

-- src/watching.rt:167:5
pub returns-clause-kept : goal.returns-clause-kept
returns-clause-kept c past n after recent packets low = record {
  receiver = c.take_ended-ended.ensures.stands (c.args.packet.now ∷ past) after;
  recent = c.push.ensures past recent;
  packets_are = omega (arith, c.saturating_add-self.ensures, packets, low);
  tally_is = refl;
}

-- src/watching.rt:167:5
pub returns-clause-ready : goal.returns-clause-ready
returns-clause-ready c fit unrefused = record {
  fit = c.take_ended-ended.ensures.fit fit;
  unrefused = c.take_ended-ended.ensures.same.1 ∙ unrefused;
  told = c.take_ended-ended.ensures.taken;
}
