use Rattle.std.proofs.Common.{◌∙◌}
use Rattle.sd_host.proofs.Kept.{kept_moved}
use Rattle.sd_host.proofs.outlet.HostOutlet.send.Goals as goal

pub loop-self-preserved : goal.loop-self-preserved
loop-self-preserved g c = record {
  calm = c.in-Ok.ensures.cause.calm ∙ c.loop-self.invariant.calm;
  kept = kept_moved _ _ _ c.deref.result.now c.loop-self.self.waiting.items c.loop-self.self.sent c.in-Ok.count
      c.deref.ensures.value c.loop-self.invariant.kept c.in-Ok.ensures.passed;
}
