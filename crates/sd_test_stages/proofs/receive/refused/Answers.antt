use Rattle.std.proofs.Common.{◌∙◌, ap}
use Rattle.std.specs.Prelude.{Err}
use Rattle.sd_test_stages.proofs.receive.refused.Goals as goal
use Rattle.sd_test_stages.proofs.receive.refused.Goals.{in-Ok, in-Err-Refused}

pub loop-packet-preserved : goal.loop-packet-preserved
loop-packet-preserved g c = record {
  fit = elim c.match-take.branch [
    | in-Ok w ↦ w.in-Ok.ensures.ok
    | in-Err-Refused w ↦ c.take.ensures.fit _ (w.in-Err-Refused.is ∙ ap (λ f. Err f) w.in-Err-Refused.field-0-is)
  ];
  unrefused = c.take.ensures.unrefused;
}
