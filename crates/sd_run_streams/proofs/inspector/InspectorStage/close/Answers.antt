use Rattle.std.proofs.Common.{refl}
use Rattle.sd_engine.specs.Stage.{sink_state_of}
use Rattle.sd_engine.specs.declared.stage.StageFault.TheVariants.{Write, Refused}
use Rattle.sd_engine.proofs.Answering.{ok_is_no_err, refusal_is_no_write, refusal_is_calm, success_is_calm}
use Rattle.sd_engine.proofs.Chains.{grew_none}
use Rattle.sd_run_streams.proofs.Answering.{none_kept}
use Rattle.sd_run_streams.proofs.inspector.InspectorStage.close.Goals as goal

-- out of memory before
pub returns-then-self : goal.returns-then-self
returns-then-self g c = record {
  value = tt;
  ok = tt;
  fault = λ fault same. grew_none _ (sink_state_of g.K.Sink c.args.out.now) c.args.steps.now
      (record { nothing = refl; kept = c.if-self.true; no_steps = refl });
  keeps = λ fault same. (c.requires.live, rw c.if-self.true refl);
  again = λ fault kept. (refl, refl, refl);
  prefix = λ failed. refusal_is_no_write (record {}) failed;
  cause = refusal_is_calm (g.K.Sink.faults c.args.out.now) (record {});
}

-- nothing is written
pub returns : goal.returns
returns g c = record {
  value = grew_none _ (sink_state_of g.K.Sink c.args.out.now) c.args.steps.now
      (record { nothing = refl; same = refl; no_steps = refl });
  ok = rw c.if-self.false refl;
  fault = λ fault same. ok_is_no_err (Refused fault) same;
  keeps = λ fault same. ok_is_no_err (Refused fault) same;
  again = λ fault kept. none_kept fault (rw c.if-self.false at kept);
  prefix = λ failed. ok_is_no_err Write failed;
  cause = success_is_calm (g.K.Sink.faults c.args.out.now);
}
