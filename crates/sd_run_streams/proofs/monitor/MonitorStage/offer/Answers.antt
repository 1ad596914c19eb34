use Rattle.std.proofs.Common.{refl, inl, ◌∙◌}
use Rattle.sd_engine.specs.Stage.{sink_state_of}
use Rattle.sd_engine.specs.declared.stage.StageFault.TheVariants.{Write, Refused}
use Rattle.sd_engine.proofs.Answering.{ok_is_no_err, refusal_is_no_write, write_is_no_refusal, refusal_is_calm}
use Rattle.sd_engine.proofs.Answering.{written_is_calm, failed_is_counted}
use Rattle.sd_engine.proofs.Chains.{grew_none}
use Rattle.sd_engine.proofs.Vessels.{cut_short, too_short}
use Rattle.sd_run_streams.specs.MonitorStaged.{RefusesMonitored}
use Rattle.sd_run_streams.proofs.Answering.{none_kept, none_counted}
use Rattle.sd_run_streams.proofs.monitor.MonitorStage.offer.Goals as goal

-- out of memory before
pub returns-then-self : goal.returns-then-self
returns-then-self g c = record {
  value = tt;
  ok = tt;
  fault = λ fault same. grew_none (RefusesMonitored c.args.self.now) (sink_state_of g.K.Sink c.args.out.now)
      c.args.steps.now
      (record { nothing = refl; kept = c.if-self.true; no_steps = refl });
  keeps = λ fault same. (tt, rw c.if-self.true refl);
  again = λ fault kept. (refl, refl, refl);
  prefix = λ failed. refusal_is_no_write (record {}) failed;
  cause = refusal_is_calm (g.K.Sink.faults c.args.out.now) (record {});
}

-- and now
pub returns-in_default : goal.returns-in_default
returns-in_default g c = record {
  value = tt;
  ok = tt;
  fault = λ fault same. grew_none _ (sink_state_of g.K.Sink c.args.out.now) c.args.steps.now
      (record { nothing = refl; kept = refl; no_steps = refl });
  keeps = λ fault same. (tt, refl);
  again = λ fault kept. (refl, refl, refl);
  prefix = λ failed. refusal_is_no_write (record {}) failed;
  cause = refusal_is_calm (g.K.Sink.faults c.args.out.now) (record {});
}

-- the packet's line was written
pub returns-in-Ok-write_all : goal.returns-in-Ok-write_all
returns-in-Ok-write_all g c = record {
  value = record {
    bytes = c.as_bytes.result.now;
    steps = 0;
    says = record {
      line = c.as_bytes.ensures.value ∙ c.in-Ok.ensures;
      site = refl;
      number = c.saturating_add-self.ensures;
      no_steps = refl;
    };
    taken = c.in-Ok-write_all.ensures.all;
    room = c.in-Ok-write_all.ensures.room;
    counted = none_counted c.args.steps.now;
  };
  ok = (tt, rw c.if-self.false refl);
  fault = λ fault same. ok_is_no_err (Refused fault) same;
  keeps = λ fault same. ok_is_no_err (Refused fault) same;
  again = λ fault kept. none_kept fault (rw c.if-self.false at kept);
  prefix = λ failed. ok_is_no_err Write failed;
  cause = written_is_calm (g.K.Sink.faults c.args.out.now) (g.K.Sink.faults c.write_all.new.sink)
      c.in-Ok-write_all.ensures.cause;
}

-- a write failed, of the packet's line
pub returns : goal.returns
returns g c = record {
  value = tt;
  ok = tt;
  fault = λ fault same. write_is_no_refusal fault same;
  keeps = λ fault same. write_is_no_refusal fault same;
  again = λ fault kept. none_kept fault (rw c.if-self.false at kept);
  prefix = λ is. cut_short _ (sink_state_of g.K.Sink c.args.out.now) (sink_state_of g.K.Sink c.write_all.new.sink)
      c.as_bytes.result.now (
        0,
        none_counted c.args.steps.now,
        inl (
          record {
            alloc = c.args.self.now.alloc;
            site = c.args.self.now.site;
            number = c.saturating_add-self.result;
            out_of_memory = c.args.self.now.out_of_memory;
          },
          record {
            line = c.as_bytes.ensures.value ∙ c.in-Ok.ensures;
            site = refl;
            number = c.saturating_add-self.ensures;
            no_steps = refl;
          },
        ),
      ) c.in-Err.ensures.prefix
      (too_short _ _ _ _ c.in-Err.ensures.room);
  cause = failed_is_counted (g.K.Sink.faults c.args.out.now) (g.K.Sink.faults c.write_all.new.sink) _
      c.in-Err.ensures.cause;
}
