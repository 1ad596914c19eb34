use Rattle.std.proofs.Common.{refl, inl, ◌∷◌}
use Rattle.sd_engine.specs.Stage.{sink_state_of}
use Rattle.sd_engine.specs.declared.stage.StageFault.TheVariants.{Write, Refused}
use Rattle.sd_engine.proofs.Answering.{ok_is_no_err, refusal_is_no_write, write_is_no_refusal, refusal_is_calm}
use Rattle.sd_engine.proofs.Answering.{written_is_calm, failed_is_counted}
use Rattle.sd_engine.proofs.Chains.{grew_none}
use Rattle.sd_engine.proofs.Vessels.{cut_short, too_short}
use Rattle.sd_run_streams.specs.InspectorStaged.{inspector_state}
use Rattle.sd_run_streams.proofs.Answering.{none_kept, true_is_no_false, none_counted}
use Rattle.sd_run_streams.proofs.Staging.{idle_after, inspects}
use Rattle.sd_run_streams.proofs.inspector.InspectorStage.offer.Goals as goal

-- out of memory before
pub returns-then-self : goal.returns-then-self
returns-then-self g c = record {
  value = tt;
  ok = tt;
  fault = λ fault same. grew_none _ (sink_state_of g.K.Sink c.args.out.now) c.args.steps.now
      (record { nothing = refl; kept = c.if-self.true; no_steps = refl });
  keeps = λ fault same. (c.requires.live, rw c.if-self.true refl);
  again = λ fault kept. (refl, refl, refl);
  prefix = λ failed. refusal_is_no_write (record {}) failed;
  cause = refusal_is_calm (g.K.Sink.faults c.args.out.now) (record {});
}

pub take-requires : goal.take-requires
take-requires g c =
    let ready = c.requires.live c.if-self.false in
    idle_after ready.0 c.args.self.now.assemblies.watched.marks.items c.args.self.now.assemblies.assemblers.items
    ready.1

-- and now
pub returns-in-Err : goal.returns-in-Err
returns-in-Err g c = record {
  value = tt;
  ok = tt;
  fault = λ fault same. grew_none _ (sink_state_of g.K.Sink c.args.out.now) c.args.steps.now
      (record { nothing = refl; kept = refl; no_steps = refl });
  keeps = λ fault same. (λ calm. true_is_no_false calm, refl);
  again = λ fault kept. (refl, refl, refl);
  prefix = λ failed. refusal_is_no_write (record {}) failed;
  cause = refusal_is_calm (g.K.Sink.faults c.args.out.now) (record {});
}

-- the packet's lines were written
pub returns-in-Ok : goal.returns-in-Ok
returns-in-Ok g c = record {
  value = record {
    bytes = c.as_bytes.result.now;
    steps = 0;
    says = inspects (inspector_state c.args.self.now) (inspector_state (record {
      alloc = c.args.self.now.alloc;
      assemblies = c.take.new.self;
      number = c.saturating_add-self.result;
      out_of_memory = c.args.self.now.out_of_memory;
    })) c.args.packet.now _ _ _ c.as_bytes.ensures.value c.new-text.ensures.bytes c.in_default.ensures.lines
        c.in_default.ensures.after c.saturating_add-self.ensures;
    taken = c.in-Ok.ensures.all;
    room = c.in-Ok.ensures.room;
    counted = none_counted c.args.steps.now;
  };
  ok = let ready = c.requires.live c.if-self.false in
      (λ calm. (c.args.packet.now ∷ ready.0, c.in_default.ensures.after ready.0 ready.1), rw c.if-self.false refl);
  fault = λ fault same. ok_is_no_err (Refused fault) same;
  keeps = λ fault same. ok_is_no_err (Refused fault) same;
  again = λ fault kept. none_kept fault (rw c.if-self.false at kept);
  prefix = λ failed. ok_is_no_err Write failed;
  cause = written_is_calm (g.K.Sink.faults c.args.out.now) (g.K.Sink.faults c.write_all.new.sink)
      c.in-Ok.ensures.cause;
}

-- a write failed, of the packet's lines
pub returns : goal.returns
returns g c = record {
  value = tt;
  ok = tt;
  fault = λ fault same. write_is_no_refusal fault same;
  keeps = λ fault same. write_is_no_refusal fault same;
  again = λ fault kept. none_kept fault (rw c.if-self.false at kept);
  prefix = λ is. cut_short _ (sink_state_of g.K.Sink c.args.out.now) (sink_state_of g.K.Sink c.write_all.new.sink)
      c.as_bytes.result.now (
        0,
        none_counted c.args.steps.now,
        inl (
          record {
            alloc = c.args.self.now.alloc;
            assemblies = c.take.new.self;
            number = c.saturating_add-self.result;
            out_of_memory = c.args.self.now.out_of_memory;
          },
          inspects (inspector_state c.args.self.now) _ c.args.packet.now _ _ _ c.as_bytes.ensures.value
              c.new-text.ensures.bytes c.in_default.ensures.lines c.in_default.ensures.after
              c.saturating_add-self.ensures,
        ),
      ) c.in-Err-write_all.ensures.prefix
      (too_short _ _ _ _ c.in-Err-write_all.ensures.room);
  cause = failed_is_counted (g.K.Sink.faults c.args.out.now) (g.K.Sink.faults c.write_all.new.sink) _
      c.in-Err-write_all.ensures.cause;
}
