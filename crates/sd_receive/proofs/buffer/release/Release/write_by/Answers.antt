use Rattle.std.proofs.Common.{◌≡◌, ◌+◌, ◌≤◌, ℕ, Result, [], ◌∷◌, refl, ap, ◌∙◌, arith}
use Rattle.std.specs.Prelude.{Ok, Err, Bool, if◌then◌else◌}
use Rattle.std.proofs.lemmas.Result.{err_from_is_err_and}
use Rattle.sd_base.specs.Count.{IsCaused}
use Rattle.sd_engine.specs.Stage.{sink_state_of}
use Rattle.sd_spec.specs.Confirmed.{judged_packet}
use Rattle.sd_receive.specs.Writing.{segment_in}
use Rattle.sd_receive.specs.declared.buffer.BufferFault.{BufferFault}
use Rattle.sd_receive.specs.declared.buffer.BufferFault.TheVariants.{Parity, Write}
use Rattle.sd_receive.proofs.HoldWalking.{before_in, own_here, own_within, at_place, written_none, written_still}
use Rattle.sd_receive.proofs.HoldWalking.{written_more, written_refused, written_short, written_all}
use Rattle.sd_receive.proofs.buffer.release.Release.write_by.Goals as goal
use Rattle.sd_receive.proofs.buffer.release.Release.write_by.Goals.{then-written+in_ok-put, else-written}

-- a refused packet is no failed write
parity_is_no_write : {P : Type 0} (number : ℕ) → ◌≡◌ {A = Result ℕ BufferFault} (Err (Parity number)) (Err Write) → P
parity_is_no_write number h = cc

-- nor is one that was put
put_is_no_write : {P : Type 0} (done : Unit {0}) → ◌≡◌ {A = Result (Unit {0}) BufferFault} (Ok done) (Err Write) → P
put_is_no_write done h = cc

-- nor is the number of those that were
count_is_no_write : {P : Type 0} (count : ℕ) → ◌≡◌ {A = Result ℕ BufferFault} (Ok count) (Err Write) → P
count_is_no_write count h = cc

-- at a refused packet no write failed
calm_at_parity : (before now number : ℕ) → now ≡ before →
    IsCaused before now (◌≡◌ {A = Result ℕ BufferFault} (Err (Parity number)) (Err Write))
calm_at_parity before now number same = record {
  later = omega (arith, same);
  failed = λ failed. parity_is_no_write number failed;
  calm = λ _. same;
}

-- nor at the end
calm_at_end : (before now count : ℕ) → now ≡ before →
    IsCaused before now (◌≡◌ {A = Result ℕ BufferFault} (Ok count) (Err Write))
calm_at_end before now count same = record {
  later = omega (arith, same);
  failed = λ failed. count_is_no_write count failed;
  calm = λ _. same;
}

-- no more are written than are judged
one_more : (count i : ℕ) → count ≤ i → count + 1 ≤ i + 1
one_more count i few = omega arith

none_more : (count i : ℕ) → count ≤ i → count ≤ i + 1
none_more count i few = omega arith

pub loop-held-init : goal.loop-held-init
loop-held-init g c = record {
  written = written_none c.args.self.now (sink_state_of g.K.Sink c.args.out.now);
  few = omega arith;
  calm = refl;
}

pub judge-requires-clause-position : goal.judge-requires-clause-position
judge-requires-clause-position g c =
    own_within c.args.self.now c.loop-held.held-index c.held-item.result
    (rw c.deref-held-items.ensures.value at c.loop-held-test.true) c.requires.ready.kept
    (rw c.deref-held-items.ensures.value at c.held-item.is)

pub returns-in_err-written-clause-value : goal.returns-in_err-written-clause-value
returns-in_err-written-clause-value g c =
    let s = c.args.self.now in
    let k = c.loop-held.held-index in
    let h = c.held-item.result in
    let within = rw c.deref-held-items.ensures.value at c.loop-held-test.true in
    let at = rw c.deref-held-items.ensures.value at c.held-item.is in
    let own = own_here s k h within c.requires.ready.kept.own at in
    let told = c.in_err-written.ensures (before_in s k) own in
    let p = err_from_is_err_and c.from_residual.result c.from_residual.ensures.1 in
    rw (p.1, p.2) (rw told.0 (written_refused s k h.number h (sink_state_of g.K.Sink c.args.out.now)
    (sink_state_of g.K.Sink c.loop-held.out) c.loop-held.count
    within c.loop-held.invariant.written (at_place s k h (Err h.number) at told.1)))

pub returns-in_err-written-clause-cause : goal.returns-in_err-written-clause-cause
returns-in_err-written-clause-cause g c =
    let s = c.args.self.now in
    let k = c.loop-held.held-index in
    let h = c.held-item.result in
    let within = rw c.deref-held-items.ensures.value at c.loop-held-test.true in
    let at = rw c.deref-held-items.ensures.value at c.held-item.is in
    let own = own_here s k h within c.requires.ready.kept.own at in
    let told = c.in_err-written.ensures (before_in s k) own in
    let p = err_from_is_err_and c.from_residual.result c.from_residual.ensures.1 in
    rw (p.1, p.2) (rw told.0 (calm_at_parity (g.K.Sink.faults c.args.out.now) (g.K.Sink.faults c.loop-held.out) h.number
    c.loop-held.invariant.calm))

pub returns-in_err-put-clause-value : goal.returns-in_err-put-clause-value
returns-in_err-put-clause-value g c =
    let s = c.args.self.now in
    let k = c.loop-held.held-index in
    let h = c.held-item.result in
    let within = rw c.deref-held-items.ensures.value at c.loop-held-test.true in
    let at = rw c.deref-held-items.ensures.value at c.held-item.is in
    let own = own_here s k h within c.requires.ready.kept.own at in
    let told = c.in_ok-written.ensures (before_in s k) own in
    let close : judged_packet (segment_in s) (before_in s k) (h.number, h.packet) ≡ Ok (c.judge.new.packet ∷ []) =
    told ∙ ap (λ (b : Bool). Ok (if b then c.judge.new.packet ∷ [] else [])) c.if-written.true in
    let p = err_from_is_err_and c.from_residual-in_err-put.result c.from_residual-in_err-put.ensures.1 in
    rw (p.1, p.2) (rw c.in_err-put.ensures.fault (written_short s k h c.judge.new.packet
    (sink_state_of g.K.Sink c.args.out.now)
    (sink_state_of g.K.Sink c.loop-held.out) (sink_state_of g.K.Sink c.put.new.out) c.loop-held.count
    within c.loop-held.invariant.written (at_place s k h (Ok (c.judge.new.packet ∷ [])) at close)
    c.in_err-put.ensures.prefix))

pub loop-held-preserved : goal.loop-held-preserved
loop-held-preserved g c =
    let s = c.args.self.now in
    let k = c.loop-held.held-index in
    let h = c.held-item.result in
    let within = rw c.deref-held-items.ensures.value at c.loop-held-test.true in
    let at = rw c.deref-held-items.ensures.value at c.held-item.is in
    let own = own_here s k h within c.requires.ready.kept.own at in
    let told = c.in_ok-written.ensures (before_in s k) own in
    elim c.if-written.branch [
      | then-written+in_ok-put w ↦
          let close : judged_packet (segment_in s) (before_in s k) (h.number, h.packet) ≡ Ok (c.judge.new.packet ∷ []) =
          told ∙ ap (λ (b : Bool). Ok (if b then c.judge.new.packet ∷ [] else [])) w.if-written.true in
          rw w.out-is (rw w.count-is (record {
            written = written_more s k h c.judge.new.packet (sink_state_of g.K.Sink c.args.out.now)
                (sink_state_of g.K.Sink c.loop-held.out) (sink_state_of g.K.Sink w.put.new.out) c.loop-held.count
                within c.loop-held.invariant.written (at_place s k h (Ok (c.judge.new.packet ∷ [])) at close)
                w.in_ok-put.ensures.ok;
            few = one_more c.loop-held.count k c.loop-held.invariant.few;
            calm = w.in_ok-put.ensures.cause.calm (λ e. put_is_no_write tt e) ∙ c.loop-held.invariant.calm;
          }))
      | else-written w ↦
          let far : judged_packet (segment_in s) (before_in s k) (h.number, h.packet) ≡ Ok [] =
          told ∙ ap (λ (b : Bool). Ok (if b then c.judge.new.packet ∷ [] else [])) w.if-written.false in
          rw w.out-is (rw w.count-is (record {
            written = written_still s k h (sink_state_of g.K.Sink c.args.out.now)
                (sink_state_of g.K.Sink c.loop-held.out)
                c.loop-held.count
                within c.loop-held.invariant.written (at_place s k h (Ok []) at far);
            few = none_more c.loop-held.count k c.loop-held.invariant.few;
            calm = c.loop-held.invariant.calm;
          }))
    ]

pub returns-clause-value : goal.returns-clause-value
returns-clause-value g c =
    written_all c.args.self.now c.loop-held.held-index (sink_state_of g.K.Sink c.args.out.now)
    (sink_state_of g.K.Sink c.loop-held.out) c.loop-held.count
    (rw c.deref-held-items.ensures.value at c.loop-held-test.false) c.loop-held.invariant.written

pub returns-clause-cause : goal.returns-clause-cause
returns-clause-cause g c =
    calm_at_end (g.K.Sink.faults c.args.out.now) (g.K.Sink.faults c.loop-held.out) c.loop-held.count
    c.loop-held.invariant.calm
