use Rattle.std.proofs.Common.{◌≡◌, ℕ, Result, Ok, Err, [], inl, inr, refl, sym, ap, subst, arith, ◌∙◌}
use Rattle.std.proofs.lemmas.Result.{err_from_is_err_and}
use Rattle.sd_base.specs.Count.{IsCaused, HasRisen}
use Rattle.sd_engine.specs.Seeking.{SeekOutcome}
use Rattle.sd_engine.specs.declared.seeking.SeekFault.{SeekFault}
use Rattle.sd_engine.specs.declared.seeking.SeekFault.TheVariants as seek
use Rattle.sd_watch.specs.Watching.{watcher_card}
use Rattle.sd_command_base.specs.declared.status.Status.{Status}
use Rattle.sd_command_base.specs.declared.status.Status.TheVariants.{DepotFault}
use Rattle.sd_command_base.specs.Outside.{page_state}
use Rattle.sd_command_base.specs.Turned.{HasPortCause}
use Rattle.sd_run_broadcasts.specs.Receive.{ending_status}
use Rattle.sd_run_broadcasts.specs.Watched.{seek_stop_status}
use Rattle.sd_run_broadcasts.proofs.Watched.{all_watched, handed, most_watched, not_begun, outside_undone, packet_found}
use Rattle.sd_run_broadcasts.proofs.Watched.{packet_passed, packet_stopped, seek_stopped}
use Rattle.sd_run_broadcasts.proofs.watch_command.watch_all.Goals as goal

-- a write of a packet is the only fault of a port, if none was seen before it
write_cause : (from_before from_now out_before out_then out_now : ℕ) (status : Status) → from_now ≡ from_before →
    out_then ≡ out_before → IsCaused out_then out_now (status ≡ DepotFault) →
    HasPortCause from_before from_now out_before out_now status
write_cause from_before from_now out_before out_then out_now status read written cause = record {
  calm = λ other. (read, cause.calm other ∙ written);
  failed = λ fails. inr (subst (λ (count : ℕ). HasRisen count out_now) written (cause.failed fails));
}

-- a search that stops is a device fault exactly if a port failed
stop_cause : {T : Type 0} (from_before from_now out_before out_now : ℕ) (why : SeekFault) →
    IsCaused from_before from_now (◌≡◌ {A = Result T SeekFault} (Err why) (Err seek.Read)) →
    IsCaused out_before out_now (◌≡◌ {A = Result T SeekFault} (Err why) (Err seek.Write)) →
    HasPortCause from_before from_now out_before out_now (seek_stop_status why)
stop_cause a b p q seek.Read read written = record {
  calm = λ other. absurd (other refl);
  failed = λ _. inl (read.failed refl);
}
stop_cause a b p q seek.Write read written = record {
  calm = λ other. absurd (other refl);
  failed = λ _. inr (written.failed refl);
}
stop_cause a b p q seek.TooLong read written = record {
  calm = λ _. (read.calm (λ e. absurd (cc)), written.calm (λ e. absurd (cc)));
  failed = λ e. absurd (cc);
}

-- a search that found something did not fail
found_unfailed : {P T E : Type 0} (x : T) (fault : E) → ◌≡◌ {A = Result T E} (Ok x) (Err fault) → P
found_unfailed x fault h = absurd (cc)

pub loop-count-init : goal.loop-count-init
loop-count-init g c = record {
  ready = c.requires.ready;
  begun = omega arith;
  within = omega arith;
  long = refl;
  way = rw c.requires.none (not_begun (watcher_card c.args.watcher.now) (g.S.Source.left c.args.source.now)
      (g.K.Sink.held c.args.sink.now) (page_state g.P.Sink c.args.print.now) c.args.steps.now c.args.watcher.now [] refl
      c.requires.new refl);
  read = refl;
  written = refl;
}

pub loop-count-preserved : goal.loop-count-preserved
loop-count-preserved g c = record {
  ready = c.in_ok-watch_packet-in-Ok-Some-default.ensures.ready;
  begun = c.in-Ok-Some-default.ensures.begun;
  within = omega (
    arith,
    c.in-Ok-Some-default.ensures.within,
    c.in-Ok-Some-default.ensures.length,
    c.loop-count.invariant.long,
  );
  long = c.in-Ok-Some-default.ensures.length ∙ c.loop-count.invariant.long;
  way = packet_passed _ _ _ _ _ _ _ _ _ _ _ _ _ _ _ _ _ _ _ _
      (packet_found _ _ _ _ _ _ _ _ _ _ _ _ _ _ _ _ _ _ _
      (handed _ _ _ _ _ _ _ _ _ _ _ _ _ _ _ c.loop-count.invariant.way c.in-Ok-Some-default.ensures.same)
      (subst (SeekOutcome _ _ _ _ _ _ _ _) c.in-Ok-Some-default.field-0-0-is c.in-Ok-Some-default.ensures.value))
      c.loop-count-test.true c.in_ok-watch_packet-in-Ok-Some-default.ensures.value refl
      c.in_ok-watch_packet-in-Ok-Some-default.ensures.steps;
  read = c.in-Ok-Some-default.ensures.cause.calm (λ e. absurd (cc)) ∙ c.loop-count.invariant.read;
  written = c.in_ok-watch_packet-in-Ok-Some-default.ensures.cause.calm (λ e. cc)
      ∙ (c.in-Ok-Some-default.ensures.written.calm (λ e. absurd (cc)) ∙ c.loop-count.invariant.written);
}

pub returns-in_err-watch_packet-in-Ok-Some-default-clause-value :
    goal.returns-in_err-watch_packet-in-Ok-Some-default-clause-value
returns-in_err-watch_packet-in-Ok-Some-default-clause-value g c =
    let p = err_from_is_err_and c.from_residual.result c.from_residual.ensures.1 in
    rw (p.1, p.2) (packet_stopped _ _ _ _ _ _ _ _ _ _ _ _ _ _ _ _ _ _ _ _
    (packet_found _ _ _ _ _ _ _ _ _ _ _ _ _ _ _ _ _ _ _
    (handed _ _ _ _ _ _ _ _ _ _ _ _ _ _ _ c.loop-count.invariant.way c.in-Ok-Some-default.ensures.same)
    (subst (SeekOutcome _ _ _ _ _ _ _ _) c.in-Ok-Some-default.field-0-0-is c.in-Ok-Some-default.ensures.value))
    c.loop-count-test.true c.in_err-watch_packet-in-Ok-Some-default.ensures.value
    (outside_undone _ c.in_err-watch_packet-in-Ok-Some-default.ensures.fault)
    c.in_err-watch_packet-in-Ok-Some-default.ensures.steps)

pub returns-in-Ok-None-default-clause-value : goal.returns-in-Ok-None-default-clause-value
returns-in-Ok-None-default-clause-value g c =
    all_watched _ _ _ _ _ _ _ _ _ _ _ _ _ _ _ _ _ _ _
    (handed _ _ _ _ _ _ _ _ _ _ _ _ _ _ _ c.loop-count.invariant.way c.in-Ok-None-default.ensures.same)
    (omega (arith, c.loop-count-test.true))
    (subst (SeekOutcome _ _ _ _ _ _ _ _) c.in-Ok-None-default.field-0-0-is c.in-Ok-None-default.ensures.value)
    (λ s keeps. c.ending_result.ensures.value
    ∙ ap (λ (leaf : ℕ). ending_status leaf c.ending.result) (c.get.ensures.value ∙ c.leaf.ensures)
    ∙ ap (ending_status (watcher_card c.loop-count.watcher).leaf) (c.ending.ensures s keeps))
    c.ending_result.ensures.ending

pub returns-in-Err-clause-value : goal.returns-in-Err-clause-value
returns-in-Err-clause-value g c =
    seek_stopped _ _ _ _ _ _ _ _ _ _ _ _ _ _ _ _ c.in-Err.fault _
    (handed _ _ _ _ _ _ _ _ _ _ _ _ _ _ _ c.loop-count.invariant.way c.in-Err.ensures.same)
    (omega (arith, c.loop-count-test.true)) c.in-Err.ensures.fault c.stop.ensures.value c.stop.ensures.skipped

pub returns-in-Ok-Some-default-seek-clause-value :
    goal.returns-in-Ok-Some-default-seek-clause-value
returns-in-Ok-Some-default-seek-clause-value g c =
    most_watched _ _ _ _ _ _ _ _ _ _ _ _ _ _ _ _ _ _ _ _
    (handed _ _ _ _ _ _ _ _ _ _ _ _ _ _ _ c.loop-count.invariant.way c.in-Ok-Some-default-seek.ensures.same)
    (omega (arith, c.loop-count-test.false, c.loop-count.auto.count-end))
    (subst (SeekOutcome _ _ _ _ _ _ _ _) c.in-Ok-Some-default-seek.field-0-0-is c.in-Ok-Some-default-seek.ensures.value)
    refl

pub returns-in-Ok-None-default-seek-clause-value :
    goal.returns-in-Ok-None-default-seek-clause-value
returns-in-Ok-None-default-seek-clause-value g c =
    all_watched _ _ _ _ _ _ _ _ _ _ _ _ _ _ _ _ _ _ _
    (handed _ _ _ _ _ _ _ _ _ _ _ _ _ _ _ c.loop-count.invariant.way c.in-Ok-None-default-seek.ensures.same)
    (omega (arith, c.loop-count-test.false, c.loop-count.auto.count-end))
    (subst (SeekOutcome _ _ _ _ _ _ _ _) c.in-Ok-None-default-seek.field-0-0-is c.in-Ok-None-default-seek.ensures.value)
    (λ s keeps. c.ending_result-in-Ok-None-default-seek.ensures.value
    ∙ ap (λ (leaf : ℕ). ending_status leaf c.ending-in-Ok-None-default-seek.result)
    (c.get-in-Ok-None-default-seek.ensures.value ∙ c.leaf-in-Ok-None-default-seek.ensures)
    ∙ ap (ending_status (watcher_card c.loop-count.watcher).leaf) (c.ending-in-Ok-None-default-seek.ensures s keeps))
    c.ending_result-in-Ok-None-default-seek.ensures.ending

pub returns-in-Err-seek-clause-value : goal.returns-in-Err-seek-clause-value
returns-in-Err-seek-clause-value g c =
    seek_stopped _ _ _ _ _ _ _ _ _ _ _ _ _ _ _ _ c.in-Err-seek.fault _
    (handed _ _ _ _ _ _ _ _ _ _ _ _ _ _ _ c.loop-count.invariant.way c.in-Err-seek.ensures.same)
    (omega (arith, c.loop-count-test.false, c.loop-count.auto.count-end)) c.in-Err-seek.ensures.fault
    c.stop-in-Err-seek.ensures.value c.stop-in-Err-seek.ensures.skipped

pub returns-in_err-watch_packet-in-Ok-Some-default-clause-cause :
    goal.returns-in_err-watch_packet-in-Ok-Some-default-clause-cause
returns-in_err-watch_packet-in-Ok-Some-default-clause-cause g c =
    let p = err_from_is_err_and c.from_residual.result c.from_residual.ensures.1 in
    rw (p.1, p.2) (write_cause _ _ _ _ _ c.in_err-watch_packet-in-Ok-Some-default.field-0.0
    (c.in-Ok-Some-default.ensures.cause.calm (λ e. found_unfailed _ _ e) ∙ c.loop-count.invariant.read)
    (c.in-Ok-Some-default.ensures.written.calm (λ e. found_unfailed _ _ e) ∙ c.loop-count.invariant.written)
    c.in_err-watch_packet-in-Ok-Some-default.ensures.cause)

pub returns-in-Err-clause-cause : goal.returns-in-Err-clause-cause
returns-in-Err-clause-cause g c =
    rw (c.stop.ensures.value, sym c.loop-count.invariant.read, sym c.loop-count.invariant.written)
    (stop_cause _ _ _ _ c.in-Err.fault c.in-Err.ensures.cause c.in-Err.ensures.written)

pub returns-in-Err-seek-clause-cause : goal.returns-in-Err-seek-clause-cause
returns-in-Err-seek-clause-cause g c =
    rw (c.stop-in-Err-seek.ensures.value, sym c.loop-count.invariant.read, sym c.loop-count.invariant.written)
    (stop_cause _ _ _ _ c.in-Err-seek.fault c.in-Err-seek.ensures.cause c.in-Err-seek.ensures.written)
