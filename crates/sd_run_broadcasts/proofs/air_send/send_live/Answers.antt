use Rattle.std.proofs.Common.{false, [], refl, sym, subst, arith, ◌∙◌}
use Rattle.std.proofs.lemmas.Result.{err_from_is_err_and}
use Rattle.sd_engine.specs.Seeking.{SeekOutcome}
use Rattle.sd_run_broadcasts.proofs.AirFaults.{stop_cause}
use Rattle.sd_run_broadcasts.proofs.Airing.{all_sent, full_sent, handed, last_sent, not_begun, packet_found}
use Rattle.sd_run_broadcasts.proofs.Airing.{packet_passed, packet_stopped, seek_stopped}
use Rattle.sd_run_broadcasts.proofs.Saying.{more_noted, none_noted}
use Rattle.sd_run_broadcasts.proofs.air_send.send_live.Goals as goal

pub loop-count-init : goal.loop-count-init
loop-count-init g c = record {
  on = c.requires;
  begun = omega arith;
  within = omega arith;
  long = refl;
  way = λ plan new. not_begun plan (g.S.Source.left c.args.source.now) (g.K.Sink.held c.args.sink.now) c.args.live.now
      [] refl new;
  noted = λ plan new. none_noted plan _;
  read = refl;
  written = refl;
}

pub loop-count-preserved : goal.loop-count-preserved
loop-count-preserved g c = record {
  on = c.in_ok-send_packet-in-Ok-Some-default.ensures.on;
  begun = c.in-Ok-Some-default.ensures.begun;
  within = omega (
    arith,
    c.in-Ok-Some-default.ensures.within,
    c.in-Ok-Some-default.ensures.length,
    c.loop-count.invariant.long,
  );
  long = c.in-Ok-Some-default.ensures.length ∙ c.loop-count.invariant.long;
  way = λ plan new. packet_passed _ _ _ _ _ _ _ _ _ _ _ _ _
      (packet_found _ _ _ _ _ _ _ _ _ _ _ _ _ _ _
      (handed _ _ _ _ _ _ _ _ _ _ _ (c.loop-count.invariant.way plan new) c.in-Ok-Some-default.ensures.same)
      (subst (SeekOutcome _ _ _ _ _ _ _ _) c.in-Ok-Some-default.field-0-0-is c.in-Ok-Some-default.ensures.value))
      c.loop-count-test.true _ c.if-not-branch.false
      (c.in_ok-send_packet-in-Ok-Some-default.ensures.value plan);
  noted = λ plan new. more_noted plan _ _ _ (c.loop-count.invariant.noted plan new)
      (let way = c.loop-count.invariant.way plan new in
      c.in_ok-send_packet-in-Ok-Some-default.ensures.notes plan way.packets way.keeps
      (omega (arith, way.counted, c.loop-count-test.true)));
  read = c.in-Ok-Some-default.ensures.cause.calm (λ e. absurd (cc)) ∙ c.loop-count.invariant.read;
  written = c.in_ok-send_packet-in-Ok-Some-default.ensures.cause.calm (λ e. cc)
      ∙ (c.in-Ok-Some-default.ensures.written.calm (λ e. absurd (cc)) ∙ c.loop-count.invariant.written);
}

pub returns-in_err-send_packet-in-Ok-Some-default-clause-value :
    goal.returns-in_err-send_packet-in-Ok-Some-default-clause-value
returns-in_err-send_packet-in-Ok-Some-default-clause-value g c plan new =
    let p = err_from_is_err_and c.from_residual.result c.from_residual.ensures.1 in
    rw (p.1, p.2) (packet_stopped _ _ _ _ _ _ _ c.send_packet.new.live _ _ _ _ _
    (packet_found _ _ _ _ _ _ _ _ _ _ _ _ _ _ _
    (handed _ _ _ _ _ _ _ _ _ _ _ (c.loop-count.invariant.way plan new) c.in-Ok-Some-default.ensures.same)
    (subst (SeekOutcome _ _ _ _ _ _ _ _) c.in-Ok-Some-default.field-0-0-is c.in-Ok-Some-default.ensures.value))
    c.loop-count-test.true _ (c.in_err-send_packet-in-Ok-Some-default.ensures.value plan))

pub returns-then-not-branch-clause-value : goal.returns-then-not-branch-clause-value
returns-then-not-branch-clause-value g c plan new =
    full_sent _ _ _ _ _ _ _ _ _ _ _ _ _
    (packet_found _ _ _ _ _ _ _ _ _ _ _ _ _ _ _
    (handed _ _ _ _ _ _ _ _ _ _ _ (c.loop-count.invariant.way plan new) c.in-Ok-Some-default.ensures.same)
    (subst (SeekOutcome _ _ _ _ _ _ _ _) c.in-Ok-Some-default.field-0-0-is c.in-Ok-Some-default.ensures.value))
    c.loop-count-test.true _ _ _ c.if-not-branch.true
    (c.in_ok-send_packet-in-Ok-Some-default.ensures.value plan) (c.finish.ensures.value plan)

pub returns-in-Ok-None-default-clause-value : goal.returns-in-Ok-None-default-clause-value
returns-in-Ok-None-default-clause-value g c plan new =
    let way = handed _ _ _ _ _ _ _ _ _ _ _ (c.loop-count.invariant.way plan new) c.in-Ok-None-default.ensures.same in
    all_sent _ _ _ _ _ _ _ _ _ _ _ _ _ _ way _ _ (omega (arith, c.loop-count-test.true))
    (subst (SeekOutcome _ _ _ _ _ _ _ _) c.in-Ok-None-default.field-0-0-is c.in-Ok-None-default.ensures.value)
    (c.finish-in-Ok-None-default.ensures.value plan way.packets way.keeps)

pub returns-in-Err-clause-value : goal.returns-in-Err-clause-value
returns-in-Err-clause-value g c plan new =
    let way = handed _ _ _ _ _ _ _ _ _ _ _ (c.loop-count.invariant.way plan new) c.in-Err.ensures.same in
    seek_stopped _ _ _ _ _ _ _ _ [] _ false _ 0 _ way c.in-Err.fault _ _ (omega (arith, c.loop-count-test.true))
    c.in-Err.ensures.fault (c.stop.ensures.value plan way.packets way.keeps)

pub returns-in-Err-clause-cause : goal.returns-in-Err-clause-cause
returns-in-Err-clause-cause g c =
    rw (sym c.loop-count.invariant.read, sym c.loop-count.invariant.written)
    (stop_cause _ _ _ _ _ c.in-Err.fault _ c.in-Err.ensures.cause c.in-Err.ensures.written c.stop.ensures.cause
    c.stop.ensures.port)

pub returns-in-Ok-clause-value : goal.returns-in-Ok-clause-value
returns-in-Ok-clause-value g c plan new =
    let way = handed _ _ _ _ _ _ _ _ _ _ _ (c.loop-count.invariant.way plan new) c.in-Ok.ensures.same in
    last_sent _ _ _ _ _ _ _ _ _ _ _ _ _ _ way c.in-Ok.found _ _ _ c.is_some.ensures
    (omega (arith, c.loop-count-test.false, c.loop-count.auto.count-end)) c.in-Ok.ensures.value
    (c.finish-in-Ok.ensures.value plan way.packets way.keeps)

pub returns-in-Err-seek-clause-value : goal.returns-in-Err-seek-clause-value
returns-in-Err-seek-clause-value g c plan new =
    let way = handed _ _ _ _ _ _ _ _ _ _ _ (c.loop-count.invariant.way plan new) c.in-Err-seek.ensures.same in
    seek_stopped _ _ _ _ _ _ _ _ [] _ false _ 0 _ way c.in-Err-seek.fault _ _
    (omega (arith, c.loop-count-test.false, c.loop-count.auto.count-end))
    c.in-Err-seek.ensures.fault (c.stop-in-Err-seek.ensures.value plan way.packets way.keeps)

pub returns-in-Err-seek-clause-cause : goal.returns-in-Err-seek-clause-cause
returns-in-Err-seek-clause-cause g c =
    rw (sym c.loop-count.invariant.read, sym c.loop-count.invariant.written)
    (stop_cause _ _ _ _ _ c.in-Err-seek.fault _ c.in-Err-seek.ensures.cause c.in-Err-seek.ensures.written
    c.stop-in-Err-seek.ensures.cause c.stop-in-Err-seek.ensures.port)

pub returns-in_err-send_packet-in-Ok-Some-default-clause-notes :
    goal.returns-in_err-send_packet-in-Ok-Some-default-clause-notes
returns-in_err-send_packet-in-Ok-Some-default-clause-notes g c plan new =
    more_noted plan _ _ _ (c.loop-count.invariant.noted plan new)
    (let way = c.loop-count.invariant.way plan new in
    c.in_err-send_packet-in-Ok-Some-default.ensures.notes plan way.packets way.keeps
    (omega (arith, way.counted, c.loop-count-test.true)))

pub returns-then-not-branch-clause-notes : goal.returns-then-not-branch-clause-notes
returns-then-not-branch-clause-notes g c plan new =
    more_noted plan _ _ _ (c.loop-count.invariant.noted plan new)
    (let way = c.loop-count.invariant.way plan new in
    c.in_ok-send_packet-in-Ok-Some-default.ensures.notes plan way.packets way.keeps
    (omega (arith, way.counted, c.loop-count-test.true)))

pub returns-in-Ok-None-default-clause-notes : goal.returns-in-Ok-None-default-clause-notes
returns-in-Ok-None-default-clause-notes g c plan new = c.loop-count.invariant.noted plan new

pub returns-in-Err-clause-notes : goal.returns-in-Err-clause-notes
returns-in-Err-clause-notes g c plan new = c.loop-count.invariant.noted plan new

pub returns-in-Ok-clause-notes : goal.returns-in-Ok-clause-notes
returns-in-Ok-clause-notes g c plan new = c.loop-count.invariant.noted plan new

pub returns-in-Err-seek-clause-notes : goal.returns-in-Err-seek-clause-notes
returns-in-Err-seek-clause-notes g c plan new = c.loop-count.invariant.noted plan new
