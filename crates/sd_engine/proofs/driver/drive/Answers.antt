use Rattle.std.proofs.Common.{◌≡◌, ◌∙◌, refl, ap, subst, arith}
use Rattle.std.specs.Prelude.{Err}
use Rattle.sd_engine.specs.Feeding.{FeedOutcome}
use Rattle.sd_engine.specs.Driving.{most_packets}
use Rattle.sd_engine.proofs.Driving.{not_begun, one_more, recounted, not_fed, not_ended, packet_stopped, all_closed}
use Rattle.sd_engine.proofs.Driving.{handed_on, packet_too_many, still_untold}
use Rattle.sd_engine.proofs.driver.drive.Goals as goal

pub loop-count-init : goal.loop-count-init
loop-count-init g c = record {
  live = c.requires.live;
  begun = omega arith;
  within = omega arith;
  long = refl;
  way = not_begun _ _ _ refl;
  read = refl;
  written = refl;
}

pub loop-count-preserved : goal.loop-count-preserved
loop-count-preserved g c = record {
  live = c.in_default.ensures.ok.0;
  begun = c.in-Ok-Some-default.ensures.begun;
  within = omega (
    arith,
    c.in-Ok-Some-default.ensures.within,
    c.in-Ok-Some-default.ensures.length,
    c.loop-count.invariant.long,
  );
  long = c.in-Ok-Some-default.ensures.length ∙ c.loop-count.invariant.long;
  way = one_more _ _ _ _ _ _ _ _ _ _ _ _ _ _
      (handed_on _ _ _ _ _ _ _ _ _ c.loop-count.invariant.way c.in-Ok-Some-default.ensures.same)
      (subst (FeedOutcome _ _ _ _) c.in-Ok-Some-default.field-0-0-is c.in-Ok-Some-default.ensures.value)
      c.in_default.ensures.value;
  read = c.in-Ok-Some-default.ensures.cause.calm (λ e. absurd (cc)) ∙ c.loop-count.invariant.read;
  written = c.offer.ensures.cause.calm (λ e. c.in_default.not-Err _ e)
      ∙ (c.in-Ok-Some-default.ensures.written.calm (λ e. absurd (cc)) ∙ c.loop-count.invariant.written);
}

pub returns-in-Ok-None-default-clause-value : goal.returns-in-Ok-None-default-clause-value
returns-in-Ok-None-default-clause-value g c =
    all_closed _ _ _ _ _ _ _ _ _ _ _ _ _ _ _ _
    (handed_on _ _ _ _ _ _ _ _ _ c.loop-count.invariant.way c.in-Ok-None-default.ensures.same)
    (subst (FeedOutcome _ _ _ _) c.in-Ok-None-default.field-0-0-is c.in-Ok-None-default.ensures.value)
    c.close.ensures.value (omega (arith, c.loop-count-test.true))

pub returns-in-Err-offer-clause-value : goal.returns-in-Err-offer-clause-value
returns-in-Err-offer-clause-value g c =
    rw c.stopped.ensures (
    packet_stopped _ _ _ _ _ _ _ _ _ _ _ _ _ _ _ _ c.offer.result _
    (handed_on _ _ _ _ _ _ _ _ _ c.loop-count.invariant.way c.in-Ok-Some-default.ensures.same)
    (subst (FeedOutcome _ _ _ _) c.in-Ok-Some-default.field-0-0-is c.in-Ok-Some-default.ensures.value) c.in-Err-offer.is
    c.offer.ensures.fault
    c.offer.ensures.prefix (omega (arith, c.loop-count-test.true)))

pub returns-in-Err-clause-value : goal.returns-in-Err-clause-value
returns-in-Err-clause-value g c =
    rw c.broken.ensures (not_fed _ _ _ _ _ _ _ _ _ _ _ _
    (handed_on _ _ _ _ _ _ _ _ _ c.loop-count.invariant.way c.in-Err.ensures.same) c.in-Err.ensures.fault
    (λ e. still_untold _ _ c.in-Err.ensures.same (c.in-Err.ensures.told (ap Err e)))
    (omega (arith, c.loop-count-test.true)))

pub returns-in-Ok-None-default-next-clause-value :
    goal.returns-in-Ok-None-default-next-clause-value
returns-in-Ok-None-default-next-clause-value g c =
    let most : c.loop-count.count ≡ most_packets = omega (arith, c.loop-count-test.false, c.loop-count.auto.count-end)
    in
    all_closed _ _ _ _ _ _ _ _ _ _ _ _ _ _ _ _ (recounted _ _ _ _ _ _
    (handed_on _ _ _ _ _ _ _ _ _ c.loop-count.invariant.way c.in-Ok-None-default-next.ensures.same) most)
    (subst (FeedOutcome _ _ _ _) c.in-Ok-None-default-next.field-0-0-is c.in-Ok-None-default-next.ensures.value)
    c.close-in-Ok-None-default-next.ensures.value (omega arith)

pub returns-in-Ok-Some-default-next-clause-value :
    goal.returns-in-Ok-Some-default-next-clause-value
returns-in-Ok-Some-default-next-clause-value g c =
    let most : c.loop-count.count ≡ most_packets = omega (arith, c.loop-count-test.false, c.loop-count.auto.count-end)
    in
    packet_too_many _ _ _ _ _ _ _ _ _ _ (recounted _ _ _ _ _ _
    (handed_on _ _ _ _ _ _ _ _ _ c.loop-count.invariant.way c.in-Ok-Some-default-next.ensures.same) most)
    (subst (FeedOutcome _ _ _ _) c.in-Ok-Some-default-next.field-0-0-is c.in-Ok-Some-default-next.ensures.value)

pub returns-in-Err-next-clause-value : goal.returns-in-Err-next-clause-value
returns-in-Err-next-clause-value g c =
    let most : c.loop-count.count ≡ most_packets = omega (arith, c.loop-count-test.false, c.loop-count.auto.count-end)
    in
    rw c.overrun.ensures (not_ended _ _ _ _ _ _ _ _ _ _ _ (recounted _ _ _ _ _ _
    (handed_on _ _ _ _ _ _ _ _ _ c.loop-count.invariant.way c.in-Err-next.ensures.same) most)
    c.in-Err-next.ensures.fault
    (λ e. still_untold _ _ c.in-Err-next.ensures.same (c.in-Err-next.ensures.told (ap Err e))))

pub returns-in-Ok-None-default-clause-written : goal.returns-in-Ok-None-default-clause-written
returns-in-Ok-None-default-clause-written g c =
    rw (← (c.in-Ok-None-default.ensures.written.calm (λ e. absurd (cc)) ∙ c.loop-count.invariant.written))
    c.close.ensures.written

pub returns-in-Ok-None-default-next-clause-written :
    goal.returns-in-Ok-None-default-next-clause-written
returns-in-Ok-None-default-next-clause-written g c =
    rw (← (c.in-Ok-None-default-next.ensures.written.calm (λ e. absurd (cc)) ∙ c.loop-count.invariant.written))
    c.close-in-Ok-None-default-next.ensures.written
