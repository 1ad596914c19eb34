use Rattle.std.proofs.Common.{refl, ◌∙◌, inl, arith}
use Rattle.sd_engine.proofs.Feeding.{count_waits, end_waits, lost_on, more_read, nothing_read}
use Rattle.sd_engine.proofs.feed.read_until.Goals as goal

pub loop-filled-init : goal.loop-filled-init
loop-filled-init g c = record {
  within = omega (arith, c.requires.few, c.requires.room);
  long = refl;
  read = nothing_read _ _ _ refl;
  calm = refl;
}

pub loop-filled-preserved : goal.loop-filled-preserved
loop-filled-preserved g c = record {
  within = c.in-Ok.ensures.within;
  long = c.in-Ok.ensures.length ∙ c.loop-filled.invariant.long;
  read = more_read _ _ _ _ _ _ c.loop-filled.invariant.read c.in-Ok.ensures.value;
  calm = c.in-Ok.ensures.cause.calm ∙ c.loop-filled.invariant.calm;
}

pub returns-after-loop-filled-clause-value : goal.returns-after-loop-filled-clause-value
returns-after-loop-filled-clause-value g c =
    let count = count_waits c.loop-filled.piece 0 c.loop-filled.filled c.loop-filled.invariant.within in
    record {
      read = c.loop-filled.invariant.read;
      enough = inl (omega (arith, c.loop-filled-test.false, count));
    }

pub returns-in-Ok-eq0-clause-value : goal.returns-in-Ok-eq0-clause-value
returns-in-Ok-eq0-clause-value g c =
    end_waits _ _ _ _ _ _ _ _ _ c.in-Ok-eq0.field-0-test c.loop-filled.invariant.read c.in-Ok-eq0.ensures.value
    (c.in-Ok-eq0.ensures.end c.in-Ok-eq0.field-0-test)

pub returns-in-Err-clause-fault : goal.returns-in-Err-clause-fault
returns-in-Err-clause-fault g c = lost_on _ _ _ _ _ c.loop-filled.invariant.read c.in-Err.ensures.fault
