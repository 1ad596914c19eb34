use Rattle.std.proofs.Common.{◌≡◌, ◌∙◌, ◌+◌, None, ap, arith}
use Rattle.std.proofs.lemmas.List.{replicate_more}
use Rattle.sd_run_streams.proofs.assemblies.no_assemblers.Goals as goal

pub returns : goal.returns
returns c = let all : c.loop-pid._pid ≡ 8192 = omega arith in rw all at c.loop-pid.invariant.places

pub loop-pid-init : goal.loop-pid-init
loop-pid-init c = record {
  places = c.in-Ok.ensures.items;
  count = c.in-Ok.ensures.len;
  room = c.in-Ok.ensures.capacity;
}

-- there is room for one more place
pub unwrap-requires : goal.unwrap-requires
unwrap-requires c = c.push.ensures.succeeds
    (omega (arith, c.loop-pid.invariant.count, c.loop-pid.invariant.room, c.loop-pid-test.true))

pub loop-pid-preserved : goal.loop-pid-preserved
loop-pid-preserved c =
    let items = rw c.unwrap.ensures at c.push.ensures.items in
    let len = rw c.unwrap.ensures at c.push.ensures.len in
    record {
      places = items ∙ rw c.loop-pid.invariant.places (replicate_more c.loop-pid._pid None);
      count = len ∙ ap (λ n. n + 1) c.loop-pid.invariant.count;
      room = omega (arith, c.loop-pid.invariant.room, c.push.ensures.capacity);
    }
