use Rattle.std.proofs.Common.{◌≤◌, ◌/◌, ◌^◌, arith, rules}
use Rattle.std.proofs.Math.Pow.{pow_mono}
use Rattle.sd_cover_tracing.proofs.Paths.{path_low, path_high, met_at_most, raised_next}
use Rattle.sd_cover_tracing.proofs.path.raise_path.Goals as goal

pub raise-requires-clause-low : goal.raise-requires-clause-low
raise-requires-clause-low g c = (path_low c.args.h c.args.node c.loop-level.level c.requires.low c.requires.high
    (search rules))

pub raise-requires-clause-fits : goal.raise-requires-clause-fits
raise-requires-clause-fits g c =
    let within : c.loop-level.level ≤ c.args.h = search rules in
    let tall : c.args.h ≤ 20 = search rules in
    let node = c.args.node / 2 ^ c.loop-level.level in
    let most = pow_mono {i = c.args.h} {j = 20} tall in
    let old = c.requires.fits node (path_low c.args.h c.args.node c.loop-level.level c.requires.low c.requires.high
    within) (path_high c.args.h c.args.node c.loop-level.level c.requires.low c.requires.high within) in
    let few = met_at_most c.args.node c.loop-level.level node in
    let is = c.loop-level.invariant.value node in
    (omega arith)

pub loop-level-preserved : goal.loop-level-preserved
loop-level-preserved g c = record {
  value = λ v. rw c.raise.ensures.value (raised_next c.loop-level.counts.counts c.args.node c.loop-level.level _ v
      (c.loop-level.invariant.value v));
  room = (
      let before = c.loop-level.invariant.room in
      let after = c.raise.ensures.fits in
      search rules);
  steps = search rules;
}
