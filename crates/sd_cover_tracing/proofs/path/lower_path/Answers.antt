use Rattle.std.proofs.Common.{◌≡◌, ◌≤◌, ◌<◌, ◌+◌, ◌/◌, ◌^◌, ℕ, suc, arith, rules}
use Rattle.sd_cover_tracing.specs.Path.{path_visit_count}
use Rattle.sd_cover_tracing.proofs.Paths.{path_low, path_high, met_once, lowered_next}
use Rattle.sd_cover_tracing.proofs.path.lower_path.Goals as goal

-- what is taken away so far leaves one at the next node
one_left : (m old node k n : ℕ) → m + path_visit_count node k (node / 2 ^ k) ≡ old →
    path_visit_count node n (node / 2 ^ k) ≤ old →
    suc k ≤ n → 0 < m
one_left m old node k n is some h = let once = met_once node k n h in omega arith

pub lower-requires-clause-low : goal.lower-requires-clause-low
lower-requires-clause-low g c = (path_low c.args.h c.args.node c.loop-level.level c.requires.low c.requires.high
    (search rules))

pub lower-requires-clause-some : goal.lower-requires-clause-some
lower-requires-clause-some g c =
    let within : suc c.loop-level.level ≤ c.args.h + 1 = search rules in
    let node = c.args.node / 2 ^ c.loop-level.level in
    (one_left _ _ c.args.node c.loop-level.level (c.args.h + 1) (c.loop-level.invariant.value node)
    (c.requires.some node (path_low c.args.h c.args.node c.loop-level.level c.requires.low c.requires.high
    (omega arith)) (path_high c.args.h c.args.node c.loop-level.level c.requires.low c.requires.high (omega arith)))
    within)

pub loop-level-preserved : goal.loop-level-preserved
loop-level-preserved g c =
    let within : suc c.loop-level.level ≤ c.args.h + 1 = search rules in
    let node = c.args.node / 2 ^ c.loop-level.level in
    let some = one_left _ _ c.args.node c.loop-level.level (c.args.h + 1) (c.loop-level.invariant.value node)
    (c.requires.some node (path_low c.args.h c.args.node c.loop-level.level c.requires.low c.requires.high
    (omega arith)) (path_high c.args.h c.args.node c.loop-level.level c.requires.low c.requires.high (omega arith)))
    within in
    record {
      value = λ v. rw c.lower.ensures.value (lowered_next c.loop-level.counts.counts c.args.node c.loop-level.level _ v
          some (c.loop-level.invariant.value v));
      room = search rules;
      steps = search rules;
    }
