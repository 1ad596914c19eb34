use Rattle.std.proofs.Common.{◌≡◌, ◌≤◌, ◌*◌}
use Rattle.sd_lsd.specs.LayerNames.{pairs_above}
use Rattle.sd_lsd.proofs.counts.pairs_above.Given as goal

abbrev pub invariant-loop-above : goal.invariant-loop-above
invariant-loop-above l = record {
  value : l.pairs ≡ pairs_above l.h l.w l.above;
  within : l.pairs ≤ 20 * l.above;
}
