use Rattle.std.proofs.Common.{◌≡◌, ℕ, ◌+◌, ◌-◌, ◌*◌, ◌^◌, ◌<◌, ◌≤◌, ◌++◌, List, All, Some, length, sum_by}
use Rattle.std.specs.List.Sorted.{IsStrictlyIncreasing}
use Rattle.sd_tree_keys.specs.declared.leaf.TheConstants.{MOST_REVOKED}
use Rattle.sd_cover_tracing.specs.declared.found.Found.{Found}
use Rattle.sd_cover_tracing.specs.Trace.{IsTrace, AreAnyRounds, not_among}
use Rattle.sd_cover_tracing.proofs.tracing.trace_all.Given as goal

abbrev pub invariant-loop-found : goal.invariant-loop-found
invariant-loop-found g l = record {
  height : g.B.TestBox.height l.target ≡ l.fn.h;
  coalition : g.B.TestBox.coalition l.target ≡ g.B.TestBox.coalition l.fn.target;
  leaves : All (λ u. u < 2 ^ l.fn.h) l.gone.items;
  ascending : IsStrictlyIncreasing l.gone.items;
  few : length l.gone.items ≤ MOST_REVOKED;
  counted : length l.gone.items ≡ length l.fn.revoked + length l.found.items;
  asked : g.B.TestBox.asked l.target ≡ g.B.TestBox.asked l.fn.target + sum_by (λ f. f.trials) l.found.items;
  each : length l.found.items ≤ sum_by (λ f. f.trials) l.found.items;
  room : sum_by (λ f. f.trials) l.found.items ≤ 64 * length l.found.items;
  rounds : (later : List Found) → AreAnyRounds l.fn.h l.gone.items later → AreAnyRounds l.fn.h l.fn.revoked
      (l.found.items ++ later);
  traced : (coalition : List ℕ) → g.B.TestBox.coalition l.fn.target ≡ Some coalition →
      (later : List Found) → IsTrace l.fn.h coalition l.gone.items later →
      IsTrace l.fn.h coalition l.fn.revoked (l.found.items ++ later);
  left : (coalition : List ℕ) → g.B.TestBox.coalition l.fn.target ≡ Some coalition →
      length l.found.items + length (not_among l.fn.h l.gone.items coalition)
      ≡ length (not_among l.fn.h l.fn.revoked coalition);
}

abbrev pub decreases-loop-found : goal.decreases-loop-found
decreases-loop-found g l = MOST_REVOKED - length l.gone.items
