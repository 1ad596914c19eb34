use Rattle.std.proofs.Common.{◌-◌, ◌≡◌, ℕ, ◌+◌, ◌<◌, ◌≤◌, length, List, Some}
use Rattle.sd_cover_tracing.specs.Search.{IsLastOpen}
use Rattle.sd_cover_tracing.proofs.Told.{IsToldSearch}
use Rattle.sd_cover_tracing.proofs.Searches.{IsSearched}
use Rattle.sd_cover_tracing.proofs.search.last_open.Given as goal

abbrev pub invariant-loop-lo : goal.invariant-loop-lo
invariant-loop-lo g l =
    (l.lo < l.hi) × (l.hi ≤ l.count) × (l.count ≡ length l.fn.sets) × IsSearched l.turns (l.hi - l.lo) l.count
    × (g.B.TestBox.asked l.target ≡ g.B.TestBox.asked l.fn.target + l.turns)
    × (g.B.TestBox.height l.target ≡ g.B.TestBox.height l.fn.target)
    × ((leaves : List ℕ) (z : ℕ) → g.B.TestBox.coalition l.fn.target ≡ Some leaves →
    IsLastOpen (g.B.TestBox.height l.fn.target) leaves l.fn.sets z → IsToldSearch l.lo l.hi l.turns l.count z)
    × (g.B.TestBox.coalition l.target ≡ g.B.TestBox.coalition l.fn.target)

abbrev pub decreases-loop-lo : goal.decreases-loop-lo
decreases-loop-lo g l = l.hi - l.lo
