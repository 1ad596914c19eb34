-- How many pairs a leaf is given in layers.
use Rattle.std.proofs.Common.{ℕ, ◌+◌, ◌-◌, ◌%◌, ◌<◌, ◌≤◌, ◌≡◌, ◌==◌, Bool, true, false, cond, min}
use Rattle.std.proofs.Common.{[], ◌∷◌, refl, arith}
use Rattle.std.specs.List.{range_with_len}
use Rattle.std.proofs.Math.Nat.{min-le_right, le-min}
use Rattle.std.proofs.lemmas.List.Sums.{sum_by-cons, sum_by-append}
use Rattle.sd_base.proofs.Ranges.{range_more}
use Rattle.sd_lsd.specs.Layers.{layer_end}
use Rattle.sd_lsd.specs.LayerNames.{pairs_under, pairs_above}

-- an ancestor has at most a pair for each depth below it
within_by : (t : Bool) (a d e : ℕ) → cond t (d - a) (min e d - a) ≤ d - a
within_by true a d e = omega arith
within_by false a d e = omega (arith, min-le_right e d)

pub under_within : (d w a : ℕ) → pairs_under d w a ≤ d - a
unfolding pairs_under
under_within d w a = within_by (a % w == 0) a d (layer_end w a)

-- what is below two numbers is at most the smaller
pub below_both : (a e d : ℕ) → a < e → a < d → a ≤ min e d
below_both a e d first second = le-min (omega arith) (omega arith)

-- above the root there is none
pub above_none : (d w : ℕ) → pairs_above d w 0 ≡ 0
unfolding pairs_above
above_none d w = refl

-- the pairs of one ancestor more
pub above_more : (d w k : ℕ) → pairs_above d w k + pairs_under d w k ≡ pairs_above d w (k + 1)
unfolding pairs_above
above_more d w k =
    let e : 0 + k ≡ k = omega arith in
    let more = rw e at (range_more 0 k) in
    let sum = sum_by-append (pairs_under d w) (range_with_len 0 k) (k ∷ []) in
    let last = sum_by-cons (pairs_under d w) k [] in
    rw more (omega (arith, sum, last))
