-- How often a set can be cut.
use Rattle.std.proofs.Common.{ℕ, ◌-◌, ◌/◌, ◌≤◌, ◌==◌, Bool, true, false, arith}
use Rattle.sd_tree_keys.specs.Node.{depth}
use Rattle.sd_tree_keys.specs.declared.set.SetName.TheVariants.{Diff}
use Rattle.sd_cover_tracing.specs.Halves.{cuts_left}
use Rattle.std.specs.Prelude.{if◌then◌else◌}

-- by either test
within : (d a : ℕ) (b : Bool) → (if b then d - a - 1 else d - a) ≤ d - a
within d a true = omega arith
within d a false = omega arith

-- a set is cut at most as often as its upper node is above the leaves
pub cuts_within : (d i j : ℕ) → cuts_left d (Diff i j) ≤ d - depth i
unfolding cuts_left
cuts_within d i j = within d (depth i) (j / 2 == i)
