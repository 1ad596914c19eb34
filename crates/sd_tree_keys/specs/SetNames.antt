-- Public meaning: the names of the subset differences of a tree, and their order [this project,
-- docs/FORMATS.md, Cover].
use Rattle.std.specs.Prelude.{◌≡◌, ℕ, ◌+◌, ◌^◌, ◌<◌, ◌≤◌, List, AllPairs}
use Rattle.std.specs.Ordering.{nat_cmp, ordering_then}
use Rattle.std.specs.declared.cmp.Ordering.{Ordering}
use Rattle.std.specs.declared.cmp.Ordering.TheVariants.{Less, Equal, Greater}
use Rattle.sd_tree_keys.specs.declared.set.SetName.{SetName}
use Rattle.sd_tree_keys.specs.declared.set.SetName.TheVariants.{Whole, Diff}
use Rattle.sd_tree_keys.specs.Node.{IsProperlyAbove}

-- i is an inner node of a tree of height d, and j a node properly below it
pub record IsPair (d i j : ℕ) : Type 0 where
  pub inner : (1 ≤ i) × (i < 2 ^ d)
  pub node : j < 2 ^ (d + 1)
  pub above : IsProperlyAbove i j

-- the name is of a set of a tree of height d
abbrev pub IsOfHeight : ℕ → SetName → Type 0
IsOfHeight d Whole = Unit {0}
IsOfHeight d (Diff i j) = IsPair d i j

-- the order of names: the whole set first, and then by i, then by j [this project, docs/FORMATS.md, Cover]
abbrev pub set_cmp : SetName → SetName → Ordering
set_cmp Whole Whole = Equal
set_cmp Whole (Diff i j) = Less
set_cmp (Diff i j) Whole = Greater
set_cmp (Diff i j) (Diff k l) = ordering_then (nat_cmp i k) (nat_cmp j l)

-- each name stands after all that are before it
abbrev pub AreAscending : List SetName → Type 0
AreAscending names = AllPairs (λ a b. set_cmp a b ≡ Less) names
