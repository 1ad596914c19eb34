-- Public meaning: the index of the revoked leaves: a count for each node of the tree.
use Rattle.std.specs.Prelude.{◌≡◌, ℕ, ◌+◌, ◌^◌, ◌<◌, ◌≤◌, ◌==◌, Bool, List, filter, count_by, All}
use Rattle.std.specs.List.Sorted.{IsStrictlyIncreasing}
use Rattle.std.specs.Ordering.{nat_cmp}
use Rattle.std.specs.FinMap.{FinMap}
use Rattle.sd_tree_keys.specs.Leaves.{is_below, leaves}
use Rattle.sd_cover_tracing.specs.Tally.{tally_at}

-- an index as contracts see it: the tree's height, the revoked leaves, ascending, and how many more may be revoked
-- before memory is taken
pub record IndexValue : Type 0 where
  pub height : ℕ
  pub revoked : List ℕ
  pub spare : ℕ

-- how many of these leaves are at or below the node [Naor, Naor, Lotspiech 2001, 3.2]
unfoldable pub count_below : ℕ → List ℕ → ℕ → ℕ
count_below d revoked v = count_by (is_below d v) revoked

-- leaf u is revoked where its node counts 1
unfoldable pub counts_one : ℕ → FinMap nat_cmp ℕ → ℕ → Bool
counts_one d counts u = tally_at counts (2 ^ d + u) == 1

-- the revoked leaves, ascending
unfoldable pub indexed_leaves : ℕ → FinMap nat_cmp ℕ → List ℕ
indexed_leaves d counts = filter (counts_one d counts) (leaves d)

-- each node of the tree counts the revoked leaves at or below it
pub record IsIndex (d : ℕ) (counts : FinMap nat_cmp ℕ) : Type 0 where
  pub count : (v : ℕ) → 1 ≤ v → v < 2 ^ (d + 1) → tally_at counts v ≡ count_below d (indexed_leaves d counts) v

-- they are leaves of a tree of height d, and ascend
pub record AreRevocable (d : ℕ) (revoked : List ℕ) : Type 0 where
  pub leaves : All (λ u. u < 2 ^ d) revoked
  pub ascending : IsStrictlyIncreasing revoked
