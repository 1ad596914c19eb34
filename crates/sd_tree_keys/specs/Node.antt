-- Public meaning: the full binary tree: the root is node 1, the children of v are 2v and 2v + 1.
use Rattle.std.specs.Prelude.{◌≡◌, ◌≢◌, ℕ, ◌+◌, ◌/◌, ◌^◌, nat_le, count_by}
use Rattle.std.specs.List.{range_with_len}

-- how far below the root a node of 32 bits stands: how many of 2, 4, 8, .. its number reaches
unfoldable pub depth : ℕ → ℕ
depth v = count_by (λ k. nat_le (2 ^ (k + 1)) v) (range_with_len 0 32)

-- i is j or an ancestor of j: some number of halvings leads from j to i [Naor, Naor, Lotspiech 2001, 3.2]
abbrev pub IsAbove : ℕ → ℕ → Type 0
IsAbove i j = (k : ℕ) × (j / 2 ^ k ≡ i)

-- i is an ancestor of j
abbrev pub IsProperlyAbove : ℕ → ℕ → Type 0
IsProperlyAbove i j = IsAbove i j × (i ≢ j)
