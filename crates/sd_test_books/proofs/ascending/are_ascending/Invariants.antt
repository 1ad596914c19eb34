use Rattle.std.proofs.Common.{ℕ, ◌+◌, ◌<◌, slice_index}
use Rattle.sd_test_books.proofs.ascending.are_ascending.Given as goal

-- the leaves before place k ascend
abbrev pub invariant-loop-k : goal.invariant-loop-k
invariant-loop-k l = (j : ℕ) → j + 1 < l.k → slice_index l.leaves j < slice_index l.leaves (j + 1)
