-- Inner: the path from a node up to the root.
use Rattle.std.specs.Prelude.{ℕ, zero, suc, ◌+◌, ◌/◌, ◌^◌, ◌==◌, if◌then◌else◌}

-- how many of the first k nodes of the path from a node upward are v
abbrev pub path_visit_count : ℕ → ℕ → ℕ → ℕ
path_visit_count node zero v = 0
path_visit_count node (suc k) v = path_visit_count node k v + (if node / 2 ^ k == v then 1 else 0)
