-- Public meaning: the path of a leaf, from the root to its own node, and the nodes beside it.
use Rattle.std.specs.Prelude.{ℕ, ◌+◌, ◌-◌, ◌/◌, ◌%◌, ◌^◌, ◌==◌, if◌then◌else◌}

-- the node of leaf u in a tree of height d [Naor, Naor, Lotspiech 2001, 3.2]
abbrev pub leaf_node : ℕ → ℕ → ℕ
leaf_node d u = 2 ^ d + u

-- the node at depth k on the path from the root to leaf u
abbrev pub path_node : ℕ → ℕ → ℕ → ℕ
path_node d u k = leaf_node d u / 2 ^ (d - k)

-- the other child of the node's parent
abbrev pub sibling_of : ℕ → ℕ
sibling_of v = if v % 2 == 0 then v + 1 else v - 1
