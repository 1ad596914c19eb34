-- Public meaning: the nodes that hang off the path to a leaf [Naor, Naor, Lotspiech 2001, 3.2].
use Rattle.std.specs.Prelude.{◌≡◌, ℕ, ◌+◌, ◌^◌, ◌<◌, ◌≤◌}
use Rattle.sd_tree_keys.specs.Node.{depth, IsAbove}
use Rattle.sd_tree_keys.specs.Paths.{path_node, sibling_of}

-- node w is j or above it, and the sibling of a node on the path to leaf u, the first on the way to j that is off the
-- path [Naor, Naor, Lotspiech 2001, 3.2]
pub record IsHanging (d u j w : ℕ) : Type 0 where
  pub node : 1 ≤ w
  pub above : IsAbove w j
  pub sibling : w ≡ sibling_of (path_node d u (depth w))
  pub levels : (1 ≤ depth w) × (depth w ≤ depth j) × (depth j ≤ d)
  pub below : (i : ℕ) → 1 ≤ i → IsAbove i j → IsAbove i (2 ^ d + u) → depth i < depth w
