-- Public meaning: what a receiver is given.
use Rattle.std.specs.Prelude.{◌≡◌, ℕ, ◌≤◌, ◌+◌, ◌-◌, List, ◌∷◌, map}
use Rattle.std.specs.List.{range_with_len, flat_map}
use Rattle.sd_tree_keys.specs.Node.{IsAbove, IsProperlyAbove}
use Rattle.sd_tree_keys.specs.Paths.{leaf_node, path_node, sibling_of}
use Rattle.sd_tree_keys.specs.declared.name.Name.{Name}
use Rattle.sd_tree_keys.specs.declared.name.Name.TheVariants.{Whole, Pair}

-- the pairs of leaf u's ancestor at depth a: with the sibling of each path node below it, from the highest down [Naor,
-- Naor, Lotspiech 2001, 3.2]
unfoldable pub pair_names_under : ℕ → ℕ → ℕ → List Name
pair_names_under d u a = map (λ b. Pair (path_node d u a) (sibling_of (path_node d u b)))
    (range_with_len (a + 1) (d - a))

-- what leaf u is given secrets of: the whole set, and the pairs of each of its ancestors, from the root down [Naor,
-- Naor, Lotspiech 2001, 3.2]
unfoldable pub names_of_receiver : ℕ → ℕ → List Name
names_of_receiver d u = Whole ∷ flat_map (pair_names_under d u) (range_with_len 0 d)

-- the pair is of an ancestor i of a path node and of that node's sibling w [Naor, Naor, Lotspiech 2001, 3.2]
pub record IsGivenPair (d u i w : ℕ) : Type 0 where
  pub node : ℕ
  pub inner : 1 ≤ i
  pub ancestor : IsProperlyAbove i node
  pub path : IsAbove node (leaf_node d u)
  pub hanging : w ≡ sibling_of node
