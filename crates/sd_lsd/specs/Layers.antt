-- Public meaning: the layers of the tree: a layer ends at each depth that is a multiple of their width
-- [Halevy, Shamir 2002, 3].
use Rattle.std.specs.Prelude.{ℕ, ◌+◌, ◌-◌, ◌*◌, ◌/◌, ◌%◌, ◌^◌, Bool, true, ◌==◌, ◌||◌, nat_le, List, [], ◌∷◌}
use Rattle.std.specs.Prelude.{if◌then◌else◌}
use Rattle.sd_tree_keys.specs.Node.{depth}
use Rattle.sd_tree_keys.specs.declared.set.SetName.{SetName}
use Rattle.sd_tree_keys.specs.declared.set.SetName.TheVariants.{Whole, Diff}

-- the first depth greater than a at which a layer ends: the next multiple of the width [Halevy, Shamir 2002, 3]
unfoldable pub layer_end : ℕ → ℕ → ℕ
layer_end w a = (a / w + 1) * w

-- a set that has a key of its own: its upper node stands where a layer ends, or its lower node no deeper than the end
-- of the upper one's layer [Halevy, Shamir 2002, 3]
unfoldable pub is_useful : ℕ → SetName → Bool
is_useful w Whole = true
is_useful w (Diff i j) = (depth i % w == 0) || nat_le (depth j) (layer_end w (depth i))

-- the node on the way from i to j at which i's layer ends
unfoldable pub layer_node : ℕ → ℕ → ℕ → ℕ
layer_node w i j = j / 2 ^ (depth j - layer_end w (depth i))

-- a set as useful ones: itself, or its parts above and below the end of the upper node's layer
-- [Halevy, Shamir 2002, 3]
unfoldable pub split_of : ℕ → SetName → List SetName
split_of w Whole = Whole ∷ []
split_of w (Diff i j) =
    if is_useful w (Diff i j) then Diff i j ∷ [] else Diff i (layer_node w i j) ∷ Diff (layer_node w i j) j ∷ []
