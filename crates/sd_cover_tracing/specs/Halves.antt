-- Public meaning: the two halves of a set, by which a leaf is searched [Naor, Naor, Lotspiech 2001, 5].
use Rattle.std.specs.Prelude.{◌<◌, ℕ, zero, suc, ◌+◌, ◌-◌, ◌*◌, ◌/◌, ◌^◌, Bool, ◌==◌, nat_lt, List, Option, Some, None}
use Rattle.std.specs.Prelude.{if◌then◌else◌}
use Rattle.std.specs.List.{list_any}
use Rattle.std.specs.Option.{option_map_or}
use Rattle.sd_tree_keys.specs.Node.{depth}
use Rattle.sd_tree_keys.specs.Leaves.{is_member}
use Rattle.sd_tree_keys.specs.SetNames.{IsOfHeight}
use Rattle.sd_tree_keys.specs.declared.set.SetName.{SetName}
use Rattle.sd_tree_keys.specs.declared.set.SetName.TheVariants.{Whole, Diff}
use Rattle.sd_tree_keys.specs.Paths.{sibling_of}

-- the child of node i that is j or above it
unfoldable pub child_to : ℕ → ℕ → ℕ
child_to i j = j / 2 ^ (depth j - depth i - 1)

-- the halves below node x, none where it is a leaf's node
unfoldable pub halves_below : ℕ → ℕ → Option (SetName × SetName)
halves_below d x = if nat_lt x (2 ^ d) then Some (Diff x (2 * x), Diff x (2 * x + 1)) else None

-- the halves of a set, none where it has one leaf [Naor, Naor, Lotspiech 2001, 5]
unfoldable pub halves_of : ℕ → SetName → Option (SetName × SetName)
halves_of d Whole = Some (Diff 1 2, Diff 1 3)
halves_of d (Diff i j) =
    if j / 2 == i then halves_below d (sibling_of j) else Some (Diff i (child_to i j), Diff (child_to i j) j)

-- how often it can be cut
unfoldable pub cuts_left : ℕ → SetName → ℕ
cuts_left d Whole = d
cuts_left d (Diff i j) = if j / 2 == i then d - depth i - 1 else d - depth i

-- two sets of the height that can be cut less often
pub record AreHalves (d : ℕ) (name left right : SetName) : Type 0 where
  pub left_height : IsOfHeight d left
  pub right_height : IsOfHeight d right
  pub left_fewer : cuts_left d left < cuts_left d name
  pub right_fewer : cuts_left d right < cuts_left d name

-- the halves of a set are so, where it has any
abbrev pub IfHalves : ℕ → SetName → Option (SetName × SetName) → Type 0
IfHalves d name None = Unit {0}
IfHalves d name (Some halves) = AreHalves d name halves.0 halves.1

-- the leaf of a set that isn't cut
unfoldable pub only_leaf : ℕ → SetName → ℕ
only_leaf d Whole = 0
only_leaf d (Diff i j) = sibling_of j - 2 ^ d

-- some leaf of the coalition is in the set
abbrev pub has_some : ℕ → List ℕ → SetName → Bool
has_some d coalition name = list_any (is_member d name) coalition

-- the half that is cut next: the first where a leaf of the coalition is in it
abbrev pub open_half : ℕ → List ℕ → SetName × SetName → SetName
open_half d coalition halves = if has_some d coalition halves.0 then halves.0 else halves.1

-- one cut more
abbrev pub cut_once_more : ℕ × ℕ → ℕ × ℕ
cut_once_more narrowed_leaf_and_cuts = (narrowed_leaf_and_cuts.0, narrowed_leaf_and_cuts.1 + 1)

-- the leaf to which a set is cut down by at most so many cuts, and the number of cuts [Naor, Naor, Lotspiech 2001, 5]
unfoldable pub narrowed_leaf_and_cuts : ℕ → List ℕ → ℕ → SetName → ℕ × ℕ
narrowed_leaf_and_cuts d coalition zero name = (only_leaf d name, 0)
narrowed_leaf_and_cuts d coalition (suc most) name =
    option_map_or (λ halves. cut_once_more (narrowed_leaf_and_cuts d coalition most (open_half d coalition halves)))
    (halves_of d name)
    (only_leaf d name, 0)
