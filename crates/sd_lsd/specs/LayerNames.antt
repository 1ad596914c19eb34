-- Public meaning: what a receiver is given in layers [Halevy, Shamir 2002, 3].
use Rattle.std.specs.Prelude.{◌≡◌, ℕ, ◌-◌, ◌%◌, Bool, true, ◌==◌, ◌↔◌, min, List, filter, sum_by, if◌then◌else◌}
use Rattle.std.specs.List.{range_with_len}
use Rattle.sd_tree_keys.specs.Leaves.{is_member}
use Rattle.sd_tree_keys.specs.SetNames.{IsOfHeight}
use Rattle.sd_tree_keys.specs.declared.set.SetName.{SetName}
use Rattle.sd_tree_keys.specs.declared.set.SetName.TheVariants.{Whole as WholeSet, Diff}
use Rattle.sd_tree_keys.specs.declared.name.Name.{Name}
use Rattle.sd_tree_keys.specs.declared.name.Name.TheVariants.{Whole, Pair}
use Rattle.sd_tree_keys.specs.Names.{names_of_receiver}
use Rattle.sd_cover_tracing.specs.Reach.{Named, Key, IsReached, source_of}
use Rattle.sd_lsd.specs.Layers.{is_useful, layer_end}

-- the set whose key is made from the name's secret alone
abbrev pub set_of : Name → SetName
set_of Whole = WholeSet
set_of (Pair i x) = Diff i x

-- the name is that of a useful set
abbrev pub is_useful_name : ℕ → Name → Bool
is_useful_name w name = is_useful w (set_of name)

-- what leaf u is given secrets of: of the names that it is given without layers those of useful sets, in their order
-- [Halevy, Shamir 2002, 3]
unfoldable pub layer_given : ℕ → ℕ → ℕ → List Name
layer_given d w u = filter (is_useful_name w) (names_of_receiver d u)

-- how many pairs of its ancestor at depth a it is given: down to the leaf where a layer ends there, else to the end of
-- the ancestor's layer
unfoldable pub pairs_under : ℕ → ℕ → ℕ → ℕ
pairs_under d w a = if a % w == 0 then d - a else min (layer_end w a) d - a

-- how many pairs of its ancestors above depth a it is given
unfoldable pub pairs_above : ℕ → ℕ → ℕ → ℕ
pairs_above d w a = sum_by (pairs_under d w) (range_with_len 0 a)

-- how many pairs it is given in all [this project, docs/FORMATS.md, Layer card]
unfoldable pub layer_count : ℕ → ℕ → ℕ
layer_count d w = pairs_above d w d

-- what is reached is of sets that have the leaf, and all useful sets that have it are reached
-- [Halevy, Shamir 2002, 3]
pub record ReachesItsUseful (d w u : ℕ) (held : List Name) : Type 0 where
  pub inside : (name : SetName) → IsOfHeight d name → IsReached held (Key name) → is_member d name u ≡ true
  pub source : (name : SetName) → IsOfHeight d name → is_useful w name ≡ true
      → IsReached held (Named (source_of name)) ↔ (is_member d name u ≡ true)
  pub key : (name : SetName) → IsOfHeight d name → is_useful w name ≡ true
      → IsReached held (Key name) ↔ (is_member d name u ≡ true)
