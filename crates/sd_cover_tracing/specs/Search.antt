-- Public meaning: the search for the last set that opens.
use Rattle.std.specs.Prelude.{◌≡◌, ℕ, zero, suc, ◌+◌, ◌/◌, ◌<◌, Bool, true, false, ◌||◌, ◌&&◌, nat_le, List, [], ◌∷◌}
use Rattle.std.specs.Prelude.{◌++◌, length, get_or, replicate, if◌then◌else◌}
use Rattle.sd_tree_keys.specs.declared.set.SetName.{SetName}
use Rattle.sd_tree_keys.specs.declared.set.SetName.TheVariants.{Whole}
use Rattle.sd_cover_tracing.specs.Halves.{has_some}

-- a set with a right key has a leaf of the coalition
unfoldable pub opens_some : ℕ → List ℕ → List SetName → List Bool → Bool
opens_some d coalition [] right = false
opens_some d coalition (name ∷ sets) [] = false
opens_some d coalition (name ∷ sets) (is ∷ right) = (is && has_some d coalition name) || opens_some d coalition sets
    right

-- how many halvings lead to place z from the places lo to hi - 1 [this project, docs/FORMATS.md, Tracing]
unfoldable pub halvings : ℕ → ℕ → ℕ → ℕ → ℕ
halvings zero lo hi z = 0
halvings (suc most) lo hi z =
    if nat_le hi (lo + 1) then 0
    else (if nat_le ((lo + hi) / 2) z then 1 + halvings most ((lo + hi) / 2) hi z else 1 + halvings most lo
    ((lo + hi) / 2) z)

-- the set at place z is the last one with a leaf of the coalition
pub record IsLastOpen (d : ℕ) (coalition : List ℕ) (sets : List SetName) (z : ℕ) : Type 0 where
  pub within : z < length sets
  pub opens : has_some d coalition (get_or sets z Whole) ≡ true
  pub last : (k : ℕ) → z < k → k < length sets → has_some d coalition (get_or sets k Whole) ≡ false

-- keys of which the first m are wrong and the others right
abbrev pub right_from : ℕ → ℕ → List Bool
right_from m n = replicate m false ++ replicate n true
