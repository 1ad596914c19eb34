-- Public meaning: disjoint and few sets that unite to the leaves that are not revoked.
use Rattle.std.specs.Prelude.{◌≡◌, ◌≢◌, ℕ, ◌*◌, ◌-◌, ◌^◌, ◌<◌, ◌≤◌, nat_eq, List, [], ◌∷◌, length, count_by, All}
use Rattle.std.specs.Prelude.{if◌then◌else◌}
use Rattle.std.specs.List.{list_any}
use Rattle.sd_tree_keys.specs.Leaves.{is_member}
use Rattle.sd_tree_keys.specs.declared.set.SetName.{SetName}
use Rattle.sd_tree_keys.specs.declared.set.SetName.TheVariants.{Whole}

-- the sets are disjoint and unite to these leaves: each of them is in one place of the list, each other leaf in none
-- [Naor, Naor, Lotspiech 2001, 3.2]
abbrev pub IsPartition : ℕ → List SetName → List ℕ → Type 0
IsPartition d sets united = (u : ℕ) → u < 2 ^ d
    → count_by (λ name. is_member d name u) sets ≡ (if list_any (nat_eq u) united then 1 else 0)

-- the whole set alone where no leaf is revoked, else at most 2r - 1 sets of which none is the whole [Naor, Naor,
-- Lotspiech 2001, 3.2]
pub record IsSmall (sets : List SetName) (r : ℕ) : Type 0 where
  pub none_revoked : r ≡ 0 → sets ≡ Whole ∷ []
  pub count : 0 < r → length sets ≤ 2 * r - 1
  pub none_whole : 0 < r → All (λ name. name ≢ Whole) sets
