-- Public meaning: the cover by useful sets of the leaves that are not revoked [Halevy, Shamir 2002, 3].
use Rattle.std.specs.Prelude.{◌≡◌, ◌≢◌, ℕ, ◌-◌, ◌*◌, ◌<◌, ◌≤◌, List, [], ◌∷◌, length, All, if◌then◌else◌}
use Rattle.std.specs.List.{flat_map}
use Rattle.std.specs.List.Sorted.{IsPermutation}
use Rattle.std.specs.Ordering.{is_lt}
use Rattle.sd_tree_keys.specs.SetNames.{AreAscending, set_cmp}
use Rattle.sd_tree_keys.specs.declared.set.SetName.{SetName}
use Rattle.sd_tree_keys.specs.declared.set.SetName.TheVariants.{Whole}
use Rattle.sd_cover_tracing.specs.Chains.{IsChainCover}
use Rattle.sd_cover_tracing.specs.Cover.{cover_of}
use Rattle.sd_lsd.specs.Layers.{split_of}

-- the sets of the chain cover, each as useful ones, ascending [Halevy, Shamir 2002, 3]
pub record IsLayerCover (d w : ℕ) (revoked : List ℕ) (sets : List SetName) : Type 0 where
  pub cover : List SetName
  pub chains : IsChainCover d revoked cover
  pub parts : IsPermutation (flat_map (split_of w) cover) sets
  pub ascending : AreAscending sets

-- a name in its place among ascending ones
abbrev pub with_name : SetName → List SetName → List SetName
with_name name [] = name ∷ []
with_name name (x ∷ xs) = if is_lt (set_cmp name x) then name ∷ x ∷ xs else x ∷ with_name name xs

-- these names, ascending
unfoldable pub in_order : List SetName → List SetName
in_order [] = []
in_order (name ∷ names) = with_name name (in_order names)

-- the same as a list, from that of the chain cover
unfoldable pub layer_cover_of : ℕ → ℕ → List ℕ → List SetName
layer_cover_of d w revoked = in_order (flat_map (split_of w) (cover_of d revoked))

-- the whole set alone where no leaf is revoked, else at most 4r - 2 sets of which none is the whole
-- [Halevy, Shamir 2002, 3]
pub record IsDoubleSmall (sets : List SetName) (r : ℕ) : Type 0 where
  pub none_revoked : r ≡ 0 → sets ≡ Whole ∷ []
  pub count : 0 < r → length sets ≤ 4 * r - 2
  pub none_whole : 0 < r → All (λ name. name ≢ Whole) sets
