-- Public meaning: revocations and subscriptions one after the other.
use Rattle.std.specs.Prelude.{ℕ, ◌==◌, ◌&&◌, ◌||◌, not, Bool, false, List, [], ◌∷◌, filter}
use Rattle.sd_tree_keys.specs.Leaves.{leaves, with_leaf, without_leaf}

-- a change of the revoked leaves: a leaf is revoked, or revoked no more [this project, docs/FORMATS.md, Book]
pub data Change : Type 0 where
  Revokes : ℕ → Change
  Subscribes : ℕ → Change

-- the revoked leaves after these changes of an index
abbrev pub revoked_with : ℕ → List ℕ → List Change → List ℕ
revoked_with d revoked [] = revoked
revoked_with d revoked (Revokes u ∷ changes) = revoked_with d (with_leaf d u revoked) changes
revoked_with d revoked (Subscribes u ∷ changes) = revoked_with d (without_leaf u revoked) changes

-- whether a leaf ends revoked that was so at first
abbrev pub ends_revoked : ℕ → Bool → List Change → Bool
ends_revoked u at_first [] = at_first
ends_revoked u at_first (Revokes w ∷ changes) = ends_revoked u (u == w || at_first) changes
ends_revoked u at_first (Subscribes w ∷ changes) = ends_revoked u (at_first && not (u == w)) changes

-- the leaves whose last change is a revocation, ascending
abbrev pub last_revoked : ℕ → List Change → List ℕ
last_revoked d changes = filter (λ u. ends_revoked u false changes) (leaves d)
