-- The revoked leaves after a list of changes.
use Rattle.std.proofs.Common.{◌≡◌, ◌∙◌, ℕ, ◌^◌, ◌==◌, ◌&&◌, ◌||◌, not, Bool, false, List, [], ◌∷◌, filter, nat_eq}
use Rattle.std.proofs.Common.{arith, sym, ap, subst, refl}
use Rattle.std.specs.List.{list_any}
use Rattle.sd_tree_keys.specs.Leaves.{leaves, with_leaf, without_leaf}
use Rattle.sd_tree_keys.specs.declared.set.SetName.{SetName}
use Rattle.sd_cover_tracing.specs.Chains.{IsChainCover}
use Rattle.sd_cover_tracing.proofs.Names.{one_cover}
use Rattle.sd_cover_tracing.specs.Changes.{Change, Revokes, Subscribes, revoked_with, ends_revoked, last_revoked}
use Rattle.sd_cover_tracing.proofs.Ranges.{filter_same, filter_twice, passes}
use Rattle.sd_cover_tracing.proofs.Indexes.{none_passes}

-- to add a leaf to those that pass is to let it pass
with_passing : (d u : ℕ) (p : ℕ → Bool) → with_leaf d u (filter p (leaves d)) ≡ filter (λ w. w == u || p w) (leaves d)
unfolding with_leaf
with_passing d u p = filter_same (λ w. w == u || list_any (nat_eq w) (filter p (leaves d))) (λ w. w == u || p w) 0
    (2 ^ d) (λ w h. ap (λ (b : Bool). w == u || b) (passes p 0 (2 ^ d) w (omega arith) h))

without_passing : (d u : ℕ) (p : ℕ → Bool) → without_leaf u (filter p (leaves d)) ≡ filter (λ w. p w && not (w == u))
    (leaves d)
unfolding without_leaf
without_passing d u p = filter_twice p (λ w. not (w == u)) (leaves d)

-- from the leaves that pass, the changes lead to those that end so
passing_after : (d : ℕ) (p : ℕ → Bool) (changes : List Change) → revoked_with d (filter p (leaves d)) changes ≡ filter
    (λ u. ends_revoked u (p u) changes) (leaves d)
passing_after d p [] = refl
passing_after d p (Revokes w ∷ changes) = ap (λ (xs : List ℕ). revoked_with d xs changes) (with_passing d w p) ∙
    passing_after d (λ u. u == w || p u) changes
passing_after d p (Subscribes w ∷ changes) = ap (λ (xs : List ℕ). revoked_with d xs changes) (without_passing d w p) ∙
    passing_after d (λ u. p u && not (u == w)) changes

-- the revoked leaves are those whose last change is a revocation
pub last_change_decides : (d : ℕ) (changes : List Change) → revoked_with d [] changes ≡ last_revoked d changes
last_change_decides d changes = ap (λ (xs : List ℕ). revoked_with d xs changes) (sym (none_passes 0 (2 ^ d))) ∙
    passing_after d (λ u. false) changes

-- so the sets are those of a cover from scratch
pub sets_as_fresh : (d : ℕ) (changes : List Change) (sets fresh : List SetName) →
    IsChainCover d (revoked_with d [] changes) sets → IsChainCover d (last_revoked d changes) fresh → sets ≡ fresh
sets_as_fresh d changes sets fresh kept scratch = one_cover d (last_revoked d changes) sets fresh
    (subst (λ (xs : List ℕ). IsChainCover d xs sets) (last_change_decides d changes) kept) scratch
