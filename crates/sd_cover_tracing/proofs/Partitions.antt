-- The leaves of the sets of a cover.
use Rattle.std.proofs.Common.{◌≡◌, ℕ, ◌^◌, ◌<◌, true, false, not, ◌&&◌, lt-ltb, nat_eq, List, [], ◌∷◌}
use Rattle.std.proofs.Common.{length, arith, refl, ap, sym, ◌∙◌, eq-eqb, eqb-true}
use Rattle.std.specs.List.{list_any}
use Rattle.std.proofs.lemmas.Map.Views.{any-filter_same}
use Rattle.std.proofs.lemmas.List.Folds.{list_any_at}
use Rattle.std.proofs.lemmas.List.FromFn.{length-range_with_len, get_or-range_with_len}
use Rattle.sd_tree_keys.specs.Leaves.{leaves}
use Rattle.sd_tree_keys.specs.declared.set.SetName.TheVariants.{Whole}
use Rattle.sd_tree_keys.specs.Leaves.{unrevoked}
use Rattle.sd_cover_tracing.specs.Partition.{IsPartition}

-- a leaf is among all leaves
among_leaves : (d u : ℕ) → u < 2 ^ d → list_any (nat_eq u) (leaves d) ≡ true
among_leaves d u h =
    let within : u < length (leaves d) = rw (length-range_with_len 0 (2 ^ d)) h in
    list_any_at (nat_eq u) (leaves d) u 0 within (eq-eqb u _ (rw (get_or-range_with_len 0 (2 ^ d) u 0 h) (omega arith)))

-- a leaf is unrevoked where it isn't among the revoked ones
pub among_unrevoked : (d : ℕ) (revoked : List ℕ) (u : ℕ) → u < 2 ^ d
    → list_any (nat_eq u) (unrevoked d revoked) ≡ not (list_any (nat_eq u) revoked)
among_unrevoked d revoked u h =
    any-filter_same (nat_eq u) (λ w. not (list_any (nat_eq w) revoked)) (not (list_any (nat_eq u) revoked))
    (λ w e. let same : u ≡ w = eqb-true u w e in ap (λ (x : ℕ). not (list_any (nat_eq x) revoked)) (sym same))
    (leaves d)
    ∙ rw (among_leaves d u h)
    (elim (not (list_any (nat_eq u) revoked)) as (λ b. (b && true) ≡ b) [ true ↦ refl | false ↦ refl ])

-- the whole set has all leaves
pub whole_alone : (d : ℕ) → IsPartition d (Whole ∷ []) (unrevoked d [])
whole_alone d u h = rw (among_unrevoked d [] u h, lt-ltb u (2 ^ d) h) refl
