-- A chain cover has each unrevoked leaf in one set, and few sets.
use Rattle.std.proofs.Common.{◌≡◌, ◌≢◌, ℕ, subst, inl, inr, ◌<◌, List, [], ◌∷◌, length, Contains, sum_by, cond, arith}
use Rattle.std.proofs.Common.{sym, ◌∙◌, refl}
use Rattle.std.proofs.lemmas.Bool.Decides.{eqb_tells}
use Rattle.std.proofs.lemmas.List.Sums.{count_by-le-length}
use Rattle.std.proofs.lemmas.List.Elements.{Contains-get_or}
use Rattle.sd_tree_keys.specs.Leaves.{is_below, is_member}
use Rattle.sd_tree_keys.specs.declared.set.SetName.{SetName}
use Rattle.sd_tree_keys.specs.declared.set.SetName.TheVariants.{Whole, Diff}
use Rattle.sd_tree_keys.specs.Leaves.{unrevoked}
use Rattle.sd_cover_tracing.specs.Partition.{IsPartition, IsSmall}
use Rattle.sd_cover_tracing.specs.Chains.{IsOfChain, IsChainCover}
use Rattle.sd_cover_tracing.specs.Walk.{BeginsBy}
use Rattle.sd_tree_keys.proofs.Ancestors.{root_above}
use Rattle.sd_cover_tracing.proofs.Ancestry.{below_root}
use Rattle.sd_cover_tracing.proofs.Lists.{sum_within, length_sum, not_empty}
use Rattle.sd_cover_tracing.proofs.Names.{ascending_once}
use Rattle.sd_cover_tracing.proofs.Partitions.{whole_alone, among_unrevoked}
use Rattle.sd_cover_tracing.proofs.Ends.{AreLeaves, linked_start}
use Rattle.sd_cover_tracing.proofs.TreeWalks.{IsWalk, walk_of_all}

-- the chains from the root are all chains
pub all_begin : (d : ℕ) (revoked : List ℕ) (name : SetName) → IsOfChain d revoked name → BeginsBy 1 1 name
all_begin d revoked Whole c = absurd c
all_begin d revoked (Diff i j) c = elim (eqb_tells i 1) [
  | inl same ↦ inl same.1
  | inr other ↦ inr (root_above i (linked_start d revoked c.nodes i c.linked).0, λ e. other.1 (sym e))
]

module _ (d : ℕ) (revoked : List ℕ) (sets : List SetName) (leaves : AreLeaves d revoked) (some : revoked ≢ [])
    (cover : IsChainCover d revoked sets) (walk : IsWalk d revoked 1 1) where
  -- the cover and the walk have the same names
  same_there : (name : SetName) → Contains sets name → Contains walk.sets name
  same_there name m =
      let c = (cover.chains some name).0 m in
      (walk.chains.chains name).1 (c, all_begin d revoked name c)

  same_back : (name : SetName) → Contains walk.sets name → Contains sets name
  same_back name m = (cover.chains some name).1 ((walk.chains.chains name).0 m).0

  -- a sum over the cover is that over the walk
  pub same_sum : (f : SetName → ℕ) → sum_by f sets ≡ sum_by f walk.sets
  same_sum f =
      let there = sum_within f sets walk.sets (ascending_once sets cover.ascending) same_there in
      let back = sum_within f walk.sets sets walk.chains.once same_back in
      omega arith

  -- so what the walk says of each leaf and of their number holds of the cover
  some_partition : IsPartition d sets (unrevoked d revoked)
  some_partition u h =
      same_sum (λ name. cond (is_member d name u) 1 0)
      ∙ (walk.counted.of_leaf u h ∙ rw (below_root d u h, among_unrevoked d revoked u h) (omega arith))

  some_small : IsSmall sets (length revoked)
  some_small = record {
    none_revoked = λ e. absurd (not_empty revoked some e);
    count = λ more.
        let few = walk.counted.few in
        let same = same_sum (λ name. 1) in
        let one = length_sum sets in
        let two = length_sum walk.sets in
        let within = count_by-le-length (λ u. is_below d 1 u) revoked in
        omega arith;
    none_whole = λ more k x within is.
        (cover.chains some Whole).0 (subst (Contains sets) is (Contains-get_or sets k x within));
  }

-- a chain cover has each unrevoked leaf in one of its sets
pub cover_partition : (d : ℕ) (revoked : List ℕ) (sets : List SetName) → d < 32 → AreLeaves d revoked
    → IsChainCover d revoked sets → IsPartition d sets (unrevoked d revoked)
cover_partition d [] sets small leaves cover =
    subst (λ (xs : List SetName). IsPartition d xs (unrevoked d [])) (sym (cover.none_revoked refl)) (whole_alone d)
cover_partition d (u ∷ us) sets small leaves cover =
    let some : u ∷ us ≢ [] = λ e. absurd (cc) in
    some_partition d (u ∷ us) sets leaves some cover (walk_of_all d (u ∷ us) (omega arith) leaves some)

-- a chain cover is small
pub cover_small : (d : ℕ) (revoked : List ℕ) (sets : List SetName) → d < 32 → AreLeaves d revoked
    → IsChainCover d revoked sets → IsSmall sets (length revoked)
cover_small d [] sets small leaves cover = record {
  none_revoked = λ e. cover.none_revoked refl;
  count = λ more. absurd (omega arith);
  none_whole = λ more. absurd (omega arith);
}
cover_small d (u ∷ us) sets small leaves cover =
    let some : u ∷ us ≢ [] = λ e. absurd (cc) in
    some_small d (u ∷ us) sets leaves some cover (walk_of_all d (u ∷ us) (omega arith) leaves some)
