-- The cover by useful sets: each unrevoked leaf is in one of its sets, and they are few.
use Rattle.std.proofs.Common.{◌≡◌, ◌≢◌, ℕ, ◌+◌, ◌^◌, ◌<◌, ◌≤◌, Bool, true, false, List, [], ◌∷◌, ◌++◌, length, take}
use Rattle.std.proofs.Common.{get_or, arith}
use Rattle.std.proofs.Common.{refl, sym, ap, ◌∙◌, cond, inl, inr, subst, nat_eq}
use Rattle.std.specs.Prelude.{◌↔◌, Contains, All, AllPairs}
use Rattle.std.specs.List.{flat_map, list_any}
use Rattle.std.specs.List.Sorted.{IsSorted, IsPermutation}
use Rattle.std.proofs.lemmas.List.{flat_map_more, take_more}
use Rattle.std.proofs.lemmas.List.Concat.{flat_map-cons}
use Rattle.std.proofs.lemmas.List.Elements.{All-contains, Contains-append_cases, Contains-get_or}
use Rattle.std.proofs.lemmas.List.Sorted.{Contains-permutation, IsPermutation-refl, IsPermutation-sym}
use Rattle.std.proofs.lemmas.List.Sorted.{sum_by-IsPermutation}
use Rattle.sd_tree_keys.specs.Leaves.{is_member, unrevoked}
use Rattle.sd_tree_keys.specs.SetNames.{IsOfHeight, AreAscending, set_cmp}
use Rattle.sd_tree_keys.specs.declared.set.SetName.{SetName}
use Rattle.sd_tree_keys.specs.declared.set.SetName.TheVariants.{Whole, Diff}
use Rattle.sd_cover_tracing.specs.Chains.{IsChainCover}
use Rattle.sd_cover_tracing.specs.Cover.{cover_of}
use Rattle.sd_cover_tracing.specs.Partition.{IsPartition}
use Rattle.sd_cover_tracing.proofs.Covers.{cover_partition, cover_small}
use Rattle.sd_cover_tracing.proofs.Ends.{AreLeaves}
use Rattle.sd_cover_tracing.proofs.Heights.{of_height}
use Rattle.sd_cover_tracing.proofs.Lists.{length_sum, member_cases, member_first, member_later, no_member}
use Rattle.sd_cover_tracing.proofs.Names.{one_cover}
use Rattle.sd_cover_tracing.proofs.There.{the_cover}
use Rattle.sd_cover_tracing.proofs.Sorting.{sorted_ascends}
use Rattle.sd_lsd.specs.Layers.{is_useful, layer_node, split_of}
use Rattle.sd_lsd.specs.Cover.{IsLayerCover, IsDoubleSmall, layer_cover_of}
use Rattle.sd_lsd.proofs.Parts.{IsPart, cut_at, parts_are_useful}
use Rattle.sd_lsd.proofs.Doubling.{split_counted, split_doubled}
use Rattle.sd_lsd.proofs.Order.{same_order, in_order_moved, in_order_ascends}
use Rattle.sd_lsd.proofs.Once.{once_by_leaves}

-- a part of some sets is a part of one of them
from_sets : (w : ℕ) (sets : List SetName) (part : SetName) → Contains (flat_map (split_of w) sets) part
    → (name : SetName) × Contains sets name × Contains (split_of w name) part
from_sets w [] part m = absurd (no_member part m)
from_sets w (name ∷ sets) part m =
    elim (Contains-append_cases (split_of w name) (flat_map (split_of w) sets) part
    (rw (flat_map-cons (split_of w) name sets) at m)) [
      | inl here ↦ (name, member_first name sets, here)
      | inr there ↦
          let (other, held, of) = from_sets w sets part there in
          (other, member_later name sets other held, of)
    ]

-- the parts of sets of the tree are useful sets of the tree
pub useful_parts : (d w : ℕ) (sets : List SetName) → d ≤ 20 → 1 ≤ w
    → ((name : SetName) → Contains sets name → IsOfHeight d name) → (part : SetName)
    → Contains (flat_map (split_of w) sets) part → IsPart d w part
useful_parts d w sets low some heights part m =
    let (name, held, of) = from_sets w sets part m in
    parts_are_useful d w name low some (heights name held) part of

-- what is counted once or not at all is counted at most once
at_most_one : (b : Bool) (n : ℕ) → n ≡ cond b 1 0 → n ≤ 1
at_most_one true n e = omega arith
at_most_one false n e = omega arith

-- no part of a set is the whole set, unless that is
part_not_whole : (w : ℕ) (name part : SetName) → name ≢ Whole → Contains (split_of w name) part → part ≢ Whole
unfolding split_of
part_not_whole w Whole part other m = absurd (other refl)
part_not_whole w (Diff i j) part other m = by_test (is_useful w (Diff i j)) m
  where
    by_test : (b : Bool) → Contains (cut_at b i (layer_node w i j) j) part → part ≢ Whole
    by_test true m = elim (member_cases (Diff i j) [] part m) [
      | inl same ↦ λ e. absurd cc
      | inr none ↦ absurd (no_member part none)
    ]
    by_test false m = elim (member_cases (Diff i (layer_node w i j)) (Diff (layer_node w i j) j ∷ []) part m) [
      | inl same ↦ λ e. absurd cc
      | inr rest ↦ elim (member_cases (Diff (layer_node w i j) j) [] part rest) [
        | inl same ↦ λ e. absurd cc
        | inr none ↦ absurd (no_member part none)
      ]
    ]

-- the parts of one set more
pub parts_more : (w : ℕ) (sets : List SetName) (k : ℕ) (x : SetName) → k < length sets
    → flat_map (split_of w) (take k sets) ++ split_of w (get_or sets k x)
    ≡ flat_map (split_of w) (take (k + 1) sets)
parts_more w sets k x within =
    flat_map_more (split_of w) [] (take k sets) (get_or sets k x)
    ∙ ap (flat_map (split_of w)) (sym (take_more sets k x within))

-- the parts of the whole set
whole_parts : (w : ℕ) → flat_map (split_of w) (Whole ∷ []) ≡ Whole ∷ []
unfolding split_of
whole_parts w = refl

-- one name ascends
one_ascends : AreAscending (Whole ∷ [])
one_ascends i j x less within = absurd (omega arith)

module _ (d w : ℕ) (revoked : List ℕ) (low : d ≤ 20) (some : 1 ≤ w) (leaves : AreLeaves d revoked) where
  -- the parts of a chain cover, in any order, have each unrevoked leaf once
  parts_unite : (cover sets : List SetName) → IsChainCover d revoked cover
      → IsPermutation (flat_map (split_of w) cover) sets → IsPartition d sets (unrevoked d revoked)
  parts_unite cover sets chains moved u leaf =
      sum_by-IsPermutation (λ name. cond (is_member d name u) 1 0) (flat_map (split_of w) cover) sets moved
      ∙ (split_counted d w u cover low some (of_height d revoked cover leaves chains) leaf
      ∙ cover_partition d revoked cover (omega arith) leaves chains u leaf)

  -- they are useful sets of the tree
  parts_useful : (cover sets : List SetName) → IsChainCover d revoked cover
      → IsPermutation (flat_map (split_of w) cover) sets → (name : SetName) → Contains sets name → IsPart d w name
  parts_useful cover sets chains moved name m =
      useful_parts d w cover low some (of_height d revoked cover leaves chains) name
      (Contains-permutation sets (flat_map (split_of w) cover) name
      (IsPermutation-sym (flat_map (split_of w) cover) sets moved) m)

  -- none stands twice
  parts_once : (cover sets : List SetName) → IsChainCover d revoked cover
      → IsPermutation (flat_map (split_of w) cover) sets → AllPairs (λ a b. a ≢ b) sets
  parts_once cover sets chains moved =
      once_by_leaves d sets low (λ name m. (parts_useful cover sets chains moved name m).height)
      (λ u leaf. at_most_one (list_any (nat_eq u) (unrevoked d revoked)) _ (parts_unite cover sets chains moved u leaf))

  -- so sorted they are the cover by useful sets
  pub sorted_is_cover : (cover sets : List SetName) → IsChainCover d revoked cover
      → IsPermutation (flat_map (split_of w) cover) sets → IsSorted set_cmp sets → IsLayerCover d w revoked sets
  sorted_is_cover cover sets chains moved up = record {
    cover = cover;
    chains = chains;
    parts = moved;
    ascending = sorted_ascends sets up (parts_once cover sets chains moved);
  }

  -- and so is the list of the definition
  listed_is_cover : IsLayerCover d w revoked (layer_cover_of d w revoked)
  unfolding layer_cover_of
  listed_is_cover =
      let chains = (the_cover d revoked (cover_of d revoked) (omega arith) leaves).1 refl in
      let flat = flat_map (split_of w) (cover_of d revoked) in
      let once = parts_once (cover_of d revoked) flat chains (IsPermutation-refl flat) in
      record {
        cover = cover_of d revoked;
        chains = chains;
        parts = in_order_moved flat;
        ascending = in_order_ascends flat once;
      }

  -- the sets have each unrevoked leaf once
  pub layer_cover_unites : (sets : List SetName) → IsLayerCover d w revoked sets
      → IsPartition d sets (unrevoked d revoked)
  layer_cover_unites sets is = parts_unite is.cover sets is.chains is.parts

  -- they are useful sets of the tree
  pub layer_cover_useful : (sets : List SetName) → IsLayerCover d w revoked sets → (name : SetName)
      → Contains sets name → IsPart d w name
  layer_cover_useful sets is name m = parts_useful is.cover sets is.chains is.parts name m

  -- and few
  pub layer_cover_small : (sets : List SetName) → IsLayerCover d w revoked sets
      → IsDoubleSmall sets (length revoked)
  layer_cover_small sets is =
      let small = cover_small d revoked is.cover (omega arith) leaves is.chains in
      let flat = flat_map (split_of w) is.cover in
      let as_long : length sets ≡ length flat = length_sum sets
      ∙ (sum_by-IsPermutation (λ name. 1) flat sets is.parts ∙ sym (length_sum flat)) in
      record {
        none_revoked = λ e.
            let alone : flat ≡ Whole ∷ [] = rw (small.none_revoked e) (whole_parts w) in
            same_order flat sets (Whole ∷ []) is.ascending one_ascends is.parts
            (subst (λ (xs : List SetName). IsPermutation flat xs) alone (IsPermutation-refl flat));
        count = λ more. omega (arith, small.count more, split_doubled w is.cover, as_long);
        none_whole = λ more k x within same.
            let m = Contains-permutation sets flat Whole (IsPermutation-sym flat sets is.parts)
            (subst (Contains sets) same (Contains-get_or sets k x within)) in
            let (name, held, of) = from_sets w is.cover Whole m in
            let other : name ≢ Whole = All-contains (λ n. n ≢ Whole) is.cover name (small.none_whole more) held in
            part_not_whole w name Whole other of refl;
      }

-- some revoked leaves have one cover by useful sets
pub one_layer_cover : (d w : ℕ) (revoked : List ℕ) (a b : List SetName) → IsLayerCover d w revoked a
    → IsLayerCover d w revoked b → a ≡ b
one_layer_cover d w revoked a b is other =
    let same = one_cover d revoked is.cover other.cover is.chains other.chains in
    same_order (flat_map (split_of w) is.cover) a b is.ascending other.ascending is.parts
    (subst (λ (cover : List SetName). IsPermutation (flat_map (split_of w) cover) b) (sym same) other.parts)

-- and the list of the definition is it
pub cover_listed : (d w : ℕ) (revoked : List ℕ) (sets : List SetName) → d ≤ 20 → 1 ≤ w → AreLeaves d revoked
    → IsLayerCover d w revoked sets ↔ (sets ≡ layer_cover_of d w revoked)
cover_listed d w revoked sets low some leaves =
    let listed = listed_is_cover d w revoked low some leaves in (
      λ is. one_layer_cover d w revoked sets (layer_cover_of d w revoked) is listed,
      λ e. subst (IsLayerCover d w revoked) (sym e) listed,
    )

-- what is made of a chain cover is the list of the definition
pub made_is_cover : (d w : ℕ) (revoked : List ℕ) (cover sets : List SetName) → d ≤ 20 → 1 ≤ w
    → All (λ u. u < 2 ^ d) revoked → IsChainCover d revoked cover → IsPermutation (flat_map (split_of w) cover) sets
    → IsSorted set_cmp sets → (sets ≡ layer_cover_of d w revoked) × IsLayerCover d w revoked sets
made_is_cover d w revoked cover sets low some all chains moved up =
    let leaves : AreLeaves d revoked = λ u m. All-contains (λ v. v < 2 ^ d) revoked u all m in
    let is = sorted_is_cover d w revoked low some leaves cover sets chains moved up in
    ((cover_listed d w revoked sets low some leaves).0 is, is)
