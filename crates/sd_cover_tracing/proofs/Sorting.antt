-- The sorted sets of the walk are the cover.
use Rattle.std.proofs.Common.{◌≡◌, ◌≢◌, ◌⊎◌, inl, inr, ℕ, ◌^◌, ◌<◌, Bool, true, false, ◌&&◌, nat_eq, Decides, eq-eqb}
use Rattle.std.proofs.Common.{List, [], length, get_or, All, AllPairs, arith, subst, ap, refl}
use Rattle.std.specs.Ordering.{nat_cmp, ordering_then, is_lt}
use Rattle.std.specs.List.Sorted.{IsSorted, IsPermutation}
use Rattle.std.specs.Cmp.{IsStrictWeakOrder}
use Rattle.std.specs.declared.cmp.Ordering.TheVariants.{Less}
use Rattle.std.proofs.lemmas.Bool.Decides.{nat_tests}
use Rattle.std.proofs.lemmas.List.Sorted.{sorted_far, Contains-permutation, IsPermutation-sym}
use Rattle.std.proofs.lemmas.Map.Keys.{IsDistinct-IsPermutation}
use Rattle.std.proofs.lemmas.Map.Made.{IsDistinct-from_AllPairs, AllPairs-from_IsDistinct}
use Rattle.sd_tree_keys.specs.SetNames.{set_cmp, AreAscending}
use Rattle.sd_tree_keys.specs.declared.set.SetName.{SetName}
use Rattle.sd_tree_keys.specs.declared.set.SetName.TheVariants.{Whole, Diff}
use Rattle.sd_cover_tracing.specs.Chains.{IsChainCover}
use Rattle.std.proofs.lemmas.List.Elements.{All-contains}
use Rattle.sd_cover_tracing.proofs.Ancestry.{leaf_to_root}
use Rattle.sd_cover_tracing.proofs.AtNode.{on_chain_begun}
use Rattle.sd_cover_tracing.proofs.TreeWalks.{root_in_tree}
use Rattle.sd_cover_tracing.proofs.Covers.{all_begin}
use Rattle.sd_cover_tracing.specs.Walk.{AreChainsFrom, AreRevokedBelow, AddsChainsBelow}

-- names are the same where their numbers are
first_same : (i j k l : ℕ) → (nat_eq i k && nat_eq j l) ≡ true → i ≡ k
first_same i j k l e = grind (arith, nat_tests)

second_same : (i j k l : ℕ) → (nat_eq i k && nat_eq j l) ≡ true → j ≡ l
second_same i j k l e = grind (arith, nat_tests)

-- whether two names are the same
same_name : SetName → SetName → Bool
same_name Whole Whole = true
same_name Whole (Diff k l) = false
same_name (Diff i j) Whole = false
same_name (Diff i j) (Diff k l) = nat_eq i k && nat_eq j l

-- it tells equal names
same_name_tells : (a b : SetName) → Decides (same_name a b) (a ≡ b)
unfolding same_name
same_name_tells Whole Whole = (λ e. refl, λ e. refl)
same_name_tells Whole (Diff k l) = (λ e. absurd (cc), λ e. absurd (cc))
same_name_tells (Diff i j) Whole = (λ e. absurd (cc), λ e. absurd (cc))
same_name_tells (Diff i j) (Diff k l) = (
  λ e. let p = first_same i j k l e in let q = second_same i j k l e in cc,
  λ e. let p : i ≡ k = cc in let q : j ≡ l = cc in rw (eq-eqb i k p, eq-eqb j l q) refl,
)

-- in either order
same_name_flips : (a b : SetName) → same_name a b ≡ same_name b a
unfolding same_name
same_name_flips Whole Whole = refl
same_name_flips Whole (Diff k l) = refl
same_name_flips (Diff i j) Whole = refl
same_name_flips (Diff i j) (Diff k l) = grind (arith, nat_tests)

-- a list in which no name stands twice stays so in another order
once_moved : (xs ys : List SetName) → IsPermutation xs ys → AllPairs (λ a b. a ≢ b) xs → AllPairs (λ a b. a ≢ b) ys
once_moved xs ys moved once =
    AllPairs-from_IsDistinct same_name_tells ys
    (IsDistinct-IsPermutation same_name same_name_flips xs ys moved
    (IsDistinct-from_AllPairs same_name_tells xs once))

-- the order of pairs of numbers
pair_one_way : (i j k l : ℕ) → is_lt (ordering_then (nat_cmp i k) (nat_cmp j l)) ≡ true
    → is_lt (ordering_then (nat_cmp k i) (nat_cmp l j)) ≡ false
pair_one_way i j k l p = grind (arith, nat_tests)

pair_chain : (i j k l m n : ℕ) → is_lt (ordering_then (nat_cmp i k) (nat_cmp j l)) ≡ false
    → is_lt (ordering_then (nat_cmp k m) (nat_cmp l n)) ≡ false
    → is_lt (ordering_then (nat_cmp i m) (nat_cmp j n)) ≡ false
pair_chain i j k l m n p q = grind (arith, nat_tests)

pair_cases : (i j k l : ℕ) → is_lt (ordering_then (nat_cmp k i) (nat_cmp l j)) ≡ false
    → (ordering_then (nat_cmp i k) (nat_cmp j l) ≡ Less) ⊎ ((i ≡ k) × (j ≡ l))
pair_cases i j k l p = grind (arith, nat_tests)

-- whether a name stands before another
abbrev before : SetName → SetName → Bool
before a b = is_lt (set_cmp a b)

one_way : (a b : SetName) → before a b ≡ true → before b a ≡ false
one_way Whole Whole p = refl
one_way Whole (Diff k l) p = refl
one_way (Diff i j) Whole p = absurd (cc)
one_way (Diff i j) (Diff k l) p = pair_one_way i j k l p

chain : (a b c : SetName) → before a b ≡ false → before b c ≡ false → before a c ≡ false
chain Whole b Whole p q = refl
chain Whole Whole (Diff m n) p q = absurd (cc)
chain Whole (Diff k l) (Diff m n) p q = absurd (cc)
chain (Diff i j) b Whole p q = refl
chain (Diff i j) Whole (Diff m n) p q = absurd (cc)
chain (Diff i j) (Diff k l) (Diff m n) p q = pair_chain i j k l m n p q

-- the order of names is an order
names_ordered : IsStrictWeakOrder before
names_ordered = record { one_way = one_way; chain = chain }

-- a name that doesn't stand before another one stands after it or is it
after_or_same : (a b : SetName) → before b a ≡ false → (set_cmp a b ≡ Less) ⊎ (a ≡ b)
after_or_same Whole Whole p = inr refl
after_or_same Whole (Diff k l) p = inl refl
after_or_same (Diff i j) Whole p = absurd (cc)
after_or_same (Diff i j) (Diff k l) p = elim (pair_cases i j k l p) [
  | inl less ↦ inl less
  | inr same ↦ inr (let e = same.0 in let f = same.1 in cc)
]

-- a sorted list in which no name stands twice ascends
pub sorted_ascends : (sets : List SetName) → IsSorted set_cmp sets → AllPairs (λ a b. a ≢ b) sets → AreAscending sets
sorted_ascends sets up once i j d below within =
    elim (after_or_same (get_or sets i d) (get_or sets j d)
    (sorted_far before names_ordered sets up i j d (omega arith) within)) [
      | inl less ↦ less
      | inr same ↦ absurd (once i j d below within same)
    ]

-- all revoked leaves are below the root
all_below_root : (d : ℕ) (revoked : List ℕ) → (All (λ u. u < 2 ^ d) revoked) → AreRevokedBelow d revoked d 1 revoked
all_below_root d revoked leaves = record {
  of_height = λ u m. All-contains (λ w. w < 2 ^ d) revoked u leaves m;
  below = λ u. (λ m. (m, leaf_to_root d u (All-contains (λ w. w < 2 ^ d) revoked u leaves m)), λ m. m.0);
}

-- the sets of all chains, sorted, are the cover
pub sorted_chains : (d : ℕ) (revoked : List ℕ) (added sorted : List SetName) → revoked ≢ [] →
    AreChainsFrom d revoked 1 1 added → IsPermutation added sorted → IsSorted set_cmp sorted →
    IsChainCover d revoked sorted
sorted_chains d revoked added sorted some from moved up = record {
  ascending = sorted_ascends sorted up (once_moved added sorted moved from.once);
  none_revoked = λ e. absurd (some e);
  chains = λ some' name. (
    λ m. ((from.chains name).0 (Contains-permutation sorted added name (IsPermutation-sym added sorted moved) m)).0,
    λ c. Contains-permutation added sorted name moved ((from.chains name).1 (c, all_begin d revoked name c)),
  );
}

-- what the walk from the root adds, sorted, is the cover
pub sorted_cover : (d level : ℕ) (revoked : List ℕ) (old sets sorted : List SetName) → All (λ u. u < 2 ^ d) revoked
    → 0 < length revoked → level ≡ d → old ≡ [] → AddsChainsBelow d level 1 1 revoked old sets
    → IsPermutation sets sorted → IsSorted set_cmp sorted → IsChainCover d revoked sorted
sorted_cover d level revoked old sets sorted leaves some top none walked moved up =
    let from_top = subst (λ (l : ℕ). AddsChainsBelow d l 1 1 revoked old sets) top walked in
    let more = subst (λ (xs : List SetName). AddsChainsBelow d d 1 1 revoked xs sets) none from_top in
    let part = all_below_root d revoked leaves in
    let not_empty : revoked ≢ [] = λ e. (let n = ap length e in omega arith) in
    let added = more.adds revoked part
    (on_chain_begun d revoked 1 (inl refl) (root_in_tree d revoked part.of_height not_empty)) in
    sorted_chains d revoked added.0 sorted not_empty added.2
    (subst (λ (xs : List SetName). IsPermutation xs sorted) added.1 moved) up
