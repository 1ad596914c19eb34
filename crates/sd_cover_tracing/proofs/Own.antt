-- The sets that a leaf's names reach are those that the leaf is in.
use Rattle.std.proofs.Common.{ℕ, ◌+◌, ◌/◌, ◌^◌, ◌<◌, ◌≤◌, ◌≡◌, true, List, length, slice_index_or, refl, sym, subst}
use Rattle.std.proofs.Common.{◌∙◌, inr, arith}
use Rattle.std.specs.Prelude.{◌↔◌, ◌⊎◌, Contains, All, Any}
use Rattle.std.proofs.lemmas.Bool.{lt-ltb}
use Rattle.std.specs.List.{list_any, flat_map}
use Rattle.std.proofs.lemmas.List.Folds.{Any-from_list_any, list_any-from_Any}
use Rattle.std.proofs.lemmas.List.Elements.{All-contains}
use Rattle.sd_tree_keys.specs.Node.{IsAbove}
use Rattle.sd_tree_keys.specs.Leaves.{is_member}
use Rattle.sd_tree_keys.specs.SetNames.{IsPair, IsOfHeight}
use Rattle.sd_tree_keys.specs.declared.set.SetName.{SetName}
use Rattle.sd_tree_keys.specs.declared.set.SetName.TheVariants.{Whole as WholeSet, Diff}
use Rattle.sd_tree_keys.proofs.Levels.{doubled}
use Rattle.sd_tree_keys.proofs.Ancestors.{above_le, above_trans, above_parent}
use Rattle.sd_tree_keys.proofs.Members.{member_of_pair}
use Rattle.sd_tree_keys.specs.declared.name.Name.{Name}
use Rattle.sd_tree_keys.specs.declared.name.Name.TheVariants.{Whole, Pair}
use Rattle.sd_tree_keys.specs.Names.{names_of_receiver, IsGivenPair}
use Rattle.sd_tree_keys.proofs.Paths.{sibling_half, sibling_apart}
use Rattle.sd_tree_keys.proofs.Pairs.{given_pairs, given_whole}
use Rattle.sd_cover_tracing.specs.Reach.{Secret, Named, Key, IsReached, DerivesSecret, ReachesItsSets, source_of}
use Rattle.sd_cover_tracing.proofs.Reached.{reached_is_found, found_is_reached, reached_by_one, at_or_above}
use Rattle.sd_tree_keys.proofs.Hanging.{one_child_above, hangs}

-- where a given pair's lower node is above j, its upper node is above the leaf and j isn't
off_path : (d u i w j : ℕ) → IsGivenPair d u i w → (w ≡ j) ⊎ ((1 ≤ w) × IsAbove w j) → IsAbove i (2 ^ d + u)
    × (IsAbove j (2 ^ d + u) → ⊥)
off_path d u i w j pair lower = (
  above_trans i pair.node (2 ^ d + u) pair.ancestor.0 pair.path,
  λ over.
      let up = above_le i (pair.node / 2) (above_parent i pair.node pair.ancestor) in
      let low = pair.inner in
      let half : w / 2 ≡ pair.node / 2 = rw pair.hanging (sibling_half pair.node) in
      one_child_above pair.node w (2 ^ d + u) (omega arith) (omega arith) half
      (λ e. sibling_apart pair.node (sym pair.hanging
      ∙ e)) pair.path (above_trans w j (2 ^ d + u) (at_or_above w j lower) over),
)

module _ (d u : ℕ) (low : d ≤ 20) (leaf : u < 2 ^ d) where
  -- the leaf is in S(i,j) where a secret is reached that only pairs of i with nodes above j lead to
  from_name : (i j : ℕ) (secret : Secret) → IsPair d i j
      → ((w : ℕ) → DerivesSecret (Pair i w) secret → (w ≡ j) ⊎ ((1 ≤ w) × IsAbove w j))
      → ((name : Name) → DerivesSecret name secret → (w : ℕ) × (name ≡ Pair i w)) →
      IsReached (names_of_receiver d u) secret
      → is_member d (Diff i j) u ≡ true
  from_name i j secret pair lower same r =
      let (name, held, leads) = reached_is_found (names_of_receiver d u) secret r in
      let (w, is) = same name leads in
      let given_pair = (given_pairs d u i w leaf).0 (subst (Contains (names_of_receiver d u)) is held) in
      (member_of_pair d i j u low pair leaf).1
      (off_path d u i w j given_pair (lower w (subst (λ (n : Name). DerivesSecret n secret) is leads)))

  -- where the leaf is in S(i,j), a secret is reached that all pairs of i with nodes above j lead to
  to_name : (i j : ℕ) (secret : Secret) → IsPair d i j → ((w : ℕ) → 1 ≤ w → IsAbove w j →
      DerivesSecret (Pair i w) secret)
      → is_member d (Diff i j) u ≡ true → IsReached (names_of_receiver d u) secret
  to_name i j secret pair leads member =
      let paths = (member_of_pair d i j u low pair leaf).0 member in
      let within = pair.node in
      let (w, given_pair, some, above) =
      hangs d u i j leaf pair.inner.0 (omega (arith, doubled d)) pair.above.0 paths.0 paths.1 in
      found_is_reached (names_of_receiver d u) secret (Pair i w) ((given_pairs d u i w leaf).1 given_pair)
      (leads w some above)

  -- only pairs of node i lead to the label of (i,j)
  source_is : (i j : ℕ) (name : Name) → DerivesSecret name (Named (Pair i j)) → (w : ℕ) × (name ≡ Pair i w)
  source_is i j Whole l = absurd l
  source_is i j (Pair k w) (same, lower) = (w, rw same refl)

  -- only they lead to the key of S(i,j)
  key_is : (i j : ℕ) (name : Name) → DerivesSecret name (Key (Diff i j)) → (w : ℕ) × (name ≡ Pair i w)
  key_is i j Whole l = absurd l
  key_is i j (Pair k w) (same, lower) = (w, rw same refl)

  -- what a set's key is made from is reached exactly where the leaf is in the set
  source_reached : (name : SetName) → IsOfHeight d name → IsReached (names_of_receiver d u) (Named (source_of name))
      ↔ (is_member d name u ≡ true)
  source_reached WholeSet h = (
    λ _. lt-ltb u (2 ^ d) leaf,
    λ _. found_is_reached (names_of_receiver d u) (Named Whole) Whole
        (given_whole d u) tt,
  )
  source_reached (Diff i j) h = (
    from_name i j (Named (Pair i j)) h (λ w l. l.1) (source_is i j),
    to_name i j (Named (Pair i j)) h (λ w some above. (refl, inr (some, above))),
  )

  -- and so is the key
  key_reached : (name : SetName) → IsOfHeight d name → IsReached (names_of_receiver d u) (Key name) ↔
      (is_member d name u ≡ true)
  key_reached WholeSet h = (
    λ _. lt-ltb u (2 ^ d) leaf,
    λ _. found_is_reached (names_of_receiver d u) (Key WholeSet) Whole
        (given_whole d u) tt,
  )
  key_reached (Diff i j) h = (
    from_name i j (Key (Diff i j)) h (λ w l. inr l.1) (key_is i j),
    to_name i j (Key (Diff i j)) h (λ w some above. (refl, (some, above))),
  )

  -- a leaf's names reach just the sets that it is in
  pub reaches_its_sets : ReachesItsSets d u (names_of_receiver d u)
  reaches_its_sets = record { source = source_reached; key = key_reached }

-- some leaf of a coalition is in the set exactly where some leaf's names reach its key
pub member_reaches : (d : ℕ) (coalition : List ℕ) (name : SetName) → d ≤ 20 → All (λ u. u < 2 ^ d) coalition
    → IsOfHeight d name → (list_any (is_member d name) coalition ≡ true)
    ↔ Any (λ u. IsReached (names_of_receiver d u) (Key name)) coalition
member_reaches d coalition name low leaves height = (
  λ found. let (k, u, within, is, member) = Any-from_list_any (is_member d name) coalition found in
      (k, u, within, is, (key_reached d u low (leaf_at k u within is) name height).1 member),
  λ (k, u, within, is, reached).
      list_any-from_Any (is_member d name) coalition (
        k,
        u,
        within,
        is,
        (key_reached d u low (leaf_at k u within is) name height).0 reached,
      ),
)
  where
    leaf_at : (k u : ℕ) → k < length coalition → slice_index_or coalition k u ≡ u → u < 2 ^ d
    leaf_at k u within is = All-contains (λ w. w < 2 ^ d) coalition u leaves (k, within, is)

-- and exactly where the names of all reach it together
pub member_reaches_together : (d : ℕ) (coalition : List ℕ) (name : SetName) → d ≤ 20 → All (λ u. u < 2 ^ d) coalition
    → IsOfHeight d name → (list_any (is_member d name) coalition ≡ true)
    ↔ IsReached (flat_map (names_of_receiver d) coalition) (Key name)
member_reaches_together d coalition name low leaves height =
    let alone = member_reaches d coalition name low leaves height in
    let pooled = reached_by_one d coalition (Key name) in
    (λ found. pooled.1 (alone.0 found), λ r. alone.1 (pooled.0 r))
