-- What a leaf's names in layers reach.
use Rattle.std.proofs.Common.{ℕ, ◌+◌, ◌^◌, ◌<◌, ◌≤◌, ◌≡◌, true, false, not, nat_eq, List, refl, ◌∙◌}
use Rattle.std.proofs.Common.{inr, cond, arith}
use Rattle.std.specs.Prelude.{◌↔◌, Contains, Any, count_by, filter}
use Rattle.std.specs.List.{list_any}
use Rattle.std.proofs.lemmas.Bool.{false_from_ne_true, eq-eqb}
use Rattle.std.proofs.lemmas.List.Folds.{list_any_at, Any-from_list_any}
use Rattle.sd_base.proofs.Lists.{counted_any}
use Rattle.sd_tree_keys.specs.Node.{depth, IsAbove}
use Rattle.sd_tree_keys.specs.Leaves.{is_member}
use Rattle.sd_tree_keys.specs.SetNames.{IsOfHeight, IsPair}
use Rattle.sd_tree_keys.specs.declared.set.SetName.{SetName}
use Rattle.sd_tree_keys.specs.declared.set.SetName.TheVariants.{Whole as WholeSet, Diff}
use Rattle.sd_tree_keys.proofs.Levels.{doubled}
use Rattle.sd_tree_keys.proofs.Ancestors.{depth_within, above_by_levels, above_le}
use Rattle.sd_tree_keys.proofs.Members.{member_of_pair}
use Rattle.sd_tree_keys.specs.declared.name.Name.TheVariants.{Whole, Pair}
use Rattle.sd_tree_keys.specs.Names.{names_of_receiver}
use Rattle.sd_tree_keys.proofs.Pairs.{given_pairs, given_whole}
use Rattle.sd_tree_keys.proofs.Hanging.{hangs}
use Rattle.sd_cover_tracing.proofs.Ends.{AreLeaves}
use Rattle.sd_cover_tracing.proofs.Lists.{counted_some, found_member}
use Rattle.sd_cover_tracing.proofs.Partitions.{among_unrevoked}
use Rattle.sd_cover_tracing.specs.Reach.{Secret, Named, Key, IsReached, source_of}
use Rattle.sd_cover_tracing.proofs.Reached.{reached_is_found, found_is_reached}
use Rattle.sd_cover_tracing.proofs.Own.{reaches_its_sets}
use Rattle.sd_lsd.specs.Layers.{is_useful}
use Rattle.sd_lsd.specs.Cover.{IsLayerCover}
use Rattle.sd_lsd.proofs.Layers.{useful_upwards}
use Rattle.sd_lsd.proofs.Covers.{layer_cover_unites, layer_cover_useful}
use Rattle.sd_lsd.specs.LayerNames.{layer_given, is_useful_name, ReachesItsUseful}
use Rattle.sd_lsd.proofs.Filters.{from_filter, to_filter}

-- what is reached in layers is reached without
layered_is_reached : (d w u : ℕ) (secret : Secret) → IsReached (layer_given d w u) secret →
    IsReached (names_of_receiver d u) secret
unfolding layer_given
layered_is_reached d w u secret r =
    let (name, held, leads) = reached_is_found (filter (is_useful_name w) (names_of_receiver d u)) secret r in
    found_is_reached (names_of_receiver d u) secret name (from_filter (is_useful_name w) (names_of_receiver d u) name
    held).0 leads

-- a node is above those below it by depths
depth_rises : (d x j : ℕ) → d ≤ 20 → 1 ≤ x → j < 2 ^ (d + 1) → IsAbove x j → depth x ≤ depth j
depth_rises d x j low some node above =
    let le = above_le x j above in
    let at_j = depth_within d j low (omega arith) node in
    let at_x = depth_within d x low some (omega arith) in
    (above_by_levels x j (depth x) (depth j) at_x.0 at_j.0 above).0

-- a pair of a useful set that has the leaf is given, with a node that is its lower node or above it
pub useful_pair : (d w u i j : ℕ) → d ≤ 20 → u < 2 ^ d → IsPair d i j → is_useful w (Diff i j) ≡ true
    → is_member d (Diff i j) u ≡ true
    → (x : ℕ) × Contains (layer_given d w u) (Pair i x) × (1 ≤ x) × IsAbove x j
unfolding layer_given
useful_pair d w u i j low leaf pair useful member =
    let paths = (member_of_pair d i j u low pair leaf).0 member in
    let within = pair.node in
    let (x, given_pair, some, above) =
    hangs d u i j leaf pair.inner.0 (omega (arith, doubled d)) pair.above.0 paths.0 paths.1 in
    let up = useful_upwards w i j x (depth_rises d x j low some pair.node above) useful in (
      x,
      to_filter (is_useful_name w) (names_of_receiver d u) (Pair i x) ((given_pairs d u i x leaf).1 given_pair) up,
      some,
      above,
    )

-- the whole set is given
pub whole_given : (d w u : ℕ) → Contains (layer_given d w u) Whole
unfolding layer_given is_useful
whole_given d w u = to_filter (is_useful_name w) (names_of_receiver d u) Whole (given_whole d u) refl

-- what a useful set's key is made from is reached where the leaf is in the set
source_reached : (d w u : ℕ) → d ≤ 20 → u < 2 ^ d → (name : SetName) → IsOfHeight d name → is_useful w name ≡ true
    → is_member d name u ≡ true → IsReached (layer_given d w u) (Named (source_of name))
source_reached d w u low leaf WholeSet h useful member =
    found_is_reached (layer_given d w u) (Named Whole) Whole (whole_given d w u) tt
source_reached d w u low leaf (Diff i j) pair useful member =
    let (x, held, some, above) = useful_pair d w u i j low leaf pair useful member in
    found_is_reached (layer_given d w u) (Named (Pair i j)) (Pair i x) held (refl, inr (some, above))

-- and so is the key
key_reached : (d w u : ℕ) → d ≤ 20 → u < 2 ^ d → (name : SetName) → IsOfHeight d name → is_useful w name ≡ true
    → is_member d name u ≡ true → IsReached (layer_given d w u) (Key name)
key_reached d w u low leaf WholeSet h useful member =
    found_is_reached (layer_given d w u) (Key WholeSet) Whole (whole_given d w u) tt
key_reached d w u low leaf (Diff i j) pair useful member =
    let (x, held, some, above) = useful_pair d w u i j low leaf pair useful member in
    found_is_reached (layer_given d w u) (Key (Diff i j)) (Pair i x) held (refl, (some, above))

-- a leaf's names in layers reach only sets that it is in, and all useful ones
pub reaches_its_useful : (d w u : ℕ) → d ≤ 20 → u < 2 ^ d → ReachesItsUseful d w u (layer_given d w u)
reaches_its_useful d w u low leaf =
    let plain = reaches_its_sets d u low leaf in
    record {
      inside = λ name h r. (plain.key name h).0 (layered_is_reached d w u (Key name) r);
      source = λ name h useful. (
        λ r. (plain.source name h).0 (layered_is_reached d w u (Named (source_of name)) r),
        λ member. source_reached d w u low leaf name h useful member,
      );
      key = λ name h useful. (
        λ r. (plain.key name h).0 (layered_is_reached d w u (Key name) r),
        λ member. key_reached d w u low leaf name h useful member,
      );
    }

-- ---- covers

module _ (d w : ℕ) (revoked : List ℕ) (sets : List SetName) (u : ℕ) (low : d ≤ 20) (wide : 1 ≤ w)
    (leaves : AreLeaves d revoked) (cover : IsLayerCover d w revoked sets) (leaf : u < 2 ^ d) where
  -- how many of the sets have the leaf
  counted : count_by (λ name. is_member d name u) sets ≡ cond (not (list_any (nat_eq u) revoked)) 1 0
  counted = layer_cover_unites d w revoked low wide leaves sets cover u leaf
      ∙ rw (among_unrevoked d revoked u leaf) refl

  -- a revoked leaf is in none
  none_has : Contains revoked u → (name : SetName) → Contains sets name → is_member d name u ≡ true → ⊥
  none_has (k, within, is) name there member =
      let found : list_any (nat_eq u) revoked ≡ true =
      list_any_at (nat_eq u) revoked k u within (rw is (eq-eqb u u refl)) in
      let none : count_by (λ name. is_member d name u) sets ≡ 0 = counted ∙ rw found refl in
      let some = counted_some (λ (n : SetName). is_member d n u) sets name there member in
      omega arith

  -- and reaches none, and each other leaf reaches one
  pub cover_reached : Any (λ name. IsReached (layer_given d w u) (Key name)) sets ↔ ¬ Contains revoked u
  cover_reached =
      let its = reaches_its_useful d w u low leaf in (
        λ (k, name, within, is, r) m.
            let part = layer_cover_useful d w revoked low wide leaves sets cover name (k, within, is) in
            none_has m name (k, within, is) (its.inside name part.height r),
        λ free.
            let absent : list_any (nat_eq u) revoked ≡ false =
            false_from_ne_true _ (λ e. free (found_member u revoked e)) in
            let one : count_by (λ name. is_member d name u) sets ≡ 1 = counted ∙ rw absent refl in
            let (k, name, within, is, member) =
            Any-from_list_any (λ (n : SetName). is_member d n u) sets (counted_any _ sets (omega arith)) in
            let part = layer_cover_useful d w revoked low wide leaves sets cover name (k, within, is) in
            (k, name, within, is, (its.key name part.height part.useful).1 member),
      )
