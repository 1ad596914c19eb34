-- The nodes that stand a number of steps above the leaves.
use Rattle.std.proofs.Common.{◌≡◌, ◌≢◌, ℕ, suc, ◌⊎◌, inl, inr, ◌+◌, ◌-◌, ◌*◌, ◌/◌, ◌^◌, ◌<◌, ◌≤◌, true, false, ◌&&◌}
use Rattle.std.proofs.Common.{◌||◌, nat_eq, List, [], ◌∷◌, Contains, eq-eqb, eqb-true, arith, ap, subst, sym, ◌∙◌, refl}
use Rattle.std.proofs.Math.Nat.{div-lt_iff_lt-mul, le-div_iff_mul-le, div-eq_of_lt-le}
use Rattle.std.proofs.lemmas.Nat.{pow_pos}
use Rattle.std.proofs.lemmas.Bool.Decides.{eqb_tells, nat_tests, same_from_decides}
use Rattle.sd_tree_keys.specs.Node.{IsAbove, depth}
use Rattle.sd_tree_keys.specs.Leaves.{is_below}
use Rattle.sd_tree_keys.proofs.Levels.{doubled, halved_level, depth_at}
use Rattle.sd_tree_keys.proofs.Ancestors.{above_by_levels, leaf_level, within_from_below, below_from_within}
use Rattle.sd_cover_tracing.specs.Chains.{IsInTree}
use Rattle.sd_cover_tracing.specs.Walk.{StandsAt, node_at}
use Rattle.sd_cover_tracing.proofs.Ancestry.{halved_once_more}
use Rattle.sd_cover_tracing.proofs.Lists.{member_cases, member_first, member_later, no_member}
use Rattle.sd_cover_tracing.proofs.Ends.{AreLeaves}

-- so many halvings lead from a leaf's node to one that stands so
pub node_stands : (d level u : ℕ) → level ≤ d → u < 2 ^ d → StandsAt d level (node_at d level u)
node_stands d level u h lt = record { within = h; at = halved_level (2 ^ d + u) d level h (leaf_level d u lt) }

-- they lead to the only one that is at or above the leaf
only_above : (d level v u : ℕ) → StandsAt d level v → u < 2 ^ d → IsAbove v (2 ^ d + u) → node_at d level u ≡ v
only_above d level v u at lt a =
    let within = at.within in
    let e : d - (d - level) ≡ level = omega arith in
    let by = above_by_levels v (2 ^ d + u) (d - level) d at.at (leaf_level d u lt) a in
    subst (λ (k : ℕ). (2 ^ d + u) / 2 ^ k ≡ v) e by.1

-- children stand one step lower
pub child_stands : (d level v w : ℕ) → StandsAt d (suc level) v → w / 2 ≡ v → StandsAt d level w
child_stands d level v w at e =
    let within = at.within in
    let k : d - suc level + 1 ≡ d - level = omega arith in
    let low = at.at.low in
    let high = subst (λ (m : ℕ). v < 2 ^ m) k at.at.high in
    let twice : 2 ^ (d - level) ≡ 2 * 2 ^ (d - suc level) = ap (λ (m : ℕ). 2 ^ m) (sym k) ∙ doubled (d - suc level) in
    let more = doubled (d - level) in
    record { within = omega arith; at = record { low = omega arith; high = omega arith } }

-- a leaf is below v where so many halvings lead from its node to v
pub below_by_halvings : (d level v w : ℕ) → d < 32 → StandsAt d level v → is_below d v w ≡ nat_eq (node_at d level w) v
below_by_halvings d level v w small at =
    same_from_decides (is_below d v w) (nat_eq (node_at d level w) v) (to, from) (
      eqb-true (node_at d level w) v,
      eq-eqb (node_at d level w) v,
    )
  where
    steps : d - depth v ≡ level
    steps =
        let is = depth_at v (d - level) (omega arith) at.at in
        let within = at.within in
        omega arith

    to : is_below d v w ≡ true → node_at d level w ≡ v
    to b =
        let within = rw steps at (within_from_below d v w b) in
        div-eq_of_lt-le {k = v} (2 ^ level) {m = 2 ^ d + w} within.0 within.1

    from : node_at d level w ≡ v → is_below d v w ≡ true
    from e =
        let some = pow_pos level in
        let low : v * 2 ^ level ≤ 2 ^ d + w = (le-div_iff_mul-le some).0 (omega arith) in
        let high : 2 ^ d + w < (v + 1) * 2 ^ level = (div-lt_iff_lt-mul some).0 (omega arith) in
        below_from_within d v w (rw steps low) (rw steps high)

-- a number whose half is v is one of v's children
halves_to : (x v : ℕ) → nat_eq (x / 2) v ≡ (nat_eq x (2 * v) || nat_eq x (2 * v + 1))
halves_to x v = grind (arith, nat_tests)

-- where the parent of the node is v, the node is one of v's children
either_child : (d level v u : ℕ)
    → nat_eq (node_at d (suc level) u) v
    ≡ (nat_eq (node_at d level u) (2 * v) || nat_eq (node_at d level u) (2 * v + 1))
either_child d level v u =
    let half : node_at d (suc level) u ≡ node_at d level u / 2 = halved_once_more (2 ^ d + u) level in
    rw half (halves_to (node_at d level u) v)

-- what is below a node is below one of its children
pub below_either : (d level v w : ℕ) → d < 32 → StandsAt d (suc level) v
    → is_below d v w ≡ (is_below d (2 * v) w || is_below d (2 * v + 1) w)
below_either d level v w small at =
    rw (
      below_by_halvings d (suc level) v w small at,
      below_by_halvings d level (2 * v) w small (child_stands d level v (2 * v) at (omega arith)),
      below_by_halvings d level (2 * v + 1) w small (child_stands d level v (2 * v + 1) at (omega arith)),
    )
    (either_child d level v w)

-- a number isn't twice v and the next
one_number : (x v : ℕ) → (nat_eq x (2 * v) && nat_eq x (2 * v + 1)) ≡ false
one_number x v = grind (arith, nat_tests)

-- no leaf is below both
pub below_one : (d level v w : ℕ) → d < 32 → StandsAt d (suc level) v
    → (is_below d (2 * v) w && is_below d (2 * v + 1) w) ≡ false
below_one d level v w small at =
    rw (
      below_by_halvings d level (2 * v) w small (child_stands d level v (2 * v) at (omega arith)),
      below_by_halvings d level (2 * v + 1) w small (child_stands d level v (2 * v + 1) at (omega arith)),
    )
    (one_number (node_at d level w) v)

-- a node above a revoked leaf is in the tree
pub in_tree_from : (d level x u : ℕ) (revoked : List ℕ) → StandsAt d level x → Contains revoked u
    → node_at d level u ≡ x → IsInTree d revoked x
in_tree_from d level x u revoked at m e =
    let some = pow_pos (d - level) in
    let low = at.at.low in
    (omega arith, (u, m, (level, e)))

-- a node of the tree is above a revoked leaf
pub in_tree_to : (d level x : ℕ) (revoked : List ℕ) → AreLeaves d revoked → StandsAt d level x → IsInTree d revoked x
    → (u : ℕ) × Contains revoked u × (node_at d level u ≡ x)
in_tree_to d level x revoked leaves at (h, (u, m, a)) = (u, m, only_above d level x u at (leaves u m) a)

-- a revoked leaf below the node is found, or there is none
find_leaf : (d level x : ℕ) (revoked : List ℕ) → ((u : ℕ) × Contains revoked u × (node_at d level u ≡ x))
    ⊎ ((u : ℕ) → Contains revoked u → node_at d level u ≢ x)
find_leaf d level x [] = inr (λ u m. absurd (no_member u m))
find_leaf d level x (w ∷ ws) = elim (eqb_tells (node_at d level w) x) [
  | inl same ↦ inl (w, member_first w ws, same.1)
  | inr other ↦ elim (find_leaf d level x ws) [
    | inl found ↦ inl (found.0, member_later w ws found.0 found.1, found.2)
    | inr none ↦ inr (λ u m. elim (member_cases w ws u m) [
      | inl is ↦ λ e. other.1 (ap (node_at d level) is ∙ e)
      | inr later ↦ none u later
    ])
  ]
]

-- a node is in the tree or not
pub in_tree_or : (d level x : ℕ) (revoked : List ℕ) → AreLeaves d revoked → StandsAt d level x → IsInTree d revoked x
    ⊎ (IsInTree d revoked x → ⊥)
in_tree_or d level x revoked leaves at = elim (find_leaf d level x revoked) [
  | inl found ↦ inl (in_tree_from d level x found.0 revoked at found.1 found.2)
  | inr none ↦ inr (λ t. let to = in_tree_to d level x revoked leaves at t in none to.0 to.1 to.2)
]

-- a node of the tree above the leaves has a child in the tree
pub some_child : (d level v : ℕ) (revoked : List ℕ) → AreLeaves d revoked → StandsAt d (suc level) v
    → IsInTree d revoked v → (w : ℕ) × (w / 2 ≡ v) × IsInTree d revoked w
some_child d level v revoked leaves at t =
    let to = in_tree_to d (suc level) v revoked leaves at t in
    let half : node_at d level to.0 / 2 ≡ v = sym (halved_once_more (2 ^ d + to.0) level) ∙ to.2 in (
      node_at d level to.0,
      half,
      in_tree_from d level (node_at d level to.0) to.0 revoked (child_stands d level v (node_at d level to.0) at half)
          to.1 refl,
    )
