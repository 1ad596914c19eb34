-- Sets of which each leaf is in at most one are pairwise different.
use Rattle.std.proofs.Common.{◌≡◌, ◌≢◌, ℕ, suc, zero, ◌+◌, ◌-◌, ◌^◌, ◌<◌, ◌≤◌, Bool, true, List, [], ◌∷◌, length}
use Rattle.std.proofs.Common.{get_or, arith}
use Rattle.std.proofs.Common.{refl, cond, subst}
use Rattle.std.specs.Prelude.{Contains, AllPairs, count_by}
use Rattle.std.proofs.Math.Pow.{pow_mono}
use Rattle.std.proofs.lemmas.List.Elements.{All-contains, Contains-get_or, filter_passes}
use Rattle.std.proofs.lemmas.List.Sums.{sum_by-cons}
use Rattle.sd_tree_keys.specs.Node.{depth}
use Rattle.sd_tree_keys.specs.Leaves.{leaves, is_member, members}
use Rattle.sd_tree_keys.specs.SetNames.{IsOfHeight}
use Rattle.sd_tree_keys.specs.declared.set.SetName.{SetName}
use Rattle.sd_tree_keys.specs.declared.set.SetName.TheVariants.{Whole, Diff}
use Rattle.sd_tree_keys.proofs.Levels.{doubled}
use Rattle.sd_tree_keys.proofs.Ancestors.{depth_within, properly_above_by_levels}
use Rattle.sd_tree_keys.proofs.Members.{count_below, count_pair, count_whole, lower_is_node, upper_is_node}
use Rattle.sd_tree_keys.proofs.Members.{member_within}
use Rattle.sd_cover_tracing.proofs.Lists.{counted_some}

-- a set of the tree has a leaf
some_member : (d : ℕ) (name : SetName) → d ≤ 20 → IsOfHeight d name → 1 ≤ length (members d name)
some_member d Whole low h = omega (arith, count_whole d, pow_mono {i = 0} {j = d} (omega arith))
some_member d (Diff i j) low pair =
    let at_i = depth_within d i low pair.inner.0 (upper_is_node pair) in
    let at_j = depth_within d j low (lower_is_node pair) pair.node in
    let less = properly_above_by_levels i j (depth i) (depth j) at_i.0 at_j.0 pair.above in
    let all = count_pair d i j low pair in
    let above = count_below d i low pair.inner.0 (upper_is_node pair) in
    let below = count_below d j low (lower_is_node pair) pair.node in
    omega (
      arith,
      all,
      above,
      below,
      doubled (d - depth j),
      pow_mono {i = d - depth j + 1} {j = d - depth i} (omega arith),
      pow_mono {i = 0} {j = d - depth j} (omega arith),
    )

-- the first leaf of a set
has_member : (d : ℕ) (name : SetName) → d ≤ 20 → IsOfHeight d name
    → (u : ℕ) × (u < 2 ^ d) × (is_member d name u ≡ true)
has_member d name low h =
    let u : ℕ = get_or (members d name) 0 0 in
    let is : is_member d name u ≡ true =
    All-contains (λ v. is_member d name v ≡ true) (members d name) u (filter_passes (is_member d name) (leaves d))
    (Contains-get_or (members d name) 0 0 (some_member d name low h)) in
    (u, member_within d name u is, is)

-- what passes a test at two places counts twice
counted_twice : {X : Type 0} (p : X → Bool) (xs : List X) (i j : ℕ) (x : X) → i < j → j < length xs
    → p (get_or xs i x) ≡ true → p (get_or xs j x) ≡ true → 2 ≤ count_by p xs
counted_twice p [] i j x less within first second = absurd (omega arith)
counted_twice p (y ∷ ys) i zero x less within first second = absurd (omega arith)
counted_twice p (y ∷ ys) zero (suc j) x less within first second =
    let rest = counted_some p ys (get_or ys j x) (Contains-get_or ys j x (omega arith)) second in
    let here : cond {A = ℕ} (p y) 1 0 ≡ 1 = rw first refl in
    omega (arith, sum_by-cons (λ z. cond (p z) 1 0) y ys, here, rest)
counted_twice p (y ∷ ys) (suc i) (suc j) x less within first second =
    let rest = counted_twice p ys i j x (omega arith) (omega arith) first second in
    omega (arith, sum_by-cons (λ z. cond (p z) 1 0) y ys, rest)

-- sets of the tree of which each leaf is in at most one are different
pub once_by_leaves : (d : ℕ) (sets : List SetName) → d ≤ 20
    → ((name : SetName) → Contains sets name → IsOfHeight d name)
    → ((u : ℕ) → u < 2 ^ d → count_by (λ name. is_member d name u) sets ≤ 1) → AllPairs (λ a b. a ≢ b) sets
once_by_leaves d sets low heights few i j x less within same =
    let a = get_or sets i x in
    let (u, leaf, is) = has_member d a low (heights a (Contains-get_or sets i x (omega arith))) in
    let twice = counted_twice (λ name. is_member d name u) sets i j x less within is
    (subst (λ (name : SetName). is_member d name u ≡ true) same is) in
    omega (arith, few u leaf, twice)
