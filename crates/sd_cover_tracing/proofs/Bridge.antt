-- A node counts exactly where it is in the Steiner tree.
use Rattle.std.proofs.Common.{◌≡◌, ◌∙◌, ℕ, suc, ◌+◌, ◌-◌, ◌*◌, ◌^◌, ◌<◌, ◌≤◌, ◌↔◌, Bool, true, List, [], ◌∷◌, Contains}
use Rattle.std.proofs.Common.{count_by, cond, eqb-true, eq-eqb, arith, sym, inl, inr}
use Rattle.std.proofs.Math.Pow.{pow_mono}
use Rattle.std.proofs.lemmas.Nat.{pow_pos}
use Rattle.std.proofs.lemmas.Bool.{cases_Bool, cond-false}
use Rattle.std.proofs.lemmas.List.Sums.{sum_by-cons}
use Rattle.sd_tree_keys.specs.Leaves.{is_below}
use Rattle.sd_cover_tracing.specs.Chains.{IsInTree}
use Rattle.sd_cover_tracing.specs.Walk.{node_at}
use Rattle.sd_cover_tracing.proofs.Ends.{AreLeaves}
use Rattle.sd_cover_tracing.specs.Walk.{StandsAt}
use Rattle.sd_cover_tracing.proofs.Levels.{below_by_halvings, below_either, below_one, in_tree_from, in_tree_to}
use Rattle.sd_cover_tracing.proofs.Lists.{counted_some, counted_either, member_first, member_later}
use Rattle.sd_cover_tracing.specs.Index.{count_below}

-- a count above 0 is of some member
some_counted : (q : ℕ → Bool) (xs : List ℕ) → 0 < count_by q xs → (u : ℕ) × Contains xs u × (q u ≡ true)
some_counted q [] h = absurd (omega arith)
some_counted q (x ∷ xs) h = elim (cases_Bool (q x)) [
  | inl yes' ↦ (x, member_first x xs, yes')
  | inr no' ↦
      let step = sum_by-cons (λ w. cond (q w) 1 0) x xs in
      let none = cond-false {A = ℕ} (q x) 1 0 no' in
      let rest = some_counted q xs (omega arith) in
      (rest.0, member_later x xs rest.0 rest.1, rest.2)
]

-- the count is above 0 exactly where the node is in the tree
pub counts_in_tree : (d level v : ℕ) (revoked : List ℕ) → d < 32 → AreLeaves d revoked → StandsAt d level v →
    (0 < count_below d revoked v) ↔ IsInTree d revoked v
unfolding count_below
counts_in_tree d level v revoked small leaves at = (
  λ h.
      let some = some_counted (is_below d v) revoked h in
      in_tree_from d level v some.0 revoked at some.1
      (eqb-true (node_at d level some.0) v (sym (below_by_halvings d level v some.0 small at) ∙ some.2)),
  λ t.
      let to = in_tree_to d level v revoked leaves at t in
      counted_some (is_below d v) revoked to.0 to.1 (below_by_halvings d level v to.0 small at ∙
      eq-eqb (node_at d level to.0) v to.2),
)

-- a node above the leaves counts as its children do together
pub count_children : (d level v : ℕ) (revoked : List ℕ) → d < 32 → StandsAt d (suc level) v → count_below d revoked v
    ≡ count_below d revoked (2 * v) + count_below d revoked (2 * v + 1)
unfolding count_below
count_children d level v revoked small at = counted_either (is_below d v) (is_below d (2 * v)) (is_below d (2 * v + 1))
    revoked (λ u. below_either d level v u small at) (λ u. below_one d level v u small at)

-- a node that stands so is one of the tree
pub stands_low : (d level v : ℕ) → StandsAt d level v → 1 ≤ v
stands_low d level v at = let some = pow_pos (d - level) in let low = at.at.low in omega arith

pub stands_high : (d level v : ℕ) → StandsAt d level v → v < 2 ^ (d + 1)
stands_high d level v at =
    let high = at.at.high in
    let within = at.within in
    let up = pow_mono {i = d - level + 1} {j = d + 1} (omega arith) in
    omega arith
