-- The leaves of a set, and how many they are.
use Rattle.std.proofs.Common.{ℕ, ◌+◌, ◌-◌, ◌*◌, ◌^◌, ◌<◌, ◌≤◌, ◌≡◌, Bool, true, false, not, ◌&&◌, cond, ltb, length}
use Rattle.std.proofs.Common.{sym, refl, ◌∙◌, ⊎_elim, arith}
use Rattle.std.specs.Prelude.{◌↔◌, All}
use Rattle.std.specs.List.{filter}
use Rattle.std.specs.List.Sorted.{IsStrictlyIncreasing}
use Rattle.std.proofs.lemmas.List.Elements.{All-from_get_or}
use Rattle.std.proofs.lemmas.List.FromFn.{length-range_with_len, get_or-range_with_len}
use Rattle.std.proofs.lemmas.List.Sums.{length-filter}
use Rattle.std.proofs.lemmas.Bool.{false≢true, and_parts, and_from, not-true, not_from_false, cases_Bool, lt-ltb}
use Rattle.std.proofs.lemmas.Bool.{le-ltb, ltb-true, false_from_ne_true}
use Rattle.std.proofs.lemmas.Bool.Decides.{same_from_decides}
use Rattle.sd_tree_keys.specs.declared.set.SetName.{SetName}
use Rattle.sd_tree_keys.specs.declared.set.SetName.TheVariants.{Whole, Diff}
use Rattle.sd_tree_keys.specs.Node.{depth, IsAbove}
use Rattle.sd_tree_keys.specs.Leaves.{leaves, is_below, is_member, members}
use Rattle.sd_tree_keys.specs.SetNames.{IsPair}
use Rattle.sd_base.proofs.Arithmetic.{times_next}
use Rattle.sd_tree_keys.proofs.Counting.{count_interval, count_split}
use Rattle.sd_tree_keys.proofs.Ancestors.{above_le, below_is_above, within_from_below, below_from_within}
use Rattle.sd_tree_keys.proofs.Ancestors.{interval_within}
use Rattle.sd_tree_keys.proofs.Ancestors.{leaves_from_above}

-- the lower node of a pair is a node of the tree
pub lower_is_node : {d i j : ℕ} → IsPair d i j → 1 ≤ j
lower_is_node {d} {i} {j} p = let le = above_le i j p.above.0 in omega (arith, p.inner.0)

-- the upper node of a pair is a node of the tree
pub upper_is_node : {d i j : ℕ} → IsPair d i j → i < 2 ^ (d + 1)
upper_is_node {d} {i} {j} p = let le = above_le i j p.above.0 in omega (arith, p.node)

-- a test for a node above a leaf's node is the test for the leaf below the node
below_by_test : (d v u : ℕ) (b : Bool) → d ≤ 20 → 1 ≤ v → v < 2 ^ (d + 1) → u < 2 ^ d
    → ((b ≡ true) ↔ IsAbove v (2 ^ d + u)) → is_below d v u ≡ b
below_by_test d v u b h low high leaf test =
    same_from_decides (is_below d v u) b (below_is_above d v u h low high leaf) test

-- membership by tests for the two nodes
pub member_by_tests : (d i j u node : ℕ) (a b : Bool) → d ≤ 20 → IsPair d i j → u < 2 ^ d → node ≡ 2 ^ d + u
    → ((a ≡ true) ↔ IsAbove i node) → ((b ≡ true) ↔ IsAbove j node) → (a && not b) ≡ is_member d (Diff i j) u
member_by_tests d i j u node a b h pair leaf is upper lower =
    let in_i = below_by_test d i u a h pair.inner.0 (upper_is_node pair) leaf (rw is at upper) in
    let in_j = below_by_test d j u b h (lower_is_node pair) pair.node leaf (rw is at lower) in
    rw (lt-ltb u (2 ^ d) leaf, in_i, in_j) refl

-- a leaf that isn't below i isn't in S(i,j)
pub no_member_beside : (d i j u node : ℕ) (a : Bool) → d ≤ 20 → IsPair d i j → u < 2 ^ d → node ≡ 2 ^ d + u
    → ((a ≡ true) ↔ IsAbove i node) → a ≡ false → false ≡ is_member d (Diff i j) u
no_member_beside d i j u node a h pair leaf is upper e =
    let in_i = below_by_test d i u a h pair.inner.0 (upper_is_node pair) leaf (rw is at upper) in
    rw (lt-ltb u (2 ^ d) leaf, in_i, e) refl

-- the leaves of S(i,j) are those below i that aren't below j
pub member_of_pair : (d i j u : ℕ) → d ≤ 20 → IsPair d i j → u < 2 ^ d → (is_member d (Diff i j) u ≡ true)
    ↔ (IsAbove i (2 ^ d + u) × ¬ IsAbove j (2 ^ d + u))
member_of_pair d i j u h pair leaf =
    let in_i = below_is_above d i u h pair.inner.0 (upper_is_node pair) leaf in
    let in_j = below_is_above d j u h (lower_is_node pair) pair.node leaf in
    rw (lt-ltb u (2 ^ d) leaf) (
      (λ e. let both =
          and_parts (is_below d i u) (not (is_below d j u)) e in
          (in_i.0 both.0, λ p. false≢true (sym (not-true _ both.1) ∙ in_j.1 p))),
      λ p. and_from (is_below d i u) (not (is_below d j u)) (in_i.1 p.0)
          (not_from_false _ (false_from_ne_true _ (λ e. p.1 (in_j.0 e)))),
    )

-- below a node k levels above the leaves are 2^k leaves
pub count_below : (d v : ℕ) → d ≤ 20 → 1 ≤ v → v < 2 ^ (d + 1)
    → length (filter (is_below d v) (leaves d)) ≡ 2 ^ (d - depth v)
count_below d v h low high =
    let e : ℕ = d - depth v in
    let all = interval_within d v h low high in
    let more : (v + 1) * 2 ^ e ≡ v * 2 ^ e + 2 ^ e = times_next v (2 ^ e) in
    let first : 2 ^ d ≤ v * 2 ^ e = all.0 in
    let last : (v + 1) * 2 ^ e ≤ 2 ^ d + 2 ^ d = all.1 in
    length-filter (is_below d v) (leaves d) ∙
    (count_interval (is_below d v) (v * 2 ^ e - 2 ^ d) ((v + 1) * 2 ^ e - 2 ^ d) 0 (2 ^ d) (omega arith)
    (λ u from to. below_from_within d v u (omega arith) (omega arith))
    (λ u before. false_from_ne_true _ (λ below. let w = within_from_below d v u below in omega (arith, w.0)))
    (λ u after. false_from_ne_true _ (λ below. let w = within_from_below d v u below in omega (arith, w.1)))
    ∙ omega arith)

-- the whole set has all leaves
pub count_whole : (d : ℕ) → length (members d Whole) ≡ 2 ^ d
count_whole d =
    length-filter (is_member d Whole) (leaves d) ∙
    (count_interval (λ u. ltb u (2 ^ d)) 0 (2 ^ d) 0 (2 ^ d) (omega arith)
    (λ u _ to. lt-ltb u (2 ^ d) to) (λ u before. absurd (omega arith)) (λ u after. le-ltb u (2 ^ d) after)
    ∙ omega arith)

bool_of_and : (b : Bool) → cond b 1 0 ≡ 0 + cond (b && true) 1 0
bool_of_and true = refl
bool_of_and false = refl

-- S(i,j) and the leaves below j are the leaves below i
pub count_pair : (d i j : ℕ) → d ≤ 20 → IsPair d i j
    → length (filter (is_below d i) (leaves d))
    ≡ length (filter (is_below d j) (leaves d)) + length (members d (Diff i j))
count_pair d i j h pair =
    let split = count_split (is_below d i) (is_below d j) (is_member d (Diff i j)) 0 (2 ^ d)
    (λ u near. let leaf : u < 2 ^ d = omega arith in ⊎_elim
    (λ (below : is_below d j u ≡ true).
    let above = leaves_from_above d i j h pair.inner.0 (upper_is_node pair) pair.above.0 u leaf below in
    rw (lt-ltb u (2 ^ d) leaf, below, above) refl)
    (λ (beside : is_below d j u ≡ false).
    rw (lt-ltb u (2 ^ d) leaf, beside) (bool_of_and (is_below d i u)))
    (cases_Bool (is_below d j u))) in
    omega (
      arith,
      split,
      length-filter (is_below d i) (leaves d),
      length-filter (is_below d j) (leaves d),
      length-filter (is_member d (Diff i j)) (leaves d),
    )

-- each leaf of a tree of height d is below 2^d
pub leaves_below : (d : ℕ) → All (λ u. u < 2 ^ d) (leaves d)
leaves_below d = All-from_get_or (λ u. u < 2 ^ d) (leaves d) 0
    (λ i h. omega (
      arith,
      length-range_with_len 0 (2 ^ d),
      get_or-range_with_len 0 (2 ^ d) i 0
          (omega (arith, length-range_with_len 0 (2 ^ d))),
    ))

-- the leaves of a tree are ascending
pub leaves_ascending : (d : ℕ) → IsStrictlyIncreasing (leaves d)
leaves_ascending d = λ k h. omega (
  arith,
  length-range_with_len 0 (2 ^ d),
  get_or-range_with_len 0 (2 ^ d) k 0
      (omega (arith, length-range_with_len 0 (2 ^ d))),
  get_or-range_with_len 0 (2 ^ d) (k + 1) 0
      (omega (arith, length-range_with_len 0 (2 ^ d))),
)

-- a leaf of a set is a leaf of the tree
pub member_within : (d : ℕ) (name : SetName) (u : ℕ) → is_member d name u ≡ true → u < 2 ^ d
member_within d Whole u is = ltb-true u (2 ^ d) is
member_within d (Diff i j) u is = ltb-true u (2 ^ d) (and_parts _ _ is).0
