-- The path from a leaf's node up to the root.
use Rattle.std.proofs.Common.{◌≡◌, ◌≢◌, ◌∙◌, ℕ, zero, suc, ◌+◌, ◌-◌, ◌/◌, ◌^◌, ◌<◌, ◌≤◌, ◌==◌, nat_lt, lt-ltb, le-ltb}
use Rattle.std.proofs.Common.{if◌then◌else◌, cond, Bool, true, false, eq-eqb, ne_eqb, arith, sym, ap, subst, refl, inl}
use Rattle.std.proofs.Common.{inr}
use Rattle.std.specs.Ordering.{nat_cmp}
use Rattle.std.specs.FinMap.{FinMap, get}
use Rattle.std.specs.Option.{unwrap_or}
use Rattle.std.proofs.lemmas.Bool.Decides.{eqb_tells, nat_tests}
use Rattle.std.proofs.lemmas.Bool.{cases_lt, cond-true, cond-false}
use Rattle.std.proofs.lemmas.Nat.{pow_pos}
use Rattle.std.proofs.Math.Pow.{pow_mono}
use Rattle.sd_tree_keys.specs.Leaves.{is_below}
use Rattle.sd_tree_keys.proofs.Ancestors.{node_level}
use Rattle.sd_tree_keys.proofs.Levels.{IsAtLevel, same_level, halved_level}
use Rattle.sd_cover_tracing.specs.Walk.{node_at}
use Rattle.sd_cover_tracing.specs.Walk.{StandsAt}
use Rattle.sd_cover_tracing.proofs.Levels.{node_stands, below_by_halvings}
use Rattle.sd_cover_tracing.specs.Tally.{tally_at, with_count}
use Rattle.sd_cover_tracing.specs.Path.{path_visit_count}
use Rattle.sd_cover_tracing.proofs.Tables.{counted, get_with_count, count_counted}

-- the count that was written, and the others as before
pub count_written : (m : FinMap nat_cmp ℕ) (v n q : ℕ) → tally_at (with_count m v n) q
    ≡ (if q == v then n else tally_at m q)
count_written m v n q = ap (λ o. unwrap_or o 0) (get_with_count m v n q) ∙ elim (q == v) as
    (λ b. unwrap_or (cond b (counted n) (get m q)) 0 ≡ (if b then n else tally_at m q)) [
      | true ↦ count_counted n
      | false ↦ refl
    ]

-- a node is met at most as often as there are nodes
pub met_at_most : (node k v : ℕ) → path_visit_count node k v ≤ k
met_at_most node zero v = omega arith
met_at_most node (suc k) v = let rest = met_at_most node k v in elim (node / 2 ^ k == v) as
    (λ b. path_visit_count node k v + (if b then 1 else 0) ≤ suc k) [
      | true ↦ omega arith
      | false ↦ omega arith
    ]

-- a raise of the next node of the path
pub raised_further : (m : FinMap nat_cmp ℕ) (node k old q : ℕ) → tally_at m q ≡ old + path_visit_count node k q →
    tally_at (with_count m (node / 2 ^ k) (tally_at m (node / 2 ^ k) + 1)) q ≡ old + path_visit_count node (suc k) q
raised_further m node k old q is = count_written m (node / 2 ^ k) (tally_at m (node / 2 ^ k) + 1) q ∙
    elim (eqb_tells q (node / 2 ^ k)) [
      | inl same ↦
          let e = eq-eqb (node / 2 ^ k) q (sym same.1) in
          rw (same.0, e) (let s = ap (tally_at m) same.1 in omega arith)
      | inr other ↦
          let e = ne_eqb (node / 2 ^ k) q (λ s. other.1 (sym s)) in
          rw (other.0, e) (omega arith)
    ]

-- a lowering of the next node of the path
pub lowered_further : (m : FinMap nat_cmp ℕ) (node k old q : ℕ) → 0 < tally_at m (node / 2 ^ k) →
    tally_at m q + path_visit_count node k q ≡ old → tally_at (with_count m (node / 2 ^ k)
    (tally_at m (node / 2 ^ k) - 1)) q
    + path_visit_count node (suc k) q ≡ old
lowered_further m node k old q some is =
    let written = count_written m (node / 2 ^ k) (tally_at m (node / 2 ^ k) - 1) q in
    elim (eqb_tells q (node / 2 ^ k)) [
      | inl same ↦
          let e = eq-eqb (node / 2 ^ k) q (sym same.1) in
          let w = rw same.0 at written in
          rw e (let s = ap (tally_at m) same.1 in omega arith)
      | inr other ↦
          let e = ne_eqb (node / 2 ^ k) q (λ s. other.1 (sym s)) in
          let w = rw other.0 at written in
          rw e (omega arith)
    ]

-- the same as a loop has it
pub raised_next : (m : FinMap nat_cmp ℕ) (node k old q : ℕ) → tally_at m q ≡ old + path_visit_count node k q →
    tally_at (with_count m (node / 2 ^ k) (tally_at m (node / 2 ^ k) + 1)) q ≡ old + path_visit_count node (k + 1) q
raised_next m node k old q is =
    let e : k + 1 ≡ suc k = omega arith in
    rw e (raised_further m node k old q is)

pub lowered_next : (m : FinMap nat_cmp ℕ) (node k old q : ℕ) → 0 < tally_at m (node / 2 ^ k) →
    tally_at m q + path_visit_count node k q ≡ old → tally_at (with_count m (node / 2 ^ k)
    (tally_at m (node / 2 ^ k) - 1)) q
    + path_visit_count node (k + 1) q ≡ old
lowered_next m node k old q some is =
    let e : k + 1 ≡ suc k = omega arith in
    rw e (lowered_further m node k old q some is)

-- the further the path, the more of its nodes are v
pub met_more : (node j k v : ℕ) → path_visit_count node k v ≤ path_visit_count node (j + k) v
met_more node zero k v = let e : 0 + k ≡ k = omega arith in subst (λ (n : ℕ). path_visit_count node k v
    ≤ path_visit_count node n v) (sym e)
    (omega arith)
met_more node (suc j) k v =
    let e : suc j + k ≡ suc (j + k) = omega arith in
    let rest = met_more node j k v in
    subst (λ (n : ℕ). path_visit_count node k v ≤ path_visit_count node n v) (sym e) (omega arith)

-- the next node of the path is met once more
pub met_once : (node k n : ℕ) → suc k ≤ n → path_visit_count node k (node / 2 ^ k) + 1 ≤ path_visit_count node n
    (node / 2 ^ k)
met_once node k n h =
    let e : n - suc k + suc k ≡ n = omega arith in
    let more = subst (λ (m : ℕ). path_visit_count node (suc k) (node / 2 ^ k) ≤ path_visit_count node m (node / 2 ^ k))
    e
    (met_more node (n - suc k) (suc k) (node / 2 ^ k)) in
    let same = eq-eqb (node / 2 ^ k) (node / 2 ^ k) refl in
    let step : path_visit_count node (suc k) (node / 2 ^ k) ≡ path_visit_count node k (node / 2 ^ k) + 1 =
    rw same refl in
    omega arith

-- each node of the path from one of the lowest is one of the tree
pub path_low : (d node k : ℕ) → 2 ^ d ≤ node → node < 2 ^ (d + 1) → k ≤ d → 1 ≤ node / 2 ^ k
path_low d node k low high h =
    let at = halved_level node d k h (record { low = low; high = high }) in
    let some = pow_pos (d - k) in
    let least = at.low in
    omega arith

pub path_high : (d node k : ℕ) → 2 ^ d ≤ node → node < 2 ^ (d + 1) → k ≤ d → node / 2 ^ k < 2 ^ (d + 1)
path_high d node k low high h =
    let at = halved_level node d k h (record { low = low; high = high }) in
    let most = at.high in
    let up = pow_mono {i = d - k + 1} {j = d + 1} (omega arith) in
    omega arith

-- each node of the tree stands a number of steps above the leaves
pub stands_in : (d v : ℕ) → 1 ≤ v → v < 2 ^ (d + 1) → (level : ℕ) × StandsAt d level v
stands_in d v low high =
    let at = node_level v low in
    let within : at.0 ≤ d = elim (cases_lt d at.0) [
      | inl h ↦ absurd (omega (arith, pow_mono {i = d + 1} {j = at.0} (omega arith), at.1.low))
      | inr h ↦ h
    ] in
    let e : at.0 ≡ d - (d - at.0) = omega arith in
    (d - at.0, record { within = omega arith; at = subst (λ (k : ℕ). IsAtLevel v k) e at.1 })

-- a node that stands a number of steps above the leaves is met after that many halvings or not at all
met_at : (d u level v k : ℕ) → StandsAt d level v → u < 2 ^ d → k ≤ d + 1 → path_visit_count (2 ^ d + u) k v
    ≡ (if nat_lt level k then (if node_at d level u == v then 1 else 0) else 0)
met_at d u level v zero at lt h = sym (cond-false {A = ℕ} (nat_lt level 0) (if node_at d level u == v then 1 else 0) 0
    (le-ltb level 0 (omega arith)))
met_at d u level v (suc k) at lt h =
    let before = met_at d u level v k at lt (omega arith) in
    let hit : ℕ = if node_at d level u == v then 1 else 0 in
    elim (eqb_tells k level) [
      | inl same ↦
          let none = before ∙ cond-false {A = ℕ} (nat_lt level k) hit 0
          (le-ltb level k (let e = same.1 in omega arith)) in
          let here : (if node_at d k u == v then 1 else 0) ≡ hit = ap
          (λ (n : ℕ). let one : ℕ = if node_at d n u == v then 1 else 0 in one) same.1 in
          let there = cond-true {A = ℕ} (nat_lt level (suc k)) hit 0
          (lt-ltb level (suc k) (let e = same.1 in omega arith)) in
          omega arith
      | inr other ↦
          let apart : node_at d k u ≢ v = λ is. other.1 (
          let stands = node_stands d k u (omega arith) lt in
          let within = at.within in
          let levels = same_level v (d - k) (d - level) (subst (λ (x : ℕ). IsAtLevel x (d - k)) is stands.at) at.at in
          omega arith) in
          let none = cond-false {A = ℕ} (node_at d k u == v) 1 0 (ne_eqb (node_at d k u) v apart) in
          let later : nat_lt level (suc k) ≡ nat_lt level k = grind (arith, nat_tests, other.1) in
          rw later (omega arith)
    ]

-- where a leaf is below a node its path meets the node once, and else not
pub met_is_below : (d u v : ℕ) → d < 32 → u < 2 ^ d → 1 ≤ v → v < 2 ^ (d + 1) → path_visit_count (2 ^ d + u) (d + 1) v
    ≡ (if is_below d v u then 1 else 0)
met_is_below d u v small lt low high =
    let level = stands_in d v low high in
    let some = met_at d u level.0 v (d + 1) level.1 lt (omega arith) in
    let within = level.1.within in
    let all = cond-true {A = ℕ} (nat_lt level.0 (d + 1)) (if node_at d level.0 u == v then 1 else 0) 0
    (lt-ltb level.0 (d + 1) (omega arith)) in
    some ∙ (all ∙ ap (λ (b : Bool). let one : ℕ = if b then 1 else 0 in one)
    (sym (below_by_halvings d level.0 v u small level.1)))
