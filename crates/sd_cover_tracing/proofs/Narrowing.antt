-- How a set is cut down to a leaf.
use Rattle.std.proofs.Common.{ℕ, ◌+◌, ◌-◌, ◌*◌, ◌/◌, ◌^◌, ◌<◌, ◌≤◌, ◌≡◌, ◌≢◌, ◌==◌, Bool, true, false, refl, sym, subst}
use Rattle.std.proofs.Common.{◌∙◌, ⊎_elim, inl, inr, suc, pow_mono, cond, not, ◌&&◌, ◌||◌, arith}
use Rattle.std.specs.Prelude.{◌⊎◌, Option, Some, None, nat_lt, if◌then◌else◌}
use Rattle.std.proofs.lemmas.Bool.Decides.{eqb_tells}
use Rattle.std.proofs.lemmas.Bool.{eq-eqb, ltb-true, cases_lt}
use Rattle.sd_cover_tracing.proofs.TraceCuts.{cuts_within}
use Rattle.sd_tree_keys.specs.Node.{depth, IsAbove}
use Rattle.sd_tree_keys.specs.Leaves.{is_member, is_below}
use Rattle.sd_tree_keys.specs.SetNames.{IsPair, IsOfHeight}
use Rattle.sd_tree_keys.specs.declared.set.SetName.{SetName}
use Rattle.sd_tree_keys.specs.declared.set.SetName.TheVariants.{Whole, Diff}
use Rattle.sd_tree_keys.proofs.Levels.{IsAtLevel, doubled, halved_level, depth_at}
use Rattle.sd_tree_keys.proofs.Ancestors.{depth_within, leaves_from_above, properly_above_by_levels, above_left}
use Rattle.sd_tree_keys.proofs.Ancestors.{above_right}
use Rattle.sd_tree_keys.proofs.Members.{lower_is_node, upper_is_node}
use Rattle.sd_tree_keys.specs.Paths.{sibling_of}
use Rattle.sd_cover_tracing.proofs.Ends.{sibling_cases}
use Rattle.sd_cover_tracing.specs.Walk.{StandsAt}
use Rattle.sd_cover_tracing.proofs.Levels.{below_either, below_one}
use Rattle.sd_cover_tracing.proofs.Ancestry.{below_root}
use Rattle.sd_cover_tracing.specs.Halves.{child_to, halves_of, halves_below, cuts_left, AreHalves, IfHalves}

-- the child towards the lower node is a node between, one level below the upper, and a child
pub record IsChildTo (d i j c : ℕ) : Type 0 where
  pub parent : c / 2 ≡ i
  pub level : depth c ≡ depth i + 1
  pub below : depth i < depth j
  pub node : (1 ≤ c) × (c < 2 ^ (d + 1))
  pub above : IsAbove c j

pub child_is : (d i j : ℕ) → d ≤ 20 → IsPair d i j → IsChildTo d i j (child_to i j)
unfolding child_to
child_is d i j low pair =
    let at_j = depth_within d j low (lower_is_node pair) pair.node in
    let at_i = depth_within d i low pair.inner.0 (upper_is_node pair) in
    let by = properly_above_by_levels i j (depth i) (depth j) at_i.0 at_j.0 pair.above in
    let s : ℕ = depth j - depth i - 1 in
    let half = halved_level j (depth j) s (omega arith) at_j.0 in
    let e : depth j - s ≡ depth i + 1 = omega arith in
    let level : depth (j / 2 ^ s) ≡ depth i + 1 = depth_at (j / 2 ^ s) (depth j - s) (omega arith) half ∙ e in
    record {
      parent = by.1;
      level = level;
      below = by.0;
      node = (
        omega (arith, by.1, pair.inner.0),
        omega (
          arith,
          half.high,
          pow_mono {i = depth j - s + 1} {j = d + 1}
              (omega arith),
        ),
      );
      above = (s, refl);
    }

-- the other child of a node that isn't the root
pub sibling_is : (i j : ℕ) → 1 ≤ i → j / 2 ≡ i → (sibling_of j / 2 ≡ i) × (sibling_of j ≢ j)
sibling_is i j low half = elim (sibling_cases j) [
  | inl (m, even, other) ↦ (omega arith, λ e. omega arith)
  | inr (m, odd, other) ↦ (omega arith, λ e. omega arith)
]

-- the two sets below a node that is no leaf's are of the height
pair_below : (d x c : ℕ) → 1 ≤ x → x < 2 ^ d → (c ≡ 2 * x) ⊎ (c ≡ 2 * x + 1) → IsPair d x c
pair_below d x c some inner (inl e) = record {
  inner = (some, inner);
  node = omega (arith, doubled d);
  above =
      (subst (IsAbove x) (sym e) (above_left x), λ g. omega arith);
}
pair_below d x c some inner (inr e) = record {
  inner = (some, inner);
  node = omega (arith, doubled d);
  above =
      (subst (IsAbove x) (sym e) (above_right x), λ g. omega arith);
}

-- a set whose lower node is a child of the upper can be cut so often
cuts_of_child : (d i j : ℕ) → j / 2 ≡ i → cuts_left d (Diff i j) ≡ d - depth i - 1
unfolding cuts_left
cuts_of_child d i j e = rw (eq-eqb (j / 2) i e) refl

-- another as often as the upper node is above the leaves
cuts_further : (d i j : ℕ) → (j / 2 == i) ≡ false → cuts_left d (Diff i j) ≡ d - depth i
unfolding cuts_left
cuts_further d i j e = rw e refl

-- the two sets below a node one level below the upper node
below_by : (d i j x : ℕ) → d ≤ 20 → IsPair d i j → j / 2 ≡ i → x / 2 ≡ i → (b : Bool) → nat_lt x (2 ^ d) ≡ b →
    IfHalves d (Diff i j) (if b then Some (Diff x (2 * x), Diff x (2 * x + 1)) else None)
below_by d i j x low pair half other false e = tt
below_by d i j x low pair half other true e =
    let inner = ltb-true x (2 ^ d) e in
    let some : 1 ≤ x = omega (arith, pair.inner.0) in
    let at_i = depth_within d i low pair.inner.0 (upper_is_node pair) in
    let at_x = depth_within d x low some (omega (arith, doubled d)) in
    let k : ℕ = depth i in
    let here : IsAtLevel x (k + 1) = record {
      low = omega (arith, doubled k, at_i.0.low);
      high = omega
          (arith, doubled (k + 1), at_i.0.high);
    } in
    let level : depth x ≡ k + 1 = depth_at x (k + 1) (omega arith) here in
    let within : depth x < d = ⊎_elim (λ (h : depth x < d). h)
    (λ (h : d ≤ depth x). absurd (omega (arith, pow_mono {i = d} {j = depth x} h, at_x.0.low)))
    (cases_lt (depth x) d) in
    let whole = cuts_of_child d i j half in
    let first = cuts_of_child d x (2 * x) (omega arith) in
    let second = cuts_of_child d x (2 * x + 1) (omega arith) in
    record {
      left_height = pair_below d x (2 * x) some inner (inl refl);
      right_height = pair_below d x (2 * x + 1) some inner (inr refl);
      left_fewer = omega arith;
      right_fewer = omega arith;
    }

-- the two sets of a set whose lower node is further down
between_halves : (d i j : ℕ) → d ≤ 20 → IsPair d i j → j / 2 ≢ i → (j / 2 == i) ≡ false → AreHalves d (Diff i j)
    (Diff i (child_to i j)) (Diff (child_to i j) j)
between_halves d i j low pair apart e =
    let c : ℕ = child_to i j in
    let child = child_is d i j low pair in
    let other : c ≢ j = λ g. apart (subst (λ (n : ℕ). n / 2 ≡ i) g child.parent) in
    let at_j = depth_within d j low (lower_is_node pair) pair.node in
    let at_c = depth_within d c low child.node.0 child.node.1 in
    let by = properly_above_by_levels c j (depth c) (depth j) at_c.0 at_j.0 (child.above, other) in
    let inner : c < 2 ^ d = omega (arith, at_c.0.high, pow_mono {i = depth c + 1} {j = d} (omega arith)) in
    let half = child.parent in
    let level = child.level in
    let some = pair.inner.0 in
    let whole : cuts_left d (Diff i j) ≡ d - depth i = further e in
    let first = cuts_of_child d i c half in
    let second = cuts_within d c j in
    record {
      left_height = record { inner = pair.inner; node = child.node.1; above = ((1, half), λ g. omega arith) };
      right_height = record { inner = (child.node.0, inner); node = pair.node; above = (child.above, other) };
      left_fewer = omega arith;
      right_fewer = omega arith;
    }
  where
    further : (j / 2 == i) ≡ false → cuts_left d (Diff i j) ≡ d - depth i
    further g = cuts_further d i j g

-- the halves of a pair
pair_halves_by : (d i j : ℕ) → d ≤ 20 → IsPair d i j → ((j / 2 == i) ≡ true) × (j / 2 ≡ i) ⊎ ((j / 2 == i) ≡ false)
    × (j / 2 ≢ i) → IfHalves d (Diff i j) (halves_of d (Diff i j))
unfolding halves_of halves_below
pair_halves_by d i j low pair (inl (e, half)) =
    let x = sibling_is i j pair.inner.0 half in
    rw e (below_by d i j (sibling_of j) low pair half x.0 (nat_lt (sibling_of j) (2 ^ d)) refl)
pair_halves_by d i j low pair (inr (e, apart)) = rw e (between_halves d i j low pair apart e)

-- the halves of a set of the height are of the height, and can be cut less often
pub set_halves : (d : ℕ) (name : SetName) → 1 ≤ d → d ≤ 20 → IsOfHeight d name → IfHalves d name (halves_of d name)
unfolding halves_of cuts_left
set_halves d Whole some low h =
    let two : 2 ≤ 2 ^ d = omega (arith, pow_mono {i = 1} {j = d} some) in
    record {
      left_height = pair_below d 1 2 (omega arith) (omega arith) (inl refl);
      right_height = pair_below d 1 3 (omega arith) (omega arith) (inr refl);
      left_fewer = rw (depth_at 1 0 (omega arith) (record { low = omega arith; high = omega arith })) (omega arith);
      right_fewer = rw (depth_at 1 0 (omega arith) (record { low = omega arith; high = omega arith })) (omega arith);
    }
set_halves d (Diff i j) some low pair = pair_halves_by d i j low pair (eqb_tells (j / 2) i)

-- below one node but not below another is below the one and not below a third between them, or below the third and not
-- below the other
between_sum : (t b c e : Bool) → (c ≡ true → b ≡ true) → (e ≡ true → c ≡ true) → cond (t && (b && not c)) 1 0
    + cond (t && (c && not e)) 1 0 ≡ cond (t && (b && not e)) 1 0
between_sum false b c e up down = refl
between_sum true true true true up down = refl
between_sum true true true false up down = refl
between_sum true true false true up down = let no = down refl in absurd (cc)
between_sum true true false false up down = refl
between_sum true false true e up down = let no = up refl in absurd (cc)
between_sum true false false true up down = refl
between_sum true false false false up down = refl

-- the upper node of a pair has the leaves of the lower
pair_leaves : (d i j u : ℕ) → d ≤ 20 → IsPair d i j → u < 2 ^ d → is_below d j u ≡ true → is_below d i u ≡ true
pair_leaves d i j u low pair leaf = leaves_from_above d i j low pair.inner.0 (upper_is_node pair) pair.above.0 u leaf

-- a set that is cut at a node between holds each leaf as often as the two parts
pub cut_counted : (d i k j u : ℕ) → d ≤ 20 → IsPair d i k → IsPair d k j → u < 2 ^ d →
    cond {A = ℕ} (is_member d (Diff i k) u) 1 0 + cond (is_member d (Diff k j) u) 1 0 ≡ cond (is_member d (Diff i j) u)
    1 0
cut_counted d i k j u low upper lower leaf =
    between_sum (nat_lt u (2 ^ d)) (is_below d i u) (is_below d k u) (is_below d j u)
    (pair_leaves d i k u low upper leaf) (pair_leaves d k j u low lower leaf)

-- what is below a node is below one of its children: so the two sets below it, each without one child, hold it once
two_sum : (t b p q : Bool) → b ≡ (p || q) → (p && q) ≡ false → cond {A = ℕ} (t && (b && not p)) 1 0
    + cond (t && (b && not q)) 1 0 ≡ cond (t && b) 1 0
two_sum false b p q e n = refl
two_sum true b true true e n = absurd (cc)
two_sum true b true false e n = rw e refl
two_sum true b false true e n = rw e refl
two_sum true b false false e n = rw e refl

-- below a node and not below one child is below the other
other_side : (t b c x : Bool) → b ≡ (c || x) → (c && x) ≡ false → cond {A = ℕ} (t && x) 1 0 ≡ cond (t && (b && not c)) 1
    0
other_side false b c x e n = refl
other_side true b true true e n = absurd (cc)
other_side true b true false e n = rw e refl
other_side true b false true e n = rw e refl
other_side true b false false e n = rw e refl

-- an inner node stands above the leaves
stands : (d x : ℕ) → d ≤ 20 → 1 ≤ x → x < 2 ^ d → StandsAt d (suc (d - depth x - 1)) x
stands d x low some inner =
    let at = depth_within d x low some (omega (arith, doubled d)) in
    let within : depth x < d = ⊎_elim (λ (h : depth x < d). h)
    (λ (h : d ≤ depth x). absurd (omega (arith, pow_mono {i = d} {j = depth x} h, at.0.low))) (cases_lt (depth x) d)
    in
    let e : depth x ≡ d - suc (d - depth x - 1) = omega arith in
    record { within = omega arith; at = subst (IsAtLevel x) e at.0 }

-- what is below a node is below one child
children : (d x u : ℕ) → d ≤ 20 → 1 ≤ x → x < 2 ^ d →
    (is_below d x u ≡ (is_below d (2 * x) u || is_below d (2 * x + 1) u))
    × ((is_below d (2 * x) u && is_below d (2 * x + 1) u) ≡ false)
children d x u low some inner =
    let at = stands d x low some inner in
    (below_either d (d - depth x - 1) x u (omega arith) at, below_one d (d - depth x - 1) x u (omega arith) at)

-- the two orders
swapped : (b p q : Bool) → (b ≡ (p || q)) × ((p && q) ≡ false) → (b ≡ (q || p)) × ((q && p) ≡ false)
swapped b true true (e, n) = absurd (cc)
swapped b true false (e, n) = (e, refl)
swapped b false true (e, n) = (e, refl)
swapped b false false (e, n) = (e, refl)

-- a node and its sibling below their parent
pub siblings : (d i j u : ℕ) → d ≤ 20 → IsPair d i j → j / 2 ≡ i →
    (is_below d i u ≡ (is_below d j u || is_below d (sibling_of j) u))
    × ((is_below d j u && is_below d (sibling_of j) u) ≡ false)
siblings d i j u low pair half =
    let both = children d i u low pair.inner.0 pair.inner.1 in
    elim (sibling_cases j) [
      | inl (m, even, other) ↦ let a : j ≡ 2 * i = omega arith in let b : sibling_of j ≡ 2 * i + 1 = omega arith in rw
          (b, a) both
      | inr (m, odd, other) ↦ let a : j ≡ 2 * i + 1 = omega arith in let b : sibling_of j ≡ 2 * i = omega arith in rw
          (b, a) (swapped (is_below d i u) (is_below d (2 * i) u) (is_below d (2 * i + 1) u) both)
    ]

-- two sets that hold each leaf as often as a set
abbrev pub IfCounted : ℕ → ℕ → SetName → Option (SetName × SetName) → Type 0
IfCounted d u name None = Unit {0}
IfCounted d u name (Some halves) = cond {A = ℕ} (is_member d halves.0 u) 1 0 + cond (is_member d halves.1 u) 1 0
    ≡ cond (is_member d name u) 1 0

counted_below_by : (d i j u : ℕ) → d ≤ 20 → IsPair d i j → j / 2 ≡ i → (b : Bool) → nat_lt (sibling_of j) (2 ^ d) ≡ b →
    IfCounted d u (Diff i j)
    (if b then Some (Diff (sibling_of j) (2 * sibling_of j), Diff (sibling_of j) (2 * sibling_of j + 1)) else None)
counted_below_by d i j u low pair half false e = tt
counted_below_by d i j u low pair half true e =
    let x : ℕ = sibling_of j in
    let is = sibling_is i j pair.inner.0 half in
    let low_i = pair.inner.0 in
    let over = is.0 in
    let below = children d x u low (omega arith) (ltb-true x (2 ^ d) e) in
    let beside = siblings d i j u low pair half in
    two_sum (nat_lt u (2 ^ d)) (is_below d x u) (is_below d (2 * x) u) (is_below d (2 * x + 1) u) below.0 below.1
    ∙ other_side (nat_lt u (2 ^ d)) (is_below d i u) (is_below d j u) (is_below d x u) beside.0 beside.1

counted_pair_by : (d i j u : ℕ) → 1 ≤ d → d ≤ 20 → IsPair d i j → u < 2 ^ d → ((j / 2 == i) ≡ true) × (j / 2 ≡ i)
    ⊎ ((j / 2 == i) ≡ false) × (j / 2 ≢ i) → IfCounted d u (Diff i j) (halves_of d (Diff i j))
unfolding halves_of halves_below
counted_pair_by d i j u some low pair leaf (inl (e, half)) = rw e
    (counted_below_by d i j u low pair half (nat_lt (sibling_of j) (2 ^ d)) refl)
counted_pair_by d i j u some low pair leaf (inr (e, apart)) =
    let parts = between_halves d i j low pair apart e in
    rw e (cut_counted d i (child_to i j) j u low parts.left_height parts.right_height leaf)

-- the halves of a set hold each leaf as often as the set
pub halves_counted : (d u : ℕ) (name : SetName) → 1 ≤ d → d ≤ 20 → IsOfHeight d name → u < 2 ^ d →
    IfCounted d u name (halves_of d name)
unfolding halves_of
halves_counted d u Whole some low h leaf =
    let two : 2 ≤ 2 ^ d = omega (arith, pow_mono {i = 1} {j = d} some) in
    let both = children d 1 u low (omega arith) (omega arith) in
    let root = below_root d u leaf in
    let sum = two_sum (nat_lt u (2 ^ d)) (is_below d 1 u) (is_below d 2 u) (is_below d 3 u) both.0 both.1 in
    sum ∙ all (nat_lt u (2 ^ d)) (is_below d 1 u) root
  where
    all : (t b : Bool) → b ≡ true → cond {A = ℕ} (t && b) 1 0 ≡ cond t 1 0
    all true b e = rw e refl
    all false b e = refl
halves_counted d u (Diff i j) some low pair leaf = counted_pair_by d i j u some low pair leaf (eqb_tells (j / 2) i)
