-- The two parts of a set that isn't useful.
use Rattle.std.proofs.Common.{inl, inr, ◌||◌, ◌==◌, ◌%◌, subst, ap, ◌∙◌, ℕ, ◌+◌, ◌-◌, ◌/◌, ◌^◌, ◌<◌, ◌≤◌, ◌≡◌}
use Rattle.std.proofs.Common.{Bool, true, false, List, [], ◌∷◌, refl, pow_mono, cond, length, arith}
use Rattle.std.specs.Prelude.{Contains, count_by}
use Rattle.std.proofs.Math.Pow.{shr-shr}
use Rattle.std.proofs.lemmas.Bool.{leb-false, le-leb, eq-eqb, or_parts}
use Rattle.sd_tree_keys.specs.Node.{depth}
use Rattle.sd_tree_keys.specs.Leaves.{is_member}
use Rattle.sd_tree_keys.specs.SetNames.{IsPair, IsOfHeight}
use Rattle.sd_tree_keys.specs.declared.set.SetName.{SetName}
use Rattle.sd_tree_keys.specs.declared.set.SetName.TheVariants.{Whole, Diff}
use Rattle.sd_tree_keys.proofs.Levels.{halved_level, depth_at}
use Rattle.sd_tree_keys.proofs.Ancestors.{depth_within, above_by_levels}
use Rattle.sd_tree_keys.proofs.Halves.{cut_counts}
use Rattle.sd_tree_keys.proofs.Members.{lower_is_node, upper_is_node}
use Rattle.sd_cover_tracing.proofs.Lists.{member_cases, no_member}
use Rattle.sd_lsd.specs.Layers.{layer_end, is_useful, layer_node, split_of}
use Rattle.sd_lsd.proofs.Layers.{layer_bounds}

-- node k stands properly between i and j, where i's layer ends
pub record IsBetween (d w i j k : ℕ) : Type 0 where
  pub upper : IsPair d i k
  pub lower : IsPair d k j
  pub level : depth k ≡ layer_end w (depth i)

-- a set that isn't useful has a lower node below the end of i's layer
pub not_useful : (w i j : ℕ) → is_useful w (Diff i j) ≡ false → layer_end w (depth i) < depth j
unfolding is_useful
not_useful w i j h = leb-false _ _ (or_parts _ _ h).1

-- so the node at which i's layer ends stands between i and j
pub layer_node_between : (d w i j : ℕ) → d ≤ 20 → 1 ≤ w → IsPair d i j → is_useful w (Diff i j) ≡ false
    → IsBetween d w i j (layer_node w i j)
unfolding layer_node
layer_node_between d w i j low some pair h =
    let below = not_useful w i j h in
    let ends = layer_bounds w (depth i) some in
    let at_j = depth_within d j low (lower_is_node pair) pair.node in
    let at_i = depth_within d i low pair.inner.0 (upper_is_node pair) in
    let e : ℕ = layer_end w (depth i) in
    let s : ℕ = depth j - e in
    let half = halved_level j (depth j) s (omega arith) at_j.0 in
    let same : depth j - s ≡ e = omega arith in
    let level : depth (j / 2 ^ s) ≡ e = depth_at (j / 2 ^ s) (depth j - s) (omega arith) half ∙ same in
    let from = above_by_levels i j (depth i) (depth j) at_i.0 at_j.0 pair.above.0 in
    let sum : s + (e - depth i) ≡ depth j - depth i = omega arith in
    let up : j / 2 ^ s / 2 ^ (e - depth i) ≡ i =
    shr-shr j s (e - depth i) ∙ (ap (λ (n : ℕ). j / 2 ^ n) sum ∙ from.1) in
    let high : j / 2 ^ s < 2 ^ d = omega (arith, half.high, pow_mono {i = depth j - s + 1} {j = d} (omega arith)) in
    record {
      upper = record {
        inner = pair.inner;
        node = omega (arith, high, pow_mono {i = d} {j = d + 1} (omega arith));
        above = ((e - depth i, up), λ g. omega (arith, level, ap depth g));
      };
      lower = record {
        inner = (omega (arith, half.low, pow_mono {i = 0} {j = depth j - s} (omega arith)), high);
        node = pair.node;
        above = ((s, refl), λ g. omega (arith, level, ap depth g));
      };
      level = level;
    }

-- a set as itself, or cut in two at node k
abbrev pub cut_at : Bool → ℕ → ℕ → ℕ → List SetName
cut_at b i k j = cond b (Diff i j ∷ []) (Diff i k ∷ Diff k j ∷ [])

-- the parts of a set together hold each leaf as often as the set
parts_counted_by : (d w i j u : ℕ) → d ≤ 20 → 1 ≤ w → IsPair d i j → u < 2 ^ d → (b : Bool)
    → is_useful w (Diff i j) ≡ b
    → count_by (λ name. is_member d name u) (cut_at b i (layer_node w i j) j) ≡ cond (is_member d (Diff i j) u) 1 0
parts_counted_by d w i j u low some pair leaf true h = omega arith
parts_counted_by d w i j u low some pair leaf false h =
    let between = layer_node_between d w i j low some pair h in
    omega (arith, cut_counts d i (layer_node w i j) j u low between.upper between.lower leaf)

pub parts_counted : (d w i j u : ℕ) → d ≤ 20 → 1 ≤ w → IsPair d i j → u < 2 ^ d
    → count_by (λ name. is_member d name u) (split_of w (Diff i j)) ≡ cond (is_member d (Diff i j) u) 1 0
unfolding split_of
parts_counted d w i j u low some pair leaf = parts_counted_by d w i j u low some pair leaf (is_useful w (Diff i j)) refl

-- at most two parts
parts_by : (w i j : ℕ) (b : Bool) → length (cut_at b i (layer_node w i j) j) ≤ 2
parts_by w i j true = omega arith
parts_by w i j false = omega arith

pub few_parts : (w : ℕ) (name : SetName) → length (split_of w name) ≤ 2
unfolding split_of
few_parts w Whole = omega arith
few_parts w (Diff i j) = parts_by w i j (is_useful w (Diff i j))

-- a part of a set: of the height, and useful
pub record IsPart (d w : ℕ) (name : SetName) : Type 0 where
  pub height : IsOfHeight d name
  pub useful : is_useful w name ≡ true

-- the upper part is useful, since its lower node stands where i's layer ends
upper_useful : (w i k : ℕ) → depth k ≡ layer_end w (depth i) → is_useful w (Diff i k) ≡ true
unfolding is_useful
upper_useful w i k e = rw (le-leb (depth k) (layer_end w (depth i)) (omega arith)) (either (depth i % w == 0))
  where
    either : (b : Bool) → (b || true) ≡ true
    either true = refl
    either false = refl

-- the lower part is, since its upper node stands at a multiple of the width
lower_useful : (w k j : ℕ) → depth k % w ≡ 0 → is_useful w (Diff k j) ≡ true
unfolding is_useful
lower_useful w k j e = rw (eq-eqb (depth k % w) 0 e) refl

parts_are_by : (d w i j : ℕ) → d ≤ 20 → 1 ≤ w → IsPair d i j → (b : Bool) → is_useful w (Diff i j) ≡ b
    → (name : SetName) → Contains (cut_at b i (layer_node w i j) j) name → IsPart d w name
parts_are_by d w i j low some pair true h name m = elim (member_cases (Diff i j) [] name m) [
  | inl same ↦ subst (IsPart d w) same (record { height = pair; useful = h })
  | inr none ↦ absurd (no_member name none)
]
parts_are_by d w i j low some pair false h name m =
    let k : ℕ = layer_node w i j in
    let between = layer_node_between d w i j low some pair h in
    let ends = layer_bounds w (depth i) some in
    let at_end : depth k % w ≡ 0 = ap (λ (n : ℕ). n % w) between.level ∙ ends.2 in
    elim (member_cases (Diff i k) (Diff k j ∷ []) name m) [
      | inl same ↦ subst (IsPart d w) same
          (record { height = between.upper; useful = upper_useful w i k between.level })
      | inr rest ↦ elim (member_cases (Diff k j) [] name rest) [
        | inl same ↦ subst (IsPart d w) same
            (record { height = between.lower; useful = lower_useful w k j at_end })
        | inr none ↦ absurd (no_member name none)
      ]
    ]

-- the parts of a set of the height are of the height and useful
pub parts_are_useful : (d w : ℕ) (name : SetName) → d ≤ 20 → 1 ≤ w → IsOfHeight d name → (part : SetName)
    → Contains (split_of w name) part → IsPart d w part
unfolding split_of is_useful
parts_are_useful d w Whole low some h part m = elim (member_cases Whole [] part m) [
  | inl same ↦ subst (IsPart d w) same (record { height = tt; useful = refl })
  | inr none ↦ absurd (no_member part none)
]
parts_are_useful d w (Diff i j) low some pair part m =
    parts_are_by d w i j low some pair (is_useful w (Diff i j)) refl part m
