-- The ends of layers, and the sets that are useful.
use Rattle.std.proofs.Common.{ℕ, ◌+◌, ◌*◌, ◌/◌, ◌%◌, ◌<◌, ◌≤◌, ◌≡◌, ◌⊎◌, inl, inr, true, refl}
use Rattle.std.proofs.Common.{⊎_elim, arith}
use Rattle.std.proofs.lemmas.Bool.{cases_lt}
use Rattle.std.proofs.Math.Nat.{lt-div-mul-add, div-mul-le_self, mul-mod_left, div-eq_of_lt}
use Rattle.std.proofs.lemmas.Bool.{eq-eqb, le-leb}
use Rattle.std.proofs.lemmas.Bool.Decides.{nat_tests}
use Rattle.std.proofs.Math.Pow.{pow_mono}
use Rattle.sd_base.proofs.Bools.{or_true}
use Rattle.sd_tree_keys.specs.Node.{depth}
use Rattle.sd_tree_keys.specs.SetNames.{IsOfHeight}
use Rattle.sd_tree_keys.specs.declared.set.SetName.{SetName}
use Rattle.sd_tree_keys.specs.declared.set.SetName.TheVariants.{Whole, Diff}
use Rattle.sd_tree_keys.proofs.Ancestors.{depth_within}
use Rattle.sd_tree_keys.proofs.Members.{lower_is_node, upper_is_node}
use Rattle.sd_base.proofs.Arithmetic.{times_next}
use Rattle.sd_lsd.specs.Layers.{layer_end, is_useful}

-- a layer ends at most a width below, at a multiple of the width
pub layer_bounds : (w a : ℕ) → 1 ≤ w → (a < layer_end w a) × (layer_end w a ≤ a + w) × (layer_end w a % w ≡ 0)
unfolding layer_end
layer_bounds w a some =
    let up : a < a / w * w + w = lt-div-mul-add {a = a} {b = w} (omega arith) in
    let low = div-mul-le_self a w in
    let more = times_next (a / w) w in
    (omega arith, omega arith, mul-mod_left (a / w + 1) w)

-- a set whose lower node is higher on the way is useful where the set is
pub useful_upwards : (w i j x : ℕ) → depth x ≤ depth j → is_useful w (Diff i j) ≡ true → is_useful w (Diff i x) ≡ true
unfolding is_useful
useful_upwards w i j x within h = grind (arith, nat_tests)

-- of width 1, and of the tree's height, each set of the tree is useful
pub useful_everywhere : (d w : ℕ) (name : SetName) → d ≤ 20 → IsOfHeight d name → (w ≡ 1) ⊎ (w ≡ d)
    → is_useful w name ≡ true
unfolding is_useful layer_end
useful_everywhere d w Whole low h at = refl
useful_everywhere d w (Diff i j) low pair (inl one) =
    let none : depth i % 1 ≡ 0 = omega arith in
    rw one (rw (eq-eqb (depth i % 1) 0 none) refl)
useful_everywhere d w (Diff i j) low pair (inr all) =
    let at_i = depth_within d i low pair.inner.0 (upper_is_node pair) in
    let at_j = depth_within d j low (lower_is_node pair) pair.node in
    let less : depth i < d =
    ⊎_elim (λ (h : depth i < d). h)
    (λ (h : d ≤ depth i). absurd (omega (arith, at_i.0.low, pair.inner.1, pow_mono {i = d} {j = depth i} h)))
    (cases_lt (depth i) d) in
    let none : depth i / d ≡ 0 = div-eq_of_lt less in
    let end : (depth i / d + 1) * d ≡ d = rw none (omega arith) in
    rw all (rw (end, le-leb (depth j) d at_j.1) (or_true _))
