-- How a set is cut down to a leaf.
use Rattle.std.proofs.Common.{ℕ, zero, suc, ◌+◌, ◌-◌, ◌*◌, ◌/◌, ◌^◌, ◌<◌, ◌≤◌, ◌≡◌, ◌≢◌, ◌==◌, Bool, true, false, ◌&&◌}
use Rattle.std.proofs.Common.{◌||◌}
use Rattle.std.proofs.Common.{not, cond, List, [], ◌∷◌, refl, sym, subst, ap, ◌∙◌, inl, inr, arith}
use Rattle.std.specs.Prelude.{◌⊎◌, Option, Some, None, nat_lt, if◌then◌else◌}
use Rattle.std.proofs.lemmas.Bool.{le-leb, lt-ltb, ltb-false, eqb-true}
use Rattle.sd_tree_keys.specs.Node.{depth}
use Rattle.sd_tree_keys.specs.Paths.{sibling_of}
use Rattle.sd_tree_keys.specs.Leaves.{is_member, is_below}
use Rattle.sd_tree_keys.specs.SetNames.{IsPair, IsOfHeight}
use Rattle.sd_tree_keys.specs.declared.set.SetName.{SetName}
use Rattle.sd_tree_keys.specs.declared.set.SetName.TheVariants.{Whole, Diff}
use Rattle.sd_tree_keys.proofs.Levels.{depth_at, doubled}
use Rattle.sd_cover_tracing.specs.Halves.{halves_of, halves_below, child_to, cuts_left, only_leaf}
use Rattle.sd_cover_tracing.specs.Halves.{narrowed_leaf_and_cuts}
use Rattle.sd_cover_tracing.specs.Halves.{has_some, open_half, cut_once_more, AreHalves, IfHalves}
use Rattle.sd_cover_tracing.specs.Search.{opens_some}
use Rattle.sd_cover_tracing.proofs.TraceCuts.{cuts_within}
use Rattle.sd_cover_tracing.proofs.Narrowing.{IfCounted, set_halves, halves_counted, siblings, sibling_is}

-- the halves of a set are of the height, and can be cut less often
pub half_fits : (d : ℕ) (name a b : SetName) → 1 ≤ d → d ≤ 20 → IsOfHeight d name → halves_of d name ≡ Some (a, b) →
    AreHalves d name a b
half_fits d name a b some low h e = subst (IfHalves d name) e (set_halves d name some low h)

member_by : (p q r : Bool) → cond {A = ℕ} p 1 0 + cond q 1 0 ≡ cond r 1 0 → (p ≡ true) ⊎ (q ≡ true) → r ≡ true
member_by p q true sum either = refl
member_by true q false sum either = absurd (omega (arith, sum))
member_by false true false sum either = absurd (omega (arith, sum))
member_by false false false sum (inl e) = absurd (cc)
member_by false false false sum (inr e) = absurd (cc)

pub first_height : (d : ℕ) (name a b : SetName) → 1 ≤ d → d ≤ 20 → IsOfHeight d name → halves_of d name ≡ Some (a, b) →
    IsOfHeight d a
first_height d name a b some low h e = (half_fits d name a b some low h e).left_height

pub second_height : (d : ℕ) (name a b : SetName) → 1 ≤ d → d ≤ 20 → IsOfHeight d name → halves_of d name ≡ Some (a, b) →
    IsOfHeight d b
second_height d name a b some low h e = (half_fits d name a b some low h e).right_height

pub first_fewer : (d : ℕ) (name a b : SetName) → 1 ≤ d → d ≤ 20 → IsOfHeight d name → halves_of d name ≡ Some (a, b) →
    cuts_left d a < cuts_left d name
first_fewer d name a b some low h e = (half_fits d name a b some low h e).left_fewer

pub second_fewer : (d : ℕ) (name a b : SetName) → 1 ≤ d → d ≤ 20 → IsOfHeight d name → halves_of d name ≡ Some (a, b) →
    cuts_left d b < cuts_left d name
second_fewer d name a b some low h e = (half_fits d name a b some low h e).right_fewer

-- the halves that are had are so
pub had_halves : (d : ℕ) (name : SetName) (had : Option (SetName × SetName)) → 1 ≤ d → d ≤ 20 → IsOfHeight d name →
    had ≡ halves_of d name → IfHalves d name had
had_halves d name had some low h e = subst (IfHalves d name) (sym e) (set_halves d name some low h)

-- what is in a half is in the set
half_holds : (d u : ℕ) (name a b : SetName) → 1 ≤ d → d ≤ 20 → IsOfHeight d name → u < 2 ^ d →
    halves_of d name ≡ Some (a, b) → (is_member d a u ≡ true) ⊎ (is_member d b u ≡ true) → is_member d name u ≡ true
half_holds d u name a b some low h leaf e either =
    member_by (is_member d a u) (is_member d b u) (is_member d name u)
    (subst (IfCounted d u name) e (halves_counted d u name some low h leaf)) either

pub first_holds : (d u : ℕ) (name a b : SetName) → 1 ≤ d → d ≤ 20 → IsOfHeight d name → u < 2 ^ d →
    halves_of d name ≡ Some (a, b) → is_member d a u ≡ true → is_member d name u ≡ true
first_holds d u name a b some low h leaf e m = half_holds d u name a b some low h leaf e (inl m)

pub second_holds : (d u : ℕ) (name a b : SetName) → 1 ≤ d → d ≤ 20 → IsOfHeight d name → u < 2 ^ d →
    halves_of d name ≡ Some (a, b) → is_member d b u ≡ true → is_member d name u ≡ true
second_holds d u name a b some low h leaf e m = half_holds d u name a b some low h leaf e (inr m)

-- a set without halves is cut down to its leaf by no cut
pub narrowed_uncut : (d : ℕ) (coalition : List ℕ) (most : ℕ) (name : SetName) → halves_of d name ≡ None →
    narrowed_leaf_and_cuts d coalition most name ≡ (only_leaf d name, 0)
unfolding narrowed_leaf_and_cuts
narrowed_uncut d coalition zero name e = refl
narrowed_uncut d coalition (suc most) name e = rw e refl

-- any other by one cut more than its half
pub narrowed_more : (d : ℕ) (coalition : List ℕ) (most : ℕ) (name a b : SetName) → halves_of d name ≡ Some (a, b) →
    narrowed_leaf_and_cuts d coalition (suc most) name ≡ cut_once_more (narrowed_leaf_and_cuts d coalition most
    (open_half d coalition (a, b)))
unfolding narrowed_leaf_and_cuts
narrowed_more d coalition most name a b e = rw e refl

-- what a box says that tells its coalition, where it is asked for the first half
half_told : (d : ℕ) (coalition : List ℕ) (a b : SetName) →
    opens_some d coalition (a ∷ b ∷ []) (true ∷ false ∷ []) ≡ has_some d coalition a
unfolding opens_some
half_told d coalition a b = either (has_some d coalition a)
  where
    either : (t : Bool) → (t || false) ≡ t
    either true = refl
    either false = refl

-- the leaf of a set without halves, where the coalition is told
pub told_uncut : (d : ℕ) (coalition : List ℕ) (most leaf : ℕ) (name : SetName) → halves_of d name ≡ None →
    leaf ≡ only_leaf d name → (leaf, 0) ≡ narrowed_leaf_and_cuts d coalition most name
told_uncut d coalition most leaf name e is = rw is (sym (narrowed_uncut d coalition most name e))

-- and of another, from what its half was cut down to
pub told_more : (d : ℕ) (coalition : List ℕ) (most leaf cuts : ℕ) (name a b half : SetName) (opened : Bool) →
    halves_of d name ≡ Some (a, b) → opened ≡ opens_some d coalition (a ∷ b ∷ []) (true ∷ false ∷ []) →
    half ≡ (if opened then a else b) → cuts_left d half < cuts_left d name → cuts_left d name ≤ most →
    ((m : ℕ) → cuts_left d half ≤ m → (leaf, cuts) ≡ narrowed_leaf_and_cuts d coalition m half) →
    (leaf, cuts + 1) ≡ narrowed_leaf_and_cuts d coalition most name
told_more d coalition zero leaf cuts name a b half opened e answer is fewer few sub = absurd (omega (arith, fewer, few))
told_more d coalition (suc most) leaf cuts name a b half opened e answer is fewer few sub =
    let same : half ≡ open_half d coalition (a, b) =
    is ∙ ap (λ (t : Bool). if t then a else b) (answer ∙ half_told d coalition a b) in
    ap cut_once_more (sub most (omega (arith, fewer, few)) ∙ ap (narrowed_leaf_and_cuts d coalition most) same)
    ∙ sym (narrowed_more d coalition most name a b e)

none_by : (d x : ℕ) (b : Bool) → nat_lt x (2 ^ d) ≡ b →
    if◌then◌else◌ {A = Option (SetName × SetName)} b (Some (Diff x (2 * x), Diff x (2 * x + 1))) None ≡ None → 2 ^ d ≤ x
none_by d x true t none = absurd (cc)
none_by d x false t none = ltb-false x (2 ^ d) t

none_of : (d x : ℕ) → halves_below d x ≡ None → 2 ^ d ≤ x
unfolding halves_below
none_of d x e = none_by d x (nat_lt x (2 ^ d)) refl e

-- what a pair without halves is: its lower node is a leaf's, and so is the sibling
pub record IsAlone (d i j : ℕ) : Type 0 where
  pub child : j / 2 ≡ i
  pub low : 2 ^ d ≤ sibling_of j
  pub high : sibling_of j < 2 ^ (d + 1)

alone_by : (d i j : ℕ) → IsPair d i j → (b : Bool) → (j / 2 == i) ≡ b →
    if◌then◌else◌ {A = Option (SetName × SetName)} b (halves_below d (sibling_of j))
    (Some (Diff i (child_to i j), Diff (child_to i j) j)) ≡ None → IsAlone d i j
alone_by d i j pair true e none =
    let half = eqb-true (j / 2) i e in
    let above = (sibling_is i j pair.inner.0 half).0 in
    record {
      child = half;
      low = none_of d (sibling_of j) none;
      high = omega (arith, above, pair.inner.1, doubled d);
    }
alone_by d i j pair false e none = absurd (cc)

pub is_alone : (d i j : ℕ) → IsPair d i j → halves_of d (Diff i j) ≡ None → IsAlone d i j
unfolding halves_of
is_alone d i j pair none = alone_by d i j pair (j / 2 == i) refl none

-- the whole set has halves
pub whole_is_cut : (d : ℕ) → halves_of d Whole ≢ None
unfolding halves_of
whole_is_cut d none = absurd (cc)

-- a leaf is below its own node
below_own : (d x : ℕ) → d ≤ 20 → 2 ^ d ≤ x → x < 2 ^ (d + 1) → is_below d x (x - 2 ^ d) ≡ true
unfolding is_below
below_own d x small low high =
    let level : depth x ≡ d = depth_at x d (omega arith) (record { low = low; high = high }) in
    let none : d - depth x ≡ 0 = omega arith in
    let at : 2 ^ d + (x - 2 ^ d) ≡ x = omega arith in
    let one : x * 2 ^ 0 ≡ x = omega arith in
    let next : (x + 1) * 2 ^ 0 ≡ x + 1 = omega arith in
    rw (none, at, one, next, le-leb x x (omega arith), lt-ltb x (x + 1) (omega arith)) refl

alone_by_test : (t b c x : Bool) → t ≡ true → b ≡ (c || x) → (c && x) ≡ false → x ≡ true → (t && (b && not c)) ≡ true
alone_by_test true b true x t e n m = absurd (cc)
alone_by_test true b false true t e n m = rw e refl
alone_by_test true b false false t e n m = absurd (cc)
alone_by_test false b c x t e n m = absurd (cc)

-- a set without halves has the leaf of the sibling
pub alone_is_member : (d i j : ℕ) → 1 ≤ d → d ≤ 20 → IsPair d i j → IsAlone d i j →
    is_member d (Diff i j) (sibling_of j - 2 ^ d) ≡ true
alone_is_member d i j some small pair alone =
    let u : ℕ = sibling_of j - 2 ^ d in
    let leaf : u < 2 ^ d = omega (arith, alone.low, alone.high, doubled d) in
    let beside = siblings d i j u small pair alone.child in
    alone_by_test (nat_lt u (2 ^ d)) (is_below d i u) (is_below d j u) (is_below d (sibling_of j) u)
    (lt-ltb u (2 ^ d) leaf) beside.0 beside.1 (below_own d (sibling_of j) small alone.low alone.high)

-- no set is cut more often than the tree is high
pub cuts_few : (d : ℕ) (name : SetName) → IsOfHeight d name → cuts_left d name ≤ d
unfolding cuts_left
cuts_few d Whole h = omega arith
cuts_few d (Diff i j) h = omega (arith, cuts_within d i j)
