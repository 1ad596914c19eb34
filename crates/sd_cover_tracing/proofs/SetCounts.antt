-- How many sets of the walk hold a leaf, and how many there are.
use Rattle.std.proofs.Common.{◌≡◌, ℕ, suc, subst, inl, inr, ◌+◌, ◌*◌, ◌^◌, ◌<◌, ◌≤◌, Bool, true, false, not, ◌&&◌, ◌||◌}
use Rattle.std.proofs.Common.{nat_eq, List, ◌++◌, length, Contains, count_by, cond, lt-ltb, eq-eqb, eqb-true}
use Rattle.std.proofs.Common.{length-append, arith, sym, ◌∙◌, refl}
use Rattle.std.specs.List.{list_any}
use Rattle.std.proofs.lemmas.Bool.Decides.{eqb_tells}
use Rattle.std.proofs.lemmas.List.Sums.{sum_by-append}
use Rattle.std.proofs.lemmas.List.Folds.{list_any_at}
use Rattle.sd_tree_keys.specs.Leaves.{is_below, is_member, HoldsLeavesOf}
use Rattle.sd_tree_keys.specs.declared.set.SetName.{SetName}
use Rattle.sd_cover_tracing.proofs.Ancestry.{below_leaf}
use Rattle.sd_cover_tracing.proofs.Lists.{counted_some, counted_either}
use Rattle.sd_cover_tracing.specs.Walk.{of_ends}
use Rattle.sd_cover_tracing.specs.Walk.{StandsAt}
use Rattle.sd_cover_tracing.proofs.Levels.{below_either, below_one}
use Rattle.sd_cover_tracing.proofs.AtNode.{of_ends_same, of_ends_other}

-- of the leaves below the head of a chain those that aren't below v are in one set, and of those below v the ones that
-- aren't revoked
pub record IsCounted (d : ℕ) (revoked : List ℕ) (head v : ℕ) (sets : List SetName) : Type 0 where
  pub of_leaf : (w : ℕ) → w < 2 ^ d
      → count_by (λ name. is_member d name w) sets
      ≡ cond (is_below d head w && not (is_below d v w)) 1 0 + cond
      (is_below d v w && not (list_any (nat_eq w) revoked)) 1 0
  pub few : length sets < 2 * count_by (λ u. is_below d v u) revoked

-- nothing passes a test and fails it
itself_not : (b : Bool) → 0 ≡ cond {A = ℕ} (b && not b) 1 0
itself_not true = refl
itself_not false = refl

-- the set of a chain has the leaves below its first node that aren't below its last
ends_counted : (d head v w : ℕ) → w < 2 ^ d
    → count_by (λ name. is_member d name w) (of_ends head v) ≡ cond (is_below d head w && not (is_below d v w)) 1 0
ends_counted d head v w h = elim (eqb_tells head v) [
  | inl same ↦ rw (of_ends_same head v same.1)
      (subst (λ (x : ℕ). 0 ≡ cond {A = ℕ} (is_below d head w && not (is_below d x w)) 1 0) same.1
      (itself_not (is_below d head w)))
  | inr other ↦ rw (of_ends_other head v other.1, lt-ltb w (2 ^ d) h) (omega arith)
]

-- a chain has at most one set
ends_few : (head v : ℕ) → length (of_ends head v) ≤ 1
ends_few head v = elim (eqb_tells head v) [
  | inl same ↦ rw (of_ends_same head v same.1) (omega arith)
  | inr other ↦ rw (of_ends_other head v other.1) (omega arith)
]

-- where all below are revoked, none is left
none_left : (b r : Bool) → (b ≡ true → r ≡ true) → cond {A = ℕ} (b && not r) 1 0 ≡ 0
none_left false r h = refl
none_left true true h = refl
none_left true false h = absurd (let e = h refl in cc)

-- the set of a chain that ends at a revoked leaf's node is counted so
pub counted_leaf : (d head u : ℕ) (revoked : List ℕ) → d < 32 → u < 2 ^ d → Contains revoked u
    → IsCounted d revoked head (2 ^ d + u) (of_ends head (2 ^ d + u))
counted_leaf d head u revoked small lt m = record {
  of_leaf =
      λ w h. rw (
        ends_counted d head (2 ^ d + u) w h,
        none_left (is_below d (2 ^ d + u) w) (list_any (nat_eq w) revoked) (taken w),
      ) (omega arith);
  few =
      let one = ends_few head (2 ^ d + u) in
      let some = counted_some (λ w. is_below d (2 ^ d + u) w) revoked u m itself in
      omega arith;
}
  where
    itself : is_below d (2 ^ d + u) u ≡ true
    itself = below_leaf d u u small lt ∙ eq-eqb u u refl

    taken : (w : ℕ) → is_below d (2 ^ d + u) w ≡ true → list_any (nat_eq w) revoked ≡ true
    taken w b =
        let same = eqb-true w u (sym (below_leaf d u w small lt) ∙ b) in
        list_any_at (nat_eq w) revoked m.0 u m.1 (eq-eqb w _ (same ∙ sym m.2))

-- what two children leave unrevoked is what their parent does
two_sum : (x : ℕ) (b c r : Bool) → (b && c) ≡ false
    → x + (cond (b && not b) 1 0 + cond (b && not r) 1 0 + (cond (c && not c) 1 0 + cond (c && not r) 1 0))
    ≡ x + cond ((b || c) && not r) 1 0
two_sum x true true r e = absurd (cc)
two_sum x true false true e = refl
two_sum x true false false e = refl
two_sum x false true true e = refl
two_sum x false true false e = refl
two_sum x false false r e = refl

-- at a node with two children in the tree, where the sets of both are
pub counted_two : (d level head v : ℕ) (revoked : List ℕ) (left right : List SetName) → d < 32
    → StandsAt d (suc level) v → IsCounted d revoked (2 * v) (2 * v) left
    → IsCounted d revoked (2 * v + 1) (2 * v + 1) right → IsCounted d revoked head v (of_ends head v ++ (left ++ right))
counted_two d level head v revoked left right small at p q = record {
  of_leaf = λ w h.
      rw (
        sum_by-append (λ name. cond (is_member d name w) 1 0) (of_ends head v) (left ++ right),
        sum_by-append (λ name. cond (is_member d name w) 1 0) left right,
        ends_counted d head v w h,
        p.of_leaf w h,
        q.of_leaf w h,
      )
      (two_sum (cond (is_below d head w && not (is_below d v w)) 1 0) (is_below d (2 * v) w) (is_below d (2 * v + 1) w)
      (list_any (nat_eq w) revoked) (below_one d level v w small at)
      ∙ rw (below_either d level v w small at) refl);
  few =
      let one = ends_few head v in
      let sum =
      counted_either (λ u. is_below d v u) (λ u. is_below d (2 * v) u) (λ u. is_below d (2 * v + 1) u) revoked
      (λ u. below_either d level v u small at) (λ u. below_one d level v u small at) in
      let a = p.few in
      let b = q.few in
      simp length-append (omega arith);
}

-- a child without revoked leaves adds its leaves to the chain's set
one_sum : (h b c r : Bool) → (b && c) ≡ false → (c ≡ true → r ≡ false) → (b ≡ true → h ≡ true) → (c ≡ true → h ≡ true)
    → cond {A =
    ℕ} (h && not b) 1 0 + cond (b && not r) 1 0 ≡ cond (h && not (b || c)) 1 0 + cond ((b || c) && not r) 1 0
one_sum h true true r e n i j = absurd (cc)
one_sum h true false r e n i j = refl
one_sum true false true true e n i j = absurd (let x = n refl in cc)
one_sum true false true false e n i j = refl
one_sum false false true r e n i j = absurd (let x = j refl in cc)
one_sum h false false r e n i j = refl

-- at a node v with one child w in the tree, x being the other one, where the sets of w are
pub counted_one : (d head v w x : ℕ) (revoked : List ℕ) (sets : List SetName)
    → ((u : ℕ) → is_below d v u ≡ (is_below d w u || is_below d x u))
    → ((u : ℕ) → (is_below d w u && is_below d x u) ≡ false)
    → ((u : ℕ) → u < 2 ^ d → is_below d x u ≡ true → list_any (nat_eq u) revoked ≡ false) → HoldsLeavesOf d head v
    → IsCounted d revoked head w sets → IsCounted d revoked head v sets
counted_one d head v w x revoked sets either apart free under p = record {
  of_leaf = λ u h. p.of_leaf u h
      ∙ (one_sum (is_below d head u) (is_below d w u) (is_below d x u) (list_any (nat_eq u) revoked) (apart u)
      (free u h) (λ b. under u h (either u ∙ rw b refl)) (λ b. under u h (either u ∙ right u b))
      ∙ rw (either u) refl);
  few =
      let sum = counted_either (λ u. is_below d v u) (λ u. is_below d w u) (λ u. is_below d x u) revoked either apart in
      let a = p.few in
      omega arith;
}
  where
    right : (u : ℕ) → is_below d x u ≡ true → (is_below d w u || is_below d x u) ≡ true
    right u b = rw b (elim (is_below d w u) as (λ a. (a || true) ≡ true) [ true ↦ refl | false ↦ refl ])
