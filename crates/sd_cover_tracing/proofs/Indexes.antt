-- The counts of an index after its changes.
use Rattle.std.proofs.Common.{◌≡◌, ◌∙◌, ℕ, zero, suc, ◌+◌, ◌^◌, ◌<◌, ◌≤◌, ◌==◌, ◌↔◌, nat_eq, ◌&&◌, ◌||◌, not}
use Rattle.std.proofs.Common.{Bool, true, false, if◌then◌else◌, List, [], filter, Contains, eq-eqb, ne_eqb, eqb-true}
use Rattle.std.proofs.Common.{arith, sym, ap, subst, refl, inl, inr}
use Rattle.std.specs.List.{count_by, list_any, range_with_len}
use Rattle.std.specs.Ordering.{nat_cmp}
use Rattle.std.specs.FinMap.{FinMap, empty, get-empty}
use Rattle.std.specs.Option.{unwrap_or}
use Rattle.std.specs.Prelude.{Option}
use Rattle.std.proofs.lemmas.List.Sums.{count_by-le-length}
use Rattle.std.proofs.lemmas.List.FromFn.{length-range_with_len}
use Rattle.sd_base.proofs.Bools.{or_true, or_false, and_false, or_swap}
use Rattle.sd_cover_tracing.proofs.Lists.{counted_some}
use Rattle.std.proofs.lemmas.Bool.{cases_Bool, cond-true, cond-false}
use Rattle.std.proofs.lemmas.Bool.Decides.{eqb_tells}
use Rattle.std.proofs.lemmas.Nat.{pow_pos}
use Rattle.sd_tree_keys.specs.Leaves.{is_below, leaves, with_leaf, without_leaf}
use Rattle.sd_tree_keys.proofs.Levels.{doubled}
use Rattle.sd_cover_tracing.specs.Tally.{tally_at}
use Rattle.sd_cover_tracing.specs.Path.{path_visit_count}
use Rattle.sd_cover_tracing.specs.Index.{IndexValue, count_below, counts_one, indexed_leaves, IsIndex}
use Rattle.sd_cover_tracing.proofs.Paths.{met_is_below}
use Rattle.sd_cover_tracing.proofs.Ranges.{count_filter, count_same, count_point, count_one_more, filter_same}
use Rattle.sd_cover_tracing.proofs.Ranges.{filter_twice}
use Rattle.sd_cover_tracing.proofs.Ranges.{passes, found}
use Rattle.sd_cover_tracing.proofs.Ancestry.{below_leaf}

-- a leaf's node is a node of the tree
leaf_low : (d u : ℕ) → 1 ≤ 2 ^ d + u
leaf_low d u = let some = pow_pos d in omega arith

leaf_high : (d u : ℕ) → u < 2 ^ d → 2 ^ d + u < 2 ^ (d + 1)
leaf_high d u h = let twice = doubled d in omega arith

-- a leaf's node counts 1 where the leaf is revoked, and else 0
pub leaf_count : (d u : ℕ) (m : FinMap nat_cmp ℕ) → d < 32 → u < 2 ^ d → IsIndex d m → tally_at m (2 ^ d + u)
    ≡ (if counts_one d m u then 1 else 0)
unfolding count_below indexed_leaves
leaf_count d u m small h is =
    is.count (2 ^ d + u) (leaf_low d u) (leaf_high d u h)
    ∙ (count_filter (counts_one d m) (is_below d (2 ^ d + u)) (leaves d)
    ∙ (count_same (λ w. counts_one d m w && is_below d (2 ^ d + u) w) (λ w. w == u && counts_one d m w) 0 (2 ^ d)
    (λ w k. rw (below_leaf d u w small h) (turned (counts_one d m w) (w == u)))
    ∙ count_point (counts_one d m) 0 (2 ^ d) u (omega arith) (omega arith)))
  where
    turned : (a b : Bool) → (a && b) ≡ (b && a)
    turned true true = refl
    turned true false = refl
    turned false true = refl
    turned false false = refl

-- the revoked leaves are those whose nodes count 1
pub revoked_told : (d u : ℕ) (m : FinMap nat_cmp ℕ) → u < 2 ^ d →
    (counts_one d m u ≡ true) ↔ Contains (indexed_leaves d m)
    u
unfolding indexed_leaves
revoked_told d u m h =
    let same = passes (counts_one d m) 0 (2 ^ d) u (omega arith) (omega arith) in
    let both = found u (filter (counts_one d m) (leaves d)) in
    (λ e. both.0 (same ∙ e), λ c. sym same ∙ both.1 c)

-- what a path adds at a leaf's node
met_at_leaf : (d u w : ℕ) → d < 32 → u < 2 ^ d → w < 2 ^ d → path_visit_count (2 ^ d + u) (d + 1) (2 ^ d + w)
    ≡ (if u == w then 1 else 0)
met_at_leaf d u w small h k =
    met_is_below d u (2 ^ d + w) small h (leaf_low d w) (leaf_high d w k) ∙
    ap (λ (b : Bool). let one : ℕ = if b then 1 else 0 in one) (below_leaf d w u small k)

and_true : (b : Bool) → (b && true) ≡ b
and_true true = refl
and_true false = refl

cond-false' : (b : Bool) → b ≡ false → ◌≡◌ {A = ℕ} (if b then 1 else 0) 0
cond-false' b e = cond-false {A = ℕ} b 1 0 e

-- what passed before one was taken out: what passes now, or that one
back : (a b c : Bool) → b ≡ (a && not c) → (c ≡ true → a ≡ true) → a ≡ (b || c)
back true b true e f = sym (ap (λ (x : Bool). x || true) e)
back true b false e f = sym (ap (λ (x : Bool). x || false) e)
back false b true e f = f refl ∙ sym (ap (λ (x : Bool). x || true) e)
back false b false e f = sym (ap (λ (x : Bool). x || false) e)

-- one more leaf is revoked
more_revoked : (d u w : ℕ) (m m' : FinMap nat_cmp ℕ) → d < 32 → u < 2 ^ d → w < 2 ^ d → IsIndex d m → counts_one d m u
    ≡ false → ((v : ℕ) → tally_at m' v ≡ tally_at m v + path_visit_count (2 ^ d + u) (d + 1) v) → counts_one d m' w
    ≡ (counts_one d m w || w == u)
unfolding counts_one
more_revoked d u w m m' small h k is new raised =
    let at = raised (2 ^ d + w) in
    let met = met_at_leaf d u w small h k in
    elim (eqb_tells w u) [
      | inl same ↦
          let hit : (if u == w then 1 else 0) ≡ suc 0 = cond-true {A = ℕ} (u == w) 1 0 (eq-eqb u w (sym same.1)) in
          let none = leaf_count d u m small h is ∙ cond-false' (counts_one d m u) new in
          let here : tally_at m (2 ^ d + w) ≡ tally_at m (2 ^ d + u) = ap (λ (n : ℕ). tally_at m (2 ^ d + n)) same.1 in
          rw same.0 (eq-eqb (tally_at m' (2 ^ d + w)) 1 (omega arith) ∙ sym (or_true (tally_at m (2 ^ d + w) == 1)))
      | inr other ↦
          let miss : (if u == w then 1 else 0) ≡ zero = cond-false {A = ℕ} (u == w) 1 0
          (ne_eqb u w (λ e. other.1 (sym e))) in
          let here : tally_at m' (2 ^ d + w) ≡ tally_at m (2 ^ d + w) = omega arith in
          rw other.0 (ap (λ (n : ℕ). n == 1) here ∙ sym (or_false (tally_at m (2 ^ d + w) == 1)))
    ]

-- one leaf less is revoked
fewer_revoked : (d u w : ℕ) (m m' : FinMap nat_cmp ℕ) → d < 32 → u < 2 ^ d → w < 2 ^ d → IsIndex d m → counts_one d m u
    ≡ true → ((v : ℕ) → tally_at m' v + path_visit_count (2 ^ d + u) (d + 1) v ≡ tally_at m v) → counts_one d m' w
    ≡ (counts_one d m w && not (w == u))
unfolding counts_one
fewer_revoked d u w m m' small h k is old lowered =
    let at = lowered (2 ^ d + w) in
    let met = met_at_leaf d u w small h k in
    elim (eqb_tells w u) [
      | inl same ↦
          let hit : (if u == w then 1 else 0) ≡ suc 0 = cond-true {A = ℕ} (u == w) 1 0 (eq-eqb u w (sym same.1)) in
          let one = eqb-true (tally_at m (2 ^ d + u)) 1 old in
          let here : tally_at m (2 ^ d + w) ≡ tally_at m (2 ^ d + u) = ap (λ (n : ℕ). tally_at m (2 ^ d + n)) same.1 in
          rw same.0 (ne_eqb (tally_at m' (2 ^ d + w)) 1 (omega arith) ∙ sym (and_false (tally_at m (2 ^ d + w) == 1)))
      | inr other ↦
          let miss : (if u == w then 1 else 0) ≡ zero = cond-false {A = ℕ} (u == w) 1 0
          (ne_eqb u w (λ e. other.1 (sym e))) in
          let here : tally_at m' (2 ^ d + w) ≡ tally_at m (2 ^ d + w) = omega arith in
          rw other.0 (ap (λ (n : ℕ). n == 1) here ∙ sym (and_true (tally_at m (2 ^ d + w) == 1)))
    ]

-- after a revocation the list has the leaf
pub revoked_more : (d u : ℕ) (m m' : FinMap nat_cmp ℕ) → d < 32 → u < 2 ^ d → IsIndex d m → counts_one d m u ≡ false →
    ((v : ℕ) → tally_at m' v ≡ tally_at m v + path_visit_count (2 ^ d + u) (d + 1) v) →
    indexed_leaves d m' ≡ with_leaf d u
    (indexed_leaves d m)
unfolding indexed_leaves with_leaf
revoked_more d u m m' small h is new raised =
    filter_same (counts_one d m') (λ w. w == u || list_any (nat_eq w) (filter (counts_one d m) (leaves d))) 0 (2 ^ d)
    (λ w k. more_revoked d u w m m' small h (omega arith) is new raised ∙
    (or_swap (counts_one d m w) (w == u) ∙ ap (λ (b : Bool). w == u || b)
    (sym (passes (counts_one d m) 0 (2 ^ d) w (omega arith) k))))

-- and each node of the tree counts what is revoked at or below it
pub index_more : (d u : ℕ) (m m' : FinMap nat_cmp ℕ) → d < 32 → u < 2 ^ d → IsIndex d m → counts_one d m u ≡ false →
    ((v : ℕ) → tally_at m' v ≡ tally_at m v + path_visit_count (2 ^ d + u) (d + 1) v) → IsIndex d m'
unfolding indexed_leaves count_below
index_more d u m m' small h is new raised = record {
  count = λ v low high.
      let old = is.count v low high in
      let met = met_is_below d u v small h low high in
      let at = raised v in
      let more = count_one_more (counts_one d m) (counts_one d m') (is_below d v) 0 (2 ^ d) u
      (omega arith) (omega arith)
      (λ w k. more_revoked d u w m m' small h (omega arith) is new raised) new in
      omega arith;
}

-- after a subscription the list lacks the leaf
pub revoked_fewer : (d u : ℕ) (m m' : FinMap nat_cmp ℕ) → d < 32 → u < 2 ^ d → IsIndex d m → counts_one d m u ≡ true →
    ((v : ℕ) → tally_at m' v + path_visit_count (2 ^ d + u) (d + 1) v ≡ tally_at m v) →
    indexed_leaves d m' ≡ without_leaf u
    (indexed_leaves d m)
unfolding indexed_leaves without_leaf
revoked_fewer d u m m' small h is old lowered =
    filter_same (counts_one d m') (λ w. counts_one d m w && not (w == u)) 0 (2 ^ d)
    (λ w k. fewer_revoked d u w m m' small h (omega arith) is old lowered)
    ∙ sym (filter_twice (counts_one d m) (λ w. not (w == u)) (leaves d))

pub index_fewer : (d u : ℕ) (m m' : FinMap nat_cmp ℕ) → d < 32 → u < 2 ^ d → IsIndex d m → counts_one d m u ≡ true →
    ((v : ℕ) → tally_at m' v + path_visit_count (2 ^ d + u) (d + 1) v ≡ tally_at m v) → IsIndex d m'
unfolding indexed_leaves count_below
index_fewer d u m m' small h is old lowered = record {
  count = λ v low high.
      let before = is.count v low high in
      let met = met_is_below d u v small h low high in
      let at = lowered v in
      let gone : counts_one d m' u ≡ false = fewer_revoked d u u m m' small h h is old lowered ∙
      (rw (eq-eqb u u refl) (and_false (counts_one d m u))) in
      let more = count_one_more (counts_one d m') (counts_one d m) (is_below d v) 0 (2 ^ d) u
      (omega arith) (omega arith)
      (λ w k. back (counts_one d m w) (counts_one d m' w) (w == u)
      (fewer_revoked d u w m m' small h (omega arith) is old lowered) (λ e. ap (counts_one d m) (eqb-true w u e) ∙
      old)) gone in
      omega arith;
}

-- a leaf that isn't in the list isn't told revoked
pub not_told : (d u : ℕ) (m : FinMap nat_cmp ℕ) → u < 2 ^ d → ¬ Contains (indexed_leaves d m) u →
    counts_one d m u ≡ false
not_told d u m h none = elim (cases_Bool (counts_one d m u)) [
  | inl yes' ↦ absurd (none ((revoked_told d u m h).0 yes'))
  | inr no' ↦ no'
]

-- no count is above the number of leaves
pub count_within : (d v : ℕ) (m : FinMap nat_cmp ℕ) → IsIndex d m → 1 ≤ v → v < 2 ^ (d + 1) → tally_at m v ≤ 2 ^ d
unfolding indexed_leaves count_below
count_within d v m is low high =
    let at = is.count v low high in
    let both = count_filter (counts_one d m) (is_below d v) (leaves d) in
    let few = count_by-le-length (λ w. counts_one d m w && is_below d v w) (leaves d) in
    let long = length-range_with_len 0 (2 ^ d) in
    omega arith

-- the leaf of a path is below each node of it
pub met_within : (d u v : ℕ) (m : FinMap nat_cmp ℕ) → d < 32 → u < 2 ^ d → IsIndex d m → counts_one d m u ≡ true →
    1 ≤ v → v < 2 ^ (d + 1) → path_visit_count (2 ^ d + u) (d + 1) v ≤ tally_at m v
unfolding indexed_leaves count_below
met_within d u v m small h is old low high =
    let at = is.count v low high in
    let met = met_is_below d u v small h low high in
    elim (cases_Bool (is_below d v u)) [
      | inl yes' ↦
          let one = cond-true {A = ℕ} (is_below d v u) 1 0 yes' in
          let some = counted_some (is_below d v) (indexed_leaves d m) u ((revoked_told d u m h).0 old) yes' in
          omega arith
      | inr no' ↦
          let none = cond-false {A = ℕ} (is_below d v u) 1 0 no' in
          omega arith
    ]

-- where nothing counts no leaf is revoked
pub none_passes : (a n : ℕ) → filter (λ w. false) (range_with_len a n) ≡ []
none_passes a zero = refl
none_passes a (suc n) = none_passes (a + 1) n

pub revoked_none : (d : ℕ) → indexed_leaves d empty ≡ []
unfolding indexed_leaves counts_one
revoked_none d =
    filter_same (counts_one d empty) (λ w. false) 0 (2 ^ d)
    (λ w k. ap (λ (o : Option ℕ). unwrap_or o 0 == 1) (get-empty nat_cmp (2 ^ d + w))) ∙ none_passes 0 (2 ^ d)

pub index_none : (d : ℕ) → IsIndex d empty
unfolding count_below
index_none d = record {
  count = λ v low high.
      let none = ap (λ (o : Option ℕ). unwrap_or o 0) (get-empty nat_cmp v) in
      none ∙ sym (ap (λ (xs : List ℕ). count_by (is_below d v) xs) (revoked_none d));
}

-- the same by the index that contracts see
pub seen_leaf : (x : IndexValue) (d s u : ℕ) (m : FinMap nat_cmp ℕ) →
    record { height = d; revoked = indexed_leaves d m; spare = s } ≡ x → u < 2 ^ x.height → u < 2 ^ d
seen_leaf x d s u m is h = subst (λ (y : IndexValue). u < 2 ^ y.height) (sym is) h

pub seen_other : (x : IndexValue) (d s u : ℕ) (m : FinMap nat_cmp ℕ) →
    record { height = d; revoked = indexed_leaves d m; spare = s } ≡ x → u < 2 ^ x.height → ¬ Contains x.revoked u →
    counts_one d m u ≡ false
seen_other x d s u m is h none = not_told d u m (seen_leaf x d s u m is h)
    (subst (λ (y : IndexValue). ¬ Contains y.revoked u) (sym is) none)

pub seen_revoked : (x : IndexValue) (d s u : ℕ) (m : FinMap nat_cmp ℕ) →
    record { height = d; revoked = indexed_leaves d m; spare = s } ≡ x → u < 2 ^ x.height →
    (counts_one d m u ≡ true) ↔ Contains x.revoked u
seen_revoked x d s u m is h = subst (λ (y : IndexValue). (counts_one d m u ≡ true) ↔ Contains y.revoked u) is
    (revoked_told d u m (seen_leaf x d s u m is h))

-- what is read at a leaf's node is 1 exactly where the leaf is revoked
pub seen_test : (x : IndexValue) (d s u n : ℕ) (m : FinMap nat_cmp ℕ) →
    record { height = d; revoked = indexed_leaves d m; spare = s } ≡ x → u < 2 ^ x.height → n ≡ tally_at m (2 ^ d + u) →
    (n == 1 ≡ true) ↔ Contains x.revoked u
unfolding counts_one
seen_test x d s u n m is h read = subst (λ (k : ℕ). (k == 1 ≡ true) ↔ Contains x.revoked u) (sym read)
    (seen_revoked x d s u m is h)
