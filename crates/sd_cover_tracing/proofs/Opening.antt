-- The last set of a cover that opens, and what is left where none does.
use Rattle.std.proofs.Common.{◌≡◌, ℕ, zero, suc, ◌+◌, ◌-◌, ◌^◌, ◌<◌, Bool, true, false, not, ◌||◌, nat_eq, List, []}
use Rattle.std.proofs.Common.{◌∷◌}
use Rattle.std.proofs.Common.{length, get_or, take, drop, cond, count_by, arith, refl, sym, ap, subst, ◌∙◌, inl, inr}
use Rattle.std.specs.Prelude.{◌⊎◌, Contains, All, replicate, if◌then◌else◌}
use Rattle.std.specs.List.{list_any}
use Rattle.std.proofs.lemmas.List.{drop-append-le, drop-replicate, take-replicate, length-replicate, length-append}
use Rattle.std.proofs.lemmas.List.Elements.{All-contains}
use Rattle.std.proofs.lemmas.List.Folds.{list_any_at}
use Rattle.std.proofs.lemmas.List.Sums.{sum_by-cons}
use Rattle.sd_base.proofs.Lists.{is_found}
use Rattle.sd_tree_keys.specs.Leaves.{is_member}
use Rattle.sd_tree_keys.specs.declared.set.SetName.{SetName}
use Rattle.sd_tree_keys.specs.declared.set.SetName.TheVariants.{Whole}
use Rattle.sd_cover_tracing.specs.Chains.{IsChainCover}
use Rattle.sd_cover_tracing.proofs.Covers.{cover_partition}
use Rattle.sd_cover_tracing.proofs.Partitions.{among_unrevoked}
use Rattle.sd_cover_tracing.proofs.Lists.{counted_some, found_member}
use Rattle.sd_cover_tracing.specs.declared.found.Found.{Found}
use Rattle.sd_cover_tracing.specs.Halves.{has_some, narrowed_leaf_and_cuts}
use Rattle.sd_cover_tracing.specs.Search.{IsLastOpen, halvings, opens_some, right_from}
use Rattle.sd_cover_tracing.specs.Rounds.{IsLastIn}

-- where all keys are right the box opens where some set has a leaf of the coalition
pub all_right : (d : ℕ) (coalition : List ℕ) (sets : List SetName) →
    opens_some d coalition sets (replicate (length sets) true) ≡ list_any (has_some d coalition) sets
unfolding opens_some
all_right d coalition [] = refl
all_right d coalition (name ∷ sets) = ap (λ (b : Bool). has_some d coalition name || b) (all_right d coalition sets)

-- where no set passes a test, none at a place does
none_at : {X : Type 0} (p : X → Bool) (xs : List X) (k : ℕ) (d : X) → list_any p xs ≡ false → k < length xs →
    p (get_or xs k d) ≡ false
none_at p [] k d none within = absurd (omega (arith, within))
none_at p (x ∷ xs) zero d none within = (or_parts (p x) (list_any p xs) none).0
  where
    or_parts : (a b : Bool) → (a || b) ≡ false → (a ≡ false) × (b ≡ false)
    or_parts true b e = absurd (cc)
    or_parts false b e = (refl, e)
none_at p (x ∷ xs) (suc k) d none within = none_at p xs k d (later (p x) (list_any p xs) none) (omega (arith, within))
  where
    later : (a b : Bool) → (a || b) ≡ false → b ≡ false
    later true b e = absurd (cc)
    later false b e = e

-- what the last set that opens among others is after one more
pub opened_later : (d : ℕ) (coalition : List ℕ) (name : SetName) (sets : List SetName) (z : ℕ) →
    IsLastOpen d coalition sets z →
    IsLastOpen d coalition (name ∷ sets) (suc z)
opened_later d coalition name sets z at = record {
  within = omega (arith, at.within);
  opens = at.opens;
  last = beyond;
}
  where
    beyond : (k : ℕ) → suc z < k → k < length (name ∷ sets) → has_some d coalition (get_or (name ∷ sets) k Whole)
        ≡ false
    beyond zero above within = absurd (omega (arith, above))
    beyond (suc k) above within = at.last k (omega (arith, above)) (omega (arith, within))

-- where none of the others opens, it is the first
pub opened_here : (d : ℕ) (coalition : List ℕ) (name : SetName) (sets : List SetName) →
    has_some d coalition name ≡ true →
    list_any (has_some d coalition) sets ≡ false → IsLastOpen d coalition (name ∷ sets) 0
opened_here d coalition name sets opens none = record {
  within = omega arith;
  opens = opens;
  last = shut;
}
  where
    shut : (k : ℕ) → 0 < k → k < length (name ∷ sets) → has_some d coalition (get_or (name ∷ sets) k Whole) ≡ false
    shut zero above within = absurd (omega (arith, above))
    shut (suc k) above within = none_at (has_some d coalition) sets k Whole none (omega (arith, within))

first_of : (a b : Bool) → (a || b) ≡ true → b ≡ false → a ≡ true
first_of true b e n = refl
first_of false b e n = absurd (cc)

opened_by : (d : ℕ) (coalition : List ℕ) (name : SetName) (sets : List SetName) →
    list_any (has_some d coalition) (name ∷ sets) ≡ true → (b : Bool) → list_any (has_some d coalition) sets ≡ b →
    (list_any (has_some d coalition) sets ≡ true → (z : ℕ) × IsLastOpen d coalition sets z) →
    (z : ℕ) × IsLastOpen d coalition (name ∷ sets) z
opened_by d coalition name sets some true e later =
    let there = later e in (suc there.0, opened_later d coalition name sets there.0 there.1)
opened_by d coalition name sets some false e later = (
  0,
  opened_here d coalition name sets
      (first_of (has_some d coalition name) (list_any (has_some d coalition) sets) some e) e,
)

-- the last set that opens
pub last_opened : (d : ℕ) (coalition : List ℕ) (sets : List SetName) → list_any (has_some d coalition) sets ≡ true →
    (z : ℕ) × IsLastOpen d coalition sets z
last_opened d coalition [] some = absurd (cc)
last_opened d coalition (name ∷ sets) some =
    opened_by d coalition name sets some (list_any (has_some d coalition) sets) refl (last_opened d coalition sets)

-- where no set has a leaf, it is counted nowhere
none_counted : (d u : ℕ) (coalition : List ℕ) (sets : List SetName) → Contains coalition u →
    list_any (has_some d coalition) sets ≡ false → count_by (λ name. is_member d name u) sets ≡ 0
none_counted d u coalition [] m none = refl
none_counted d u coalition (name ∷ sets) m none =
    rw (sum_by-cons (λ n. cond (is_member d n u) 1 0) name sets)
    (let first = out (is_member d name u) refl in
    let rest = none_counted d u coalition sets m
    (later (has_some d coalition name) (list_any (has_some d coalition) sets) none) in
    rw first (omega (arith, rest)))
  where
    later : (a b : Bool) → (a || b) ≡ false → b ≡ false
    later true b e = absurd (cc)
    later false b e = e

    here : (a b : Bool) → (a || b) ≡ false → a ≡ false
    here true b e = absurd (cc)
    here false b e = refl

    out : (b : Bool) → is_member d name u ≡ b → is_member d name u ≡ false
    out false e = e
    out true e = absurd (
        let some = list_any_at (is_member d name) coalition m.0 u m.1 (rw m.2 e) in
        let none_here = here (has_some d coalition name) (list_any (has_some d coalition) sets) none in cc)

-- where no set of the cover opens, no leaf of the coalition is left
pub none_is_left : (d : ℕ) (coalition gone : List ℕ) (sets : List SetName) → d < 32 → All (λ u. u < 2 ^ d) gone →
    IsChainCover d gone sets → list_any (has_some d coalition) sets ≡ false →
    (u : ℕ) → u < 2 ^ d → Contains coalition u → Contains gone u
none_is_left d coalition gone sets low leaves cover none u leaf m =
    let partition = cover_partition d gone sets low (λ w n. All-contains (λ x. x < 2 ^ d) gone w leaves n) cover u leaf
    in
    let counted = none_counted d u coalition sets m none in
    let among = among_unrevoked d gone u leaf in
    found_member u gone (by_test (list_any (nat_eq u) gone) refl
    (sym counted ∙ (partition ∙ ap (λ (b : Bool). if◌then◌else◌ {A = ℕ} b 1 0) among)))
  where
    by_test : (b : Bool) → list_any (nat_eq u) gone ≡ b → 0 ≡ if◌then◌else◌ {A = ℕ} (not (list_any (nat_eq u) gone)) 1
        0 →
        list_any (nat_eq u) gone ≡ true
    by_test true e zero_is = e
    by_test false e zero_is = absurd (let one = rw e at zero_is in omega (arith, one))

-- a leaf of a set of the cover isn't gone
pub leaf_is_fresh : (d u : ℕ) (gone : List ℕ) (sets : List SetName) (name : SetName) → d < 32 →
    All (λ w. w < 2 ^ d) gone →
    IsChainCover d gone sets → u < 2 ^ d → Contains sets name → is_member d name u ≡ true → ¬ Contains gone u
leaf_is_fresh d u gone sets name low leaves cover leaf there member m =
    let partition = cover_partition d gone sets low (λ w n. All-contains (λ x. x < 2 ^ d) gone w leaves n) cover u leaf
    in
    let none = rw (among_unrevoked d gone u leaf, is_found gone u m) at partition in
    let some = counted_some (λ (n : SetName). is_member d n u) sets name there member in
    omega (arith, none, some)

-- the keys that a first probe marks right
right_half : (marks : List Bool) (n : ℕ) → marks ≡ right_from n n → take (length marks - n) (drop n marks)
    ≡ replicate n true
right_half marks n is =
    let long : length marks ≡ n + n = ap length is ∙ (length-append (replicate n false) (replicate n true)
    ∙ rw (length-replicate n false, length-replicate n true) refl) in
    let rest : length marks - n ≡ n = omega (arith, long) in
    let left : n - n ≡ 0 = omega arith in
    let none = drop-replicate n n false in
    let cut = drop-append-le n (replicate n false) (replicate n true) (rw (length-replicate n false) (omega arith)) in
    let right : drop n marks ≡ replicate n true = ap (drop n) is ∙ (cut ∙ rw (none, left) refl) in
    rw (rest, right) (take-replicate n n true (omega arith))

-- what the first probe tells
pub first_probe : (d : ℕ) (coalition : List ℕ) (sets : List SetName) (marks : List Bool) (opened : Bool) →
    marks ≡ right_from (length sets) (length sets) →
    opened ≡ opens_some d coalition sets (take (length marks - length sets) (drop (length sets) marks)) →
    opened ≡ list_any (has_some d coalition) sets
first_probe d coalition sets marks opened is answer =
    answer ∙ (ap (opens_some d coalition sets) (right_half marks (length sets) is) ∙ all_right d coalition sets)

-- where the box doesn't open, or there is no set, no set has a leaf of the coalition
pub tells_none : (d : ℕ) (coalition : List ℕ) (sets : List SetName) (opened : Bool) →
    opened ≡ list_any (has_some d coalition) sets → (opened ≡ false) ⊎ (length sets ≡ 0) →
    list_any (has_some d coalition) sets ≡ false
tells_none d coalition sets opened is (inl shut) = sym is ∙ shut
tells_none d coalition [] opened is (inr empty) = refl
tells_none d coalition (name ∷ sets) opened is (inr empty) = absurd (omega (arith, empty))

-- what the search and the cuts of a box that opens find
pub tells_last : (d : ℕ) (coalition : List ℕ) (sets : List SetName) (place turns : ℕ) (found : Found) →
    list_any (has_some d coalition) sets ≡ true →
    ((z : ℕ) → IsLastOpen d coalition sets z → (place ≡ z) × (turns ≡ halvings (length sets) 0 (length sets) z)) →
    (found.leaf, found.splits) ≡ narrowed_leaf_and_cuts d coalition d (get_or sets place Whole) →
    found.trials ≡ 1 + turns + found.splits → IsLastIn d coalition sets found
tells_last d coalition sets place turns found some told narrow trials =
    let last = last_opened d coalition sets some in
    let at = told last.0 last.1 in
    record {
      place = last.0;
      opened = last.1;
      leaf = subst (λ (z : ℕ). (found.leaf, found.splits) ≡ narrowed_leaf_and_cuts d coalition d (get_or sets z Whole))
          at.0 narrow;
      trials = trials ∙ ap (λ (n : ℕ). 1 + n + found.splits) at.1;
    }
