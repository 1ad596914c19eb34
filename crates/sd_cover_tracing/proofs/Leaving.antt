-- Each leaf that is found is one less of those that are left.
use Rattle.std.proofs.Common.{◌≡◌, ◌≢◌, ℕ, zero, suc, ◌+◌, ◌^◌, ◌<◌, ◌≤◌, Bool, true, false, not, ◌&&◌, nat_eq, List}
use Rattle.std.proofs.Common.{◌∷◌, length}
use Rattle.std.proofs.Common.{refl, sym, ap, ◌∙◌, inl, inr, arith, eq-eqb, eqb-true}
use Rattle.std.specs.Prelude.{◌⊎◌, ◌↔◌, All, Contains, filter, if◌then◌else◌}
use Rattle.std.specs.List.{list_any, range_with_len}
use Rattle.std.proofs.lemmas.Bool.{cases_eq, cases_lt}
use Rattle.sd_base.proofs.Lists.{is_found}
use Rattle.sd_cover_tracing.proofs.Lists.{found_member}
use Rattle.sd_cover_tracing.specs.Trace.{not_among}
use Rattle.sd_cover_tracing.specs.declared.found.Found.{Found}
use Rattle.sd_cover_tracing.specs.Trace.{IsRound}
use Rattle.sd_cover_tracing.proofs.Inside.{round_inside}

-- tests that agree above a number keep the same numbers above it
filtered_alike : (p q : ℕ → Bool) (v lo n : ℕ) → v < lo → ((u : ℕ) → u ≢ v → p u ≡ q u) →
    length (filter p (range_with_len lo n)) ≡ length (filter q (range_with_len lo n))
filtered_alike p q v lo zero above same = refl
filtered_alike p q v lo (suc n) above same =
    by (p lo) (q lo) _ _ (same lo (λ e. omega (arith, above, e)))
    (filtered_alike p q v (lo + 1) n (omega (arith, above)) same)
  where
    by : (a b : Bool) (xs ys : List ℕ) → a ≡ b → length xs ≡ length ys →
        length (if a then lo ∷ xs else xs) ≡ length (if b then lo ∷ ys else ys)
    by true true xs ys e l = omega (arith, l)
    by true false xs ys e l = absurd (cc)
    by false true xs ys e l = absurd (cc)
    by false false xs ys e l = l

-- one number less passes, from what passes of those after the first
less_by : (p q : ℕ → Bool) (v lo n : ℕ) → lo ≤ v → v < lo + suc n → p v ≡ true → q v ≡ false →
    ((u : ℕ) → u ≢ v → p u ≡ q u) → (lo ≡ v) ⊎ (lo ≢ v) →
    (lo + 1 ≤ v → length (filter p (range_with_len (lo + 1) n)) ≡ 1 + length (filter q (range_with_len (lo + 1) n))) →
    length (filter p (range_with_len lo (suc n))) ≡ 1 + length (filter q (range_with_len lo (suc n)))
less_by p q v lo n low high first second same (inl here) rest =
    let yes : p lo ≡ true = ap p here ∙ first in
    let no : q lo ≡ false = ap q here ∙ second in
    let alike = filtered_alike p q v (lo + 1) n (omega (arith, here)) same in
    rw (yes, no) (omega (arith, alike))
less_by p q v lo n low high first second same (inr apart) rest =
    let more = rest (below lo v low apart) in
    rw (same lo apart) (either (q lo) _ _ more)
  where
    below : (a b : ℕ) → a ≤ b → a ≢ b → a + 1 ≤ b
    below a b le ne = elim (cases_lt a b) [
      | inl less ↦ omega (arith, less)
      | inr not_less ↦ absurd
          (ne (omega (arith, le, not_less)))
    ]

    either : (b : Bool) (xs ys : List ℕ) → length xs ≡ 1 + length ys →
        length (if b then lo ∷ xs else xs) ≡ 1 + length (if b then lo ∷ ys else ys)
    either true xs ys l = omega (arith, l)
    either false xs ys l = l

-- one number less passes
filtered_less : (p q : ℕ → Bool) (v lo n : ℕ) → lo ≤ v → v < lo + n → p v ≡ true → q v ≡ false →
    ((u : ℕ) → u ≢ v → p u ≡ q u) →
    length (filter p (range_with_len lo n)) ≡ 1 + length (filter q (range_with_len lo n))
filtered_less p q v lo zero low high first second same = absurd (omega (arith, low, high))
filtered_less p q v lo (suc n) low high first second same =
    less_by p q v lo n low high first second same (cases_eq lo v)
    (λ above. filtered_less p q v (lo + 1) n above (omega (arith, high)) first second same)

-- lists that both have a number or not are told alike
found_alike : (a b : List ℕ) (u : ℕ) → (Contains a u ↔ Contains b u) → list_any (nat_eq u) a ≡ list_any (nat_eq u) b
found_alike a b u same = by (list_any (nat_eq u) a) (list_any (nat_eq u) b) refl refl
  where
    by : (s t : Bool) → list_any (nat_eq u) a ≡ s → list_any (nat_eq u) b ≡ t → list_any (nat_eq u) a ≡ list_any
        (nat_eq u) b
    by true true e f = e ∙ sym f
    by false false e f = e ∙ sym f
    by true false e f = absurd (let g = is_found b u (same.0 (found_member u a e)) in cc)
    by false true e f = absurd (let g = is_found a u (same.1 (found_member u b f)) in cc)

not_found : (xs : List ℕ) (u : ℕ) → ¬ Contains xs u → list_any (nat_eq u) xs ≡ false
not_found xs u none = by (list_any (nat_eq u) xs) refl
  where
    by : (b : Bool) → list_any (nat_eq u) xs ≡ b → list_any (nat_eq u) xs ≡ false
    by true e = absurd (none (found_member u xs e))
    by false e = e

-- a leaf of the coalition that is found is one less of those that are left
pub one_less_left : (d v : ℕ) (coalition old new : List ℕ) → v < 2 ^ d → Contains coalition v → ¬ Contains old v →
    ((u : ℕ) → Contains new u ↔ ((u ≡ v) ⊎ Contains old u)) →
    length (not_among d old coalition) ≡ 1 + length (not_among d new coalition)
one_less_left d v coalition old new leaf member fresh joined =
    filtered_less (λ u. list_any (nat_eq u) coalition && not (list_any (nat_eq u) old))
    (λ u. list_any (nat_eq u) coalition && not (list_any (nat_eq u) new)) v 0 (2 ^ d) (omega arith)
    (omega (arith, leaf))
    (rw (is_found coalition v member, not_found old v fresh) refl)
    (rw (is_found coalition v member, is_found new v ((joined v).1 (inl refl))) refl)
    (λ u apart. ap (λ (b : Bool). list_any (nat_eq u) coalition && not b) (found_alike old new u (
      λ m. (joined u).1 (inr m),
      λ m. elim ((joined u).0 m) [ inl same ↦ absurd (apart same) | inr before ↦ before ],
    )))

-- where all are gone, none is left
pub none_left : (d : ℕ) (coalition gone : List ℕ) → ((u : ℕ) → u < 2 ^ d → Contains coalition u → Contains gone u) →
    length (not_among d gone coalition) ≡ 0
none_left d coalition gone all = none_from (λ u. list_any (nat_eq u) coalition && not (list_any (nat_eq u) gone)) 0
    (2 ^ d)
    (λ u within. by u within (list_any (nat_eq u) coalition) refl)
  where
    none_from : (p : ℕ → Bool) (lo n : ℕ) → ((u : ℕ) → u < lo + n → p u ≡ false) →
        length (filter p (range_with_len lo n)) ≡ 0
    none_from p lo zero none = refl
    none_from p lo (suc n) none = rw (none lo (omega arith))
        (none_from p (lo + 1) n (λ u within. none u (omega (arith, within))))

    by : (u : ℕ) → u < 0 + 2 ^ d → (b : Bool) → list_any (nat_eq u) coalition ≡ b →
        (list_any (nat_eq u) coalition && not (list_any (nat_eq u) gone)) ≡ false
    by u within false e = rw e refl
    by u within true e = rw (e, is_found gone u (all u (omega (arith, within)) (found_member u coalition e))) refl

-- where one is found, one is left
pub some_left : (d : ℕ) (coalition gone : List ℕ) (found : Found) → 1 ≤ d → d ≤ 20 → All (λ u. u < 2 ^ d) gone →
    IsRound d coalition gone found → 0 < length (not_among d gone coalition)
some_left d coalition gone found some small leaves round =
    let here = round_inside d coalition gone found some small leaves round in
    let test : ℕ → Bool = λ u. list_any (nat_eq u) coalition && not (list_any (nat_eq u) gone) in
    let rest : ℕ → Bool = λ u. test u && not (nat_eq u found.leaf) in
    let less = filtered_less test rest found.leaf 0 (2 ^ d) (omega arith) (omega (arith, here.0))
    (rw (is_found coalition found.leaf here.1, not_found gone found.leaf here.2) refl)
    (last_out (test found.leaf) (nat_eq found.leaf found.leaf) (eq-eqb found.leaf found.leaf refl))
    (λ u apart. still_in (test u) (nat_eq u found.leaf) (other u found.leaf apart)) in
    omega (arith, less)
  where
    last_out : (a b : Bool) → b ≡ true → (a && not b) ≡ false
    last_out true true e = refl
    last_out false true e = refl
    last_out a false e = absurd (cc)

    still_in : (a b : Bool) → b ≡ false → a ≡ (a && not b)
    still_in true b e = rw e refl
    still_in false b e = refl

    other : (u v : ℕ) → u ≢ v → nat_eq u v ≡ false
    other u v apart = by (nat_eq u v) refl
      where
        by : (b : Bool) → nat_eq u v ≡ b → nat_eq u v ≡ false
        by true e = absurd (apart (eqb-true u v e))
        by false e = e
