-- Two ascending lists, merged.
use Rattle.std.proofs.Common.{arith, ◌≡◌, ℕ, zero, suc, ◌+◌, ◌==◌, ◌<◌, Bool, true, false, min, List, [], ◌∷◌}
use Rattle.std.proofs.Common.{Option, Some, None, cond, filter, get_or, length, drop, refl, ap, ◌∙◌, ◌≤◌}
use Rattle.std.specs.Prelude.{find, if◌then◌else◌}
use Rattle.std.specs.List.{range_with_len}
use Rattle.std.proofs.lemmas.Bool.Decides.{nat_tests}
use Rattle.std.proofs.lemmas.List.{drop_all}
use Rattle.sd_run_books.specs.Apart.{differ, first_differing}

-- the least number that one of two ascending lists has and the other doesn't
abbrev pub merged : List ℕ → List ℕ → Option ℕ
merged [] [] = None
merged (u ∷ us) [] = Some u
merged [] (v ∷ vs) = Some v
merged (u ∷ us) (v ∷ vs) = if u == v then merged us vs else Some (min u v)

-- a number before all others of both lists
apart_left : (u v : ℕ) (us vs : List ℕ) → u < v → merged (u ∷ us) (v ∷ vs) ≡ Some u
apart_left u v us vs below =
    let other : (u == v) ≡ false = grind (arith, nat_tests, below) in
    let least : min u v ≡ u = omega (arith, below) in
    rw (other, least) refl

apart_right : (u v : ℕ) (us vs : List ℕ) → v < u → merged (u ∷ us) (v ∷ vs) ≡ Some v
apart_right u v us vs below =
    let other : (u == v) ≡ false = grind (arith, nat_tests, below) in
    let least : min u v ≡ v = omega (arith, below) in
    rw (other, least) refl

same_first : (u : ℕ) (us vs : List ℕ) → merged (u ∷ us) (u ∷ vs) ≡ merged us vs
same_first u us vs =
    let same : (u == u) ≡ true = grind (arith, nat_tests) in
    rw same refl

alone_left : (test : ℕ → Bool) (u a n : ℕ) (us : List ℕ) → u < a →
    merged (u ∷ us) (filter test (range_with_len a n)) ≡ Some u
alone_left test u a zero us below = refl
alone_left test u a (suc n) us below =
    by_test (test a) (alone_left test u (a + 1) n us (omega (arith, below)))
  where
    by_test : (t : Bool) → merged (u ∷ us) (filter test (range_with_len (a + 1) n)) ≡ Some u →
        merged (u ∷ us) (cond t (a ∷ filter test (range_with_len (a + 1) n)) (filter test (range_with_len (a + 1) n)))
        ≡ Some u
    by_test true rest = apart_left u a us (filter test (range_with_len (a + 1) n)) below
    by_test false rest = rest

alone_right : (test : ℕ → Bool) (v a n : ℕ) (vs : List ℕ) → v < a →
    merged (filter test (range_with_len a n)) (v ∷ vs) ≡ Some v
alone_right test v a zero vs below = refl
alone_right test v a (suc n) vs below =
    by_test (test a) (alone_right test v (a + 1) n vs (omega (arith, below)))
  where
    by_test : (t : Bool) → merged (filter test (range_with_len (a + 1) n)) (v ∷ vs) ≡ Some v →
        merged (cond t (a ∷ filter test (range_with_len (a + 1) n)) (filter test (range_with_len (a + 1) n))) (v ∷ vs)
        ≡ Some v
    by_test true rest = apart_right a v (filter test (range_with_len (a + 1) n)) vs below
    by_test false rest = rest

-- one number more
merged_more : (p q : Bool) (a : ℕ) (us vs : List ℕ) (rest : Option ℕ) → merged us vs ≡ rest →
    merged (a ∷ us) vs ≡ Some a → merged us (a ∷ vs) ≡ Some a →
    merged (cond p (a ∷ us) us) (cond q (a ∷ vs) vs) ≡ cond (differ p q) (Some a) rest
merged_more true true a us vs rest is left right = same_first a us vs ∙ is
merged_more true false a us vs rest is left right = left
merged_more false true a us vs rest is left right = right
merged_more false false a us vs rest is left right = is

-- of what two tests let through, it is the first number of which one says yes alone
merged_from : (one other : ℕ → Bool) (a n : ℕ) →
    merged (filter one (range_with_len a n)) (filter other (range_with_len a n))
    ≡ find (λ u. differ (one u) (other u)) (range_with_len a n)
merged_from one other a zero = refl
merged_from one other a (suc n) =
    let us = filter one (range_with_len (a + 1) n) in
    let vs = filter other (range_with_len (a + 1) n) in
    merged_more (one a) (other a) a us vs (find (λ u. differ (one u) (other u)) (range_with_len (a + 1) n))
    (merged_from one other (a + 1) n) (alone_left other a (a + 1) n us (omega arith))
    (alone_right one a (a + 1) n vs (omega arith))

pub merged_is : (one other : ℕ → Bool) (n : ℕ) (us vs : List ℕ) → us ≡ filter one (range_with_len 0 n) →
    vs ≡ filter other (range_with_len 0 n) → merged us vs ≡ first_differing one other n
merged_is one other n us vs left right =
    ap (λ (xs : List ℕ). merged xs vs) left
    ∙ ap (merged (filter one (range_with_len 0 n))) right
    ∙ merged_from one other 0 n

-- the lists from a place on at which they have other numbers
pub apart_here : (us vs : List ℕ) (i u v : ℕ) → i < length us → i < length vs → get_or us i u ≡ u →
    get_or vs i v ≡ v → (u ≡ v → ⊥) → merged (drop i us) (drop i vs) ≡ Some (min u v)
apart_here [] vs i u v left right at_u at_v other = absurd (omega (arith, left))
apart_here (x ∷ us) [] i u v left right at_u at_v other = absurd (omega (arith, right))
apart_here (x ∷ us) (y ∷ vs) zero u v left right at_u at_v other =
    let unlike : (u == v) ≡ false = grind (arith, nat_tests, other) in
    rw (at_u, at_v, unlike) refl
apart_here (x ∷ us) (y ∷ vs) (suc i) u v left right at_u at_v other =
    apart_here us vs i u v (omega (arith, left)) (omega (arith, right)) at_u at_v other

-- from the end of one list on
left_alone : (us : List ℕ) (i u : ℕ) → i < length us → get_or us i u ≡ u → merged (drop i us) [] ≡ Some u
left_alone [] i u left at_u = absurd (omega (arith, left))
left_alone (x ∷ us) zero u left at_u = ap Some at_u
left_alone (x ∷ us) (suc i) u left at_u = left_alone us i u (omega (arith, left)) at_u

pub left_on : (us vs : List ℕ) (i u : ℕ) → i < length us → length vs ≤ i → get_or us i u ≡ u →
    merged (drop i us) (drop i vs) ≡ Some u
left_on us vs i u left right at_u = rw (drop_all i vs right) (left_alone us i u left at_u)

right_alone : (vs : List ℕ) (i v : ℕ) → i < length vs → get_or vs i v ≡ v → merged [] (drop i vs) ≡ Some v
right_alone [] i v right at_v = absurd (omega (arith, right))
right_alone (y ∷ vs) zero v right at_v = ap Some at_v
right_alone (y ∷ vs) (suc i) v right at_v = right_alone vs i v (omega (arith, right)) at_v

pub right_on : (us vs : List ℕ) (i v : ℕ) → length us ≤ i → i < length vs → get_or vs i v ≡ v →
    merged (drop i us) (drop i vs) ≡ Some v
right_on us vs i v left right at_v = rw (drop_all i us left) (right_alone vs i v right at_v)

-- from the end of both
pub both_end : (us vs : List ℕ) (i : ℕ) → length us ≤ i → length vs ≤ i → merged (drop i us) (drop i vs) ≡ None
both_end us vs i left right = rw (drop_all i us left, drop_all i vs right) refl
