-- Lists of which one member is left out.
use Rattle.std.proofs.Common.{◌≡◌, refl, ℕ, zero, suc, ◌+◌, ◌-◌, ◌<◌, ◌≤◌, ◌||◌, Bool, true, false, if◌then◌else◌}
use Rattle.std.proofs.Common.{List, [], ◌∷◌, ◌++◌, map, filter, length, arith, sym, ap, ◌∙◌, inl, inr, ◌⊎◌}
use Rattle.std.specs.List.{list_any, range_with_len}
use Rattle.std.proofs.lemmas.Bool.{cases_lt}
use Rattle.std.proofs.lemmas.List.Folds.{list_any-append}
use Rattle.sd_law_losses.specs.Chosen.{chosen}

-- a test that one member fails is as true without it
pub any_without : {A : Type 0} (p : A → Bool) (xs ys : List A) (x : A) → p x ≡ false →
    list_any p (xs ++ ys) ≡ list_any p (xs ++ x ∷ ys)
any_without p xs ys x fails =
    list_any-append p xs ys
    ∙ sym (list_any-append p xs (x ∷ ys) ∙ ap (λ (b : Bool). list_any p xs || (b || list_any p ys)) fails)

-- what none passes none passes without one
pub none_without : {A : Type 0} (p : A → Bool) (xs ys : List A) (x : A) → list_any p (xs ++ x ∷ ys) ≡ false →
    list_any p (xs ++ ys) ≡ false
none_without p [] ys x none = by_test (p x) none
  where
    by_test : (b : Bool) → (b || list_any p ys) ≡ false → list_any p ys ≡ false
    by_test true none = absurd (cc none)
    by_test false none = none
none_without p (z ∷ xs) ys x none = by_test (p z) none (none_without p xs ys x)
  where
    by_test : (b : Bool) → (b || list_any p (xs ++ x ∷ ys)) ≡ false →
        (list_any p (xs ++ x ∷ ys) ≡ false → list_any p (xs ++ ys) ≡ false) → (b || list_any p (xs ++ ys)) ≡ false
    by_test true none rest = absurd (cc none)
    by_test false none rest = rest none

-- a member of two joined lists stands in the first or in the second
abbrev pub IsFirst : {A : Type 0} → List A → List A → List A → A → List A → Type 0
IsFirst {A} xs ys before x after = (rest : List A) × (xs ≡ before ++ x ∷ rest) × (after ≡ rest ++ ys)

abbrev pub IsSecond : {A : Type 0} → List A → List A → List A → A → List A → Type 0
IsSecond {A} xs ys before x after = (rest : List A) × (before ≡ xs ++ rest) × (ys ≡ rest ++ x ∷ after)

pub first_or_second : {A : Type 0} (xs ys before : List A) (x : A) (after : List A) →
    xs ++ ys ≡ before ++ x ∷ after → IsFirst xs ys before x after ⊎ IsSecond xs ys before x after
first_or_second [] ys before x after same = inr (before, refl, same)
first_or_second (z ∷ xs) ys [] x after same =
    let head : z ≡ x = cc same in
    let tail : xs ++ ys ≡ after = cc same in
    inl (xs, ap (λ (y : _). y ∷ xs) head, sym tail)
first_or_second (z ∷ xs) ys (w ∷ before) x after same =
    let head : z ≡ w = cc same in
    let tail : xs ++ ys ≡ before ++ x ∷ after = cc same in
    by_rest head (first_or_second xs ys before x after tail)
  where
    by_rest : z ≡ w → IsFirst xs ys before x after ⊎ IsSecond xs ys before x after →
        IsFirst (z ∷ xs) ys (w ∷ before) x after ⊎ IsSecond (z ∷ xs) ys (w ∷ before) x after
    by_rest head (inl (rest, first, last)) =
        inl (rest, ap (λ (y : _). y ∷ xs) head ∙ ap (λ (zs : List _). w ∷ zs) first, last)
    by_rest head (inr (rest, first, last)) =
        inr (rest, ap (λ (zs : List _). w ∷ zs) first ∙ ap (λ (y : _). y ∷ (xs ++ rest)) (sym head), last)

-- the choice that leaves out what stands between two lists
pub all_but : {A : Type 0} → List A → List A → List Bool
all_but [] ys = false ∷ map (λ y. true) ys
all_but (x ∷ xs) ys = true ∷ all_but xs ys

-- leaves it out of lists that are as long
all_chosen : {A : Type 0} {B : Type 0} (ys : List A) (qs : List B) → length qs ≡ length ys →
    chosen (map (λ y. true) ys) qs ≡ qs
unfolding chosen
all_chosen [] [] long = refl
all_chosen [] (q ∷ qs) long = absurd (omega (arith, long))
all_chosen (y ∷ ys) [] long = refl
all_chosen (y ∷ ys) (q ∷ qs) long = ap (λ (zs : List _). q ∷ zs) (all_chosen ys qs (omega (arith, long)))

pub chosen_beside : {A : Type 0} {B : Type 0} (xs ys : List A) (ps : List B) (q : B) (qs : List B) →
    length ps ≡ length xs → length qs ≡ length ys → chosen (all_but xs ys) (ps ++ q ∷ qs) ≡ ps ++ qs
unfolding chosen all_but
chosen_beside [] ys [] q qs first last = all_chosen ys qs last
chosen_beside [] ys (p ∷ ps) q qs first last = absurd (omega (arith, first))
chosen_beside (x ∷ xs) ys [] q qs first last = absurd (omega (arith, first))
chosen_beside (x ∷ xs) ys (p ∷ ps) q qs first last =
    ap (λ (zs : List _). p ∷ zs) (chosen_beside xs ys ps q qs (omega (arith, first)) last)

pub chosen_but : {A : Type 0} (xs : List A) (x : A) (ys : List A) → chosen (all_but xs ys) (xs ++ x ∷ ys) ≡ xs ++ ys
chosen_but xs x ys = chosen_beside xs ys xs x ys refl refl

-- one more that passes, where what passes one test passes the other
one_more : (b c : Bool) (m n k : ℕ) → (b ≡ true → c ≡ true) → m ≤ n + k →
    (if b then suc m else m) ≤ (if c then suc n else n) + k
one_more true true m n k both less = omega (arith, less)
one_more true false m n k both less = absurd (cc (both refl))
one_more false true m n k both less = omega (arith, less)
one_more false false m n k both less = less

-- or the other fails
one_lost : (b c : Bool) (m n k : ℕ) → 1 ≤ k → m ≤ n + (k - 1) → (if b then suc m else m) ≤ (if c then suc n else n) + k
one_lost true true m n k some less = omega (arith, less)
one_lost true false m n k some less = omega (arith, less, some)
one_lost false true m n k some less = omega (arith, less)
one_lost false false m n k some less = omega (arith, less)

length_of : (f : ℕ → Bool) (x : ℕ) (xs : List ℕ) →
    length (filter f (x ∷ xs)) ≡ (if f x then suc (length (filter f xs)) else length (filter f xs))
length_of f x xs = by_test (f x)
  where
    by_test : (b : Bool) → length (if b then x ∷ filter f xs else filter f xs)
        ≡ (if b then suc (length (filter f xs)) else length (filter f xs))
    by_test true = omega arith
    by_test false = refl

-- of ascending numbers that pass one test, all from `high` on pass another
few_below : (p q : ℕ → Bool) (high s m k : ℕ) → high ≤ k + s →
    ((j : ℕ) → s ≤ j → j < s + m → p j ≡ true → high ≤ j → q j ≡ true) →
    length (filter p (range_with_len s m)) ≤ length (filter q (range_with_len s m)) + k
few_below p q high s zero k near pass = omega arith
few_below p q high s (suc m) k near pass =
    rw (length_of p s (range_with_len (s + 1) m)) (rw (length_of q s (range_with_len (s + 1) m))
    (by_order (cases_lt s high) (λ n reach. few_below p q high (s + 1) m n reach
    (λ j from to. pass j (omega (arith, from)) (omega (arith, to))))))
  where
    by_order : (s < high) ⊎ (high ≤ s) →
        ((n : ℕ) → high ≤ n + (s + 1) → length (filter p (range_with_len (s + 1) m))
        ≤ length (filter q (range_with_len (s + 1) m)) + n) →
        (if p s then suc (length (filter p (range_with_len (s + 1) m)))
        else length (filter p (range_with_len (s + 1) m)))
        ≤ (if q s then suc (length (filter q (range_with_len (s + 1) m)))
        else length (filter q (range_with_len (s + 1) m))) + k
    by_order (inl below) rest = one_lost (p s) (q s) (length (filter p (range_with_len (s + 1) m)))
        (length (filter q (range_with_len (s + 1) m))) k (omega (arith, below, near))
        (rest (k - 1) (omega (arith, near)))
    by_order (inr above) rest = one_more (p s) (q s) (length (filter p (range_with_len (s + 1) m)))
        (length (filter q (range_with_len (s + 1) m))) k (λ is. pass s (omega arith) (omega arith) is above)
        (rest k (omega (arith, near)))

-- all but some of n that follow one another: so at most n fewer pass
pub few_between : (p q : ℕ → Bool) (low n s m : ℕ) →
    ((j : ℕ) → s ≤ j → j < s + m → p j ≡ true → (j < low) ⊎ (low + n ≤ j) → q j ≡ true) →
    length (filter p (range_with_len s m)) ≤ length (filter q (range_with_len s m)) + n
few_between p q low n s zero pass = omega arith
few_between p q low n s (suc m) pass =
    by_order (cases_lt s low) (λ _. few_between p q low n (s + 1) m
    (λ j from to. pass j (omega (arith, from)) (omega (arith, to))))
  where
    by_order : (s < low) ⊎ (low ≤ s) → (s < low → length (filter p (range_with_len (s + 1) m))
        ≤ length (filter q (range_with_len (s + 1) m)) + n) →
        length (filter p (range_with_len s (suc m))) ≤ length (filter q (range_with_len s (suc m))) + n
    by_order (inl below) rest =
        rw (length_of p s (range_with_len (s + 1) m)) (rw (length_of q s (range_with_len (s + 1) m))
        (one_more (p s) (q s) (length (filter p (range_with_len (s + 1) m)))
        (length (filter q (range_with_len (s + 1) m))) n (λ is. pass s (omega arith) (omega arith) is (inl below))
        (rest below)))
    by_order (inr above) rest = few_below p q (low + n) s (suc m) n (omega (arith, above))
        (λ j from to is beyond. pass j from to is (inr beyond))
