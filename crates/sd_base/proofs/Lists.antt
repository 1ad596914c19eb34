-- Lists, what their elements have, and values that may be missing.
use Rattle.std.proofs.Common.{◌≡◌, ℕ, zero, suc, ◌≤◌, Bool, true, false, cond, List, [], ◌∷◌, ◌++◌}
use Rattle.std.proofs.Common.{get_or, replicate, reverse, nat_eq, count_by, Option, Some, None, bytes_eq}
use Rattle.std.proofs.Common.{if◌then◌else◌, arith, refl, ap, ◌∙◌, ⊎_elim, append-nil, append_assoc, eq-eqb}
use Rattle.std.specs.Prelude.{All, AllPairs, Contains}
use Rattle.std.specs.List.{concat, list_any}
use Rattle.std.specs.Option.{option_map_or}
use Rattle.std.proofs.lemmas.Bool.{cases_Bool}
use Rattle.std.proofs.lemmas.List.{reverse-append}
use Rattle.std.proofs.lemmas.List.Elements.{All-nil, All-cons, All-head, All-tail, Contains-get_or}
use Rattle.std.proofs.lemmas.List.Folds.{list_any_at, concat-append}
use Rattle.std.proofs.lemmas.List.Sums.{sum_by-cons}
use Rattle.std.proofs.lemmas.Slice.Eq.{bytes_eq-Decides}

-- what holds of each member holds of all
pub all_by : {A : Type 0} (P : A → Type 0) (xs : List A) → ((x : A) → Contains xs x → P x) → All P xs
all_by P xs each k d within = each (get_or xs k d) (Contains-get_or xs k d within)

-- what holds of two lists holds of the first
pub all_first : {A : Type 0} (P : A → Type 0) (xs ys : List A) → All P (xs ++ ys) → All P xs
all_first P [] ys all = All-nil P
all_first P (x ∷ xs) ys all = All-cons P x xs (All-head P x (xs ++ ys) all) (all_first P xs ys (All-tail P x
    (xs ++ ys) all))

-- the first stands so to all after it, and those to one another
pub pair_parts : {A : Type 0} (R : A → A → Type 0) (x : A) (xs : List A) → AllPairs R (x ∷ xs) → All
    (R x) xs × AllPairs R xs
pair_parts R x xs up = (
  λ k d below. up 0 (suc k) d (omega arith) (omega (arith, below)),
  λ i j d before within. up (suc i) (suc j) d (omega (arith, before)) (omega (arith, within)),
)

-- no mark is set at the beginning
pub unmarked : (n u : ℕ) → get_or (replicate n false) u false ≡ false
unmarked zero zero = refl
unmarked zero (suc u) = refl
unmarked (suc n) zero = refl
unmarked (suc n) (suc u) = unmarked n u

-- a member that passes is found
pub any_there : {A : Type 0} (p : A → Bool) (xs : List A) (x : A) → Contains xs x → p x ≡ true → list_any p xs ≡ true
any_there p xs x (k, h, is) e = list_any_at p xs k x h (ap p is ∙ e)

-- a number in a list is found by the test
pub is_found : (xs : List ℕ) (u : ℕ) → Contains xs u → list_any (nat_eq u) xs ≡ true
is_found xs u there = any_there (nat_eq u) xs u there (eq-eqb u u refl)

-- where a test is counted, some element passes it
pub counted_any : {X : Type 0} (p : X → Bool) (xs : List X) → 1 ≤ count_by p xs → list_any p xs ≡ true
counted_any p [] some = absurd (omega arith)
counted_any p (x ∷ xs) some =
    let parts = sum_by-cons (λ z. cond (p z) 1 0) x xs in
    ⊎_elim (λ (e : p x ≡ true). rw e refl)
    (λ (e : p x ≡ false).
    let none : cond {A = ℕ} (p x) 1 0 ≡ 0 = rw e refl in
    rw (e, counted_any p xs (omega (arith, none, parts))) refl)
    (cases_Bool (p x))

-- equal bytes are found equal
pub equal_bytes : (xs ys : List ℕ) → xs ≡ ys → bytes_eq xs ys ≡ true
equal_bytes xs ys same = (bytes_eq-Decides xs ys).1 same

-- equal parts are equal together
pub same_parts : (a a' b b' : List ℕ) → a ≡ a' → b ≡ b' → a ++ b ≡ a' ++ b'
same_parts a a' b b' p q = rw (p, q) refl

-- joined to nothing, the first bytes are all
pub nothing_joined : (first last bytes : List ℕ) → last ≡ [] → bytes ≡ first ++ last → bytes ≡ first
nothing_joined first last bytes none joined = joined ∙ (ap (λ (xs : List ℕ). first ++ xs) none ∙ append-nil first)

-- the bytes of one piece more
pub concat_one : (pieces : List (List ℕ)) (piece : List ℕ) → concat (pieces ++ piece ∷ []) ≡ concat pieces ++ piece
concat_one pieces piece = concat-append pieces (piece ∷ [])
    ∙ ap (λ (xs : List ℕ). concat pieces ++ xs) (append-nil piece)

-- the last first: one piece more stands before those that were there
pub reversed : (packet : List ℕ) (packets past : List (List ℕ)) →
    reverse (packet ∷ packets) ++ past ≡ reverse packets ++ packet ∷ past
reversed packet packets past =
    ap (λ (ps : List (List ℕ)). ps ++ past) (reverse-append (packet ∷ []) packets)
    ∙ append_assoc (reverse packets) (packet ∷ []) past

-- nothing is added either way
pub last_out : (wrote : List (List ℕ)) (none : Bool) → wrote ++ (if none then [] else []) ≡ wrote
last_out wrote true = append-nil wrote
last_out wrote false = append-nil wrote

-- what is there is one value
pub same_held : (a b : List ℕ) → Some a ≡ Some b → a ≡ b
same_held a b is = cc

-- neither is there if the first of both is none
pub both_none : {A : Type 0} (first rest : Option A) → option_map_or Some first rest ≡ None →
    (first ≡ None) × (rest ≡ None)
both_none None rest none = (refl, none)
both_none (Some x) rest none = absurd (let no = none in cc)

-- the first is not there if neither is
pub first_none : {A : Type 0} (first rest : Option A) → option_map_or Some first rest ≡ None → first ≡ None
first_none first rest none = (both_none first rest none).0

-- nor is the other
pub rest_none : {A : Type 0} (first rest : Option A) → option_map_or Some first rest ≡ None → rest ≡ None
rest_none first rest none = (both_none first rest none).1
