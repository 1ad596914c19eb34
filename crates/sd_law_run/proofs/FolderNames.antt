-- Names of a chain's sites.
use Rattle.std.proofs.Common.{arith, ◌≡◌, ◌≢◌, ◌⊎◌, inl, inr, ℕ, suc, ◌+◌, ◌-◌, ◌^◌, ◌<◌, ◌≤◌, ◌==◌, Bool, true}
use Rattle.std.proofs.Common.{false, cond, not}
use Rattle.std.proofs.Common.{List, [], ◌∷◌, ◌++◌, length, take, drop, reverse, Option, Some, None, refl, sym}
use Rattle.std.proofs.Common.{ap, ◌∙◌, subst}
use Rattle.std.proofs.lemmas.Bool.{and_parts, and_from, cases_lt, eqb-true, ltb-true}
use Rattle.std.proofs.lemmas.Fmt.{decimal_nonempty, digits_decimal}
use Rattle.std.proofs.lemmas.List.{append_assoc, take_at, drop_at, length-append, reverse-reverse}
use Rattle.std.proofs.lemmas.List.{length-reverse, reverse-append}
use Rattle.std.proofs.lemmas.List.Folds.{list_all-append}
use Rattle.std.proofs.lemmas.List.Sums.{take_while-cons}
use Rattle.std.proofs.lemmas.Slice.Eq.{bytes_eq-Decides}
use Rattle.std.proofs.lemmas.Option.{same_Some}
use Rattle.std.specs.Prelude.{take_while, unwrap_or, nat_lt, bytes_eq}
use Rattle.std.specs.List.{list_all}
use Rattle.std.specs.Fmt.{decimal}
use Rattle.std.specs.Char.{is_ascii_digit}
use Rattle.sd_base.specs.Number.{decimal_value}
use Rattle.sd_base.proofs.Digits.{own}
use Rattle.sd_base.proofs.DecimalNumbers.{number_of_decimal, decimal_of_number}
use Rattle.sd_site_cards.specs.Chain.{most_word}
use Rattle.sd_run_books.specs.SiteNames.{after_number, before_number, digits_in, follows, is_one_up}
use Rattle.sd_law_run.specs.Folders.{site_name_at}

-- a list is empty, or its first element fails a test
abbrev pub Fails : (ℕ → Bool) → List ℕ → Type 0
Fails p [] = Unit {0}
Fails p (x ∷ xs) = p x ≡ false

-- what passes before what fails is all that is taken
passing : (p : ℕ → Bool) (xs ys : List ℕ) → list_all p xs ≡ true → Fails p ys → take_while p (xs ++ ys) ≡ xs
passing p [] [] all fails = refl
passing p [] (y ∷ ys) all fails =
    take_while-cons p y ys ∙ ap (λ (b : Bool). cond b (y ∷ take_while p ys) []) fails
passing p (x ∷ xs) ys all fails =
    let parts = and_parts (p x) (list_all p xs) all in
    take_while-cons p x (xs ++ ys) ∙ (ap (λ (b : Bool). cond b (x ∷ take_while p (xs ++ ys)) []) parts.0
    ∙ ap (λ (r : List ℕ). x ∷ r) (passing p xs ys parts.1 fails))

-- what is taken passes
taken_passes : (p : ℕ → Bool) (xs : List ℕ) → list_all p (take_while p xs) ≡ true
taken_passes p [] = refl
taken_passes p (x ∷ xs) = ap (list_all p) (take_while-cons p x xs) ∙ by_test (p x) refl (taken_passes p xs)
  where
    by_test : (b : Bool) → p x ≡ b → list_all p (take_while p xs) ≡ true →
        list_all p (cond b (x ∷ take_while p xs) []) ≡ true
    by_test true is others = and_from _ _ is others
    by_test false is others = refl

-- and what is left fails
left_fails : (p : ℕ → Bool) (xs : List ℕ) → Fails p (drop (length (take_while p xs)) xs)
left_fails p [] = tt
left_fails p (x ∷ xs) =
    subst (λ (r : List ℕ). Fails p (drop (length r) (x ∷ xs))) (sym (take_while-cons p x xs))
    (by_test (p x) refl (left_fails p xs))
  where
    by_test : (b : Bool) → p x ≡ b → Fails p (drop (length (take_while p xs)) xs) →
        Fails p (drop (length (cond b (x ∷ take_while p xs) [])) (x ∷ xs))
    by_test true is others = others
    by_test false is others = is

-- the two are the whole
cut_whole : (p : ℕ → Bool) (xs : List ℕ) → take_while p xs ++ drop (length (take_while p xs)) xs ≡ xs
cut_whole p [] = refl
cut_whole p (x ∷ xs) = ap (λ (r : List ℕ). r ++ drop (length r) (x ∷ xs)) (take_while-cons p x xs)
    ∙ by_test (p x) (cut_whole p xs)
  where
    by_test : (b : Bool) → take_while p xs ++ drop (length (take_while p xs)) xs ≡ xs →
        cond b (x ∷ take_while p xs) [] ++ drop (length (cond b (x ∷ take_while p xs) [])) (x ∷ xs) ≡ x ∷ xs
    by_test true others = ap (λ (r : List ℕ). x ∷ r) others
    by_test false others = refl

-- a byte is no digit
abbrev pub is_other : ℕ → Bool
is_other c = not (is_ascii_digit c)

-- a test of each element doesn't ask for their order
all_reversed : (p : ℕ → Bool) (xs : List ℕ) → list_all p xs ≡ true → list_all p (reverse xs) ≡ true
all_reversed p [] all = refl
all_reversed p (x ∷ xs) all =
    let parts = and_parts (p x) (list_all p xs) all in
    ap (list_all p) (reverse-append (x ∷ []) xs)
    ∙ (list_all-append p (reverse xs) (x ∷ []) ∙ and_from _ _ (all_reversed p xs parts.1) (and_from _ _ parts.0 refl))

-- a name is cut at its last number
pub record IsCut (name before digits after : List ℕ) : Type 0 where
  pub whole : name ≡ before ++ (digits ++ after)
  pub after_is : list_all is_other (reverse after) ≡ true
  pub digits_are : list_all is_ascii_digit (reverse digits) ≡ true
  pub before_ends : Fails is_ascii_digit (reverse before)
  pub some : Fails is_other (reverse digits ++ reverse before)

-- the name from its end
from_end : (before digits after : List ℕ) →
    reverse (before ++ (digits ++ after)) ≡ reverse after ++ (reverse digits ++ reverse before)
from_end before digits after =
    reverse-append before (digits ++ after) ∙ (ap (λ (r : List ℕ). r ++ reverse before) (reverse-append digits after)
    ∙ append_assoc (reverse after) (reverse digits) (reverse before))

-- so it is read again
pub cut_read : (name before digits after : List ℕ) → IsCut name before digits after →
    (before_number name ≡ before) × (digits_in name ≡ digits) × (after_number name ≡ after)
cut_read name before digits after cut =
    let turned : reverse name ≡ reverse after ++ (reverse digits ++ reverse before) =
    ap reverse cut.whole ∙ from_end before digits after in
    let last : after_number name ≡ after =
    ap (λ (r : List ℕ). reverse (take_while is_other r)) turned
    ∙ (ap reverse (passing is_other (reverse after) (reverse digits ++ reverse before) cut.after_is cut.some)
    ∙ reverse-reverse after) in
    let rest : drop (length (after_number name)) (reverse name) ≡ reverse digits ++ reverse before =
    ap (λ (r : List ℕ). drop (length r) (reverse name)) last
    ∙ (ap (drop (length after)) turned
    ∙ drop_at (reverse after) (reverse digits ++ reverse before) (length after) (length-reverse after)) in
    let number : digits_in name ≡ digits =
    ap (λ (r : List ℕ). reverse (take_while is_ascii_digit r)) rest
    ∙ (ap reverse (passing is_ascii_digit (reverse digits) (reverse before) cut.digits_are cut.before_ends)
    ∙ reverse-reverse digits) in
    let size : length name - length digits - length after ≡ length before =
    omega (
      arith,
      ap (λ (r : List ℕ). length r) cut.whole,
      length-append before (digits ++ after),
      length-append digits after,
    ) in
    let first : before_number name ≡ before =
    ap (λ (r : List ℕ). take (length name - length r - length (after_number name)) name) number
    ∙ (ap (λ (r : List ℕ). take (length name - length digits - length r) name) last
    ∙ (ap (λ (k : ℕ). take k name) size
    ∙ (ap (take (length before)) cut.whole ∙ take_at before (digits ++ after) (length before) refl))) in
    (first, number, last)

-- digits that are some are not left out
digits_some : (digits before : List ℕ) → list_all is_ascii_digit digits ≡ true → 0 < length digits →
    Fails is_other (digits ++ before)
digits_some [] before all some = absurd (omega (arith, some))
digits_some (x ∷ xs) before all some = ap not (and_parts (is_ascii_digit x) (list_all is_ascii_digit xs) all).0

-- a number is no empty text
number_some : (digits : List ℕ) (n : ℕ) → decimal_value digits ≡ Some n → 0 < length digits
unfolding decimal_value
number_some [] n e = absurd cc
number_some (x ∷ xs) n e = omega arith

-- a name with a number is cut at it
pub cut_at_number : (name : List ℕ) (n : ℕ) → decimal_value (digits_in name) ≡ Some n →
    IsCut name (before_number name) (digits_in name) (after_number name)
cut_at_number name n is =
    let turned = reverse name in
    let last = take_while is_other turned in
    let rest = drop (length last) turned in
    let number = take_while is_ascii_digit rest in
    let first = drop (length number) rest in
    let same : drop (length (after_number name)) turned ≡ rest =
    ap (λ (k : ℕ). drop k turned) (length-reverse last) in
    let digits : digits_in name ≡ reverse number = ap (λ (r : List ℕ). reverse (take_while is_ascii_digit r)) same in
    let back : number ≡ reverse (digits_in name) = sym (ap reverse digits ∙ reverse-reverse number) in
    let all : last ++ (number ++ first) ≡ turned =
    ap (λ (r : List ℕ). last ++ r) (cut_whole is_ascii_digit rest) ∙ cut_whole is_other turned in
    let whole : name ≡ reverse first ++ (reverse number ++ reverse last) =
    sym (reverse-reverse name) ∙ (ap reverse (sym all)
    ∙ (reverse-append last (number ++ first)
    ∙ (ap (λ (r : List ℕ). r ++ reverse last) (reverse-append number first)
    ∙ append_assoc (reverse first) (reverse number) (reverse last)))) in
    let size : length name - length (digits_in name) - length (after_number name) ≡ length (reverse first) =
    omega (
      arith,
      ap (λ (r : List ℕ). length r) whole,
      ap (λ (r : List ℕ). length r) digits,
      length-append (reverse first) (reverse number ++ reverse last),
      length-append (reverse number) (reverse last),
    ) in
    let before : before_number name ≡ reverse first =
    ap (λ (k : ℕ). take k name) size
    ∙ (ap (take (length (reverse first))) whole
    ∙ take_at (reverse first) (reverse number ++ reverse last) (length (reverse first)) refl) in
    let ends : reverse (before_number name) ≡ first = ap reverse before ∙ reverse-reverse first in
    let passes : list_all is_ascii_digit (reverse (digits_in name)) ≡ true =
    ap (list_all is_ascii_digit) (sym back) ∙ taken_passes is_ascii_digit rest in
    record {
      whole = whole ∙ (ap (λ (r : List ℕ). r ++ (reverse number ++ reverse last)) (sym before)
          ∙ ap (λ (r : List ℕ). before_number name ++ (r ++ reverse last)) (sym digits));
      after_is = ap (list_all is_other) (reverse-reverse last) ∙ taken_passes is_other turned;
      digits_are = passes;
      before_ends = subst (Fails is_ascii_digit) (sym ends) (left_fails is_ascii_digit rest);
      some = digits_some (reverse (digits_in name)) (reverse (before_number name)) passes
          (omega (arith, length-reverse (digits_in name), number_some (digits_in name) n is));
    }

-- the name with another number is cut at that
number_cut : (name : List ℕ) (n m : ℕ) → decimal_value (digits_in name) ≡ Some n → m < 2 ^ 64 →
    IsCut (before_number name ++ (decimal m ++ after_number name)) (before_number name) (decimal m) (after_number name)
number_cut name n m is low =
    let cut = cut_at_number name n is in
    let passes = all_reversed is_ascii_digit (decimal m) (digits_decimal own m low) in
    record {
      whole = refl;
      after_is = cut.after_is;
      digits_are = passes;
      before_ends = cut.before_ends;
      some = digits_some (reverse (decimal m)) (reverse (before_number name)) passes
          (omega (arith, length-reverse (decimal m), decimal_nonempty m low));
    }

-- what stands round the number of a name of the chain, and the number
pub named_parts : (name : List ℕ) (n i : ℕ) → decimal_value (digits_in name) ≡ Some n → n + i < 2 ^ 64 →
    (before_number (site_name_at name i) ≡ before_number name) × (decimal_value (digits_in (site_name_at name i))
    ≡ Some (n + i))
    × (after_number (site_name_at name i) ≡ after_number name)
unfolding site_name_at
named_parts name n i is low =
    let shape : site_name_at name i ≡ before_number name ++ (decimal (n + i) ++ after_number name) =
    ap (λ (o : Option ℕ). before_number name ++ (decimal (unwrap_or o 0 + i) ++ after_number name)) is in
    let read = cut_read _ _ _ _ (number_cut name n (n + i) is low) in (
      ap before_number shape ∙ read.0,
      ap (λ (r : List ℕ). decimal_value (digits_in r)) shape
          ∙ (ap decimal_value read.1 ∙ number_of_decimal (n + i) low),
      ap after_number shape ∙ read.2,
    )

-- two names of a chain are one if their numbers are
pub names_differ : (name : List ℕ) (n i j : ℕ) → decimal_value (digits_in name) ≡ Some n → n + i < 2 ^ 64 →
    n + j < 2 ^ 64 → site_name_at name i ≡ site_name_at name j → i ≡ j
names_differ name n i j is a b same =
    let one = named_parts name n i is a in
    let other = named_parts name n j is b in
    let numbers : n + i ≡ n + j = same_Some (n + i) (n + j) (sym one.1
    ∙ (ap (λ (r : List ℕ). decimal_value (digits_in r)) same ∙ other.1)) in
    omega (arith, numbers)

-- a name whose number is that is the one of the chain
named_so : (name other : List ℕ) (n m i : ℕ) → decimal_value (digits_in name) ≡ Some n →
    decimal_value (digits_in other) ≡ Some m → m ≡ n + i → m < 2 ^ 64 →
    before_number other ≡ before_number name → after_number other ≡ after_number name → other ≡ site_name_at name i
unfolding site_name_at
named_so name other n m i is said number low before after =
    let cut = cut_at_number other m said in
    let shape : site_name_at name i ≡ before_number name ++ (decimal (n + i) ++ after_number name) =
    ap (λ (o : Option ℕ). before_number name ++ (decimal (unwrap_or o 0 + i) ++ after_number name)) is in
    cut.whole
    ∙ (ap (λ (r : List ℕ). r ++ (digits_in other ++ after_number other)) before
    ∙ (ap (λ (r : List ℕ). before_number name ++ (r ++ after_number other))
    (decimal_of_number (digits_in other) m low said ∙ ap decimal number)
    ∙ (ap (λ (r : List ℕ). before_number name ++ (decimal (n + i) ++ r)) after ∙ sym shape)))

-- the name itself is the first
pub named_first : (name : List ℕ) (n : ℕ) → decimal_value (digits_in name) ≡ Some n → n < 2 ^ 64 →
    name ≡ site_name_at name 0
named_first name n is low = named_so name name n n 0 is is (omega arith) low refl refl

-- the number before one
one_up : (o p : Option ℕ) (k : ℕ) → is_one_up o p ≡ true → p ≡ Some k → (m : ℕ) × (o ≡ Some m) × (k ≡ m + 1)
    × (m < most_word)
one_up None p k e is = absurd cc
one_up (Some m) None k e is = absurd cc
one_up (Some m) (Some found) k e is =
    let parts = and_parts (nat_lt m most_word) (found == m + 1) e in
    (m, refl, sym (same_Some found k is) ∙ eqb-true found (m + 1) parts.1, ltb-true m most_word parts.0)

-- if a name of a chain follows a name, that is the name before it
pub named_before : (name site out : List ℕ) (n k : ℕ) → decimal_value (digits_in name) ≡ Some n →
    n + suc k ≤ most_word → out ≡ site_name_at name (suc k) → follows site out ≡ true → site ≡ site_name_at name k
unfolding follows
named_before name site out n k is low out_is follow =
    let parts = and_parts (bytes_eq (before_number site) (before_number out)) _ follow in
    let rest = and_parts (bytes_eq (after_number site) (after_number out)) _ parts.1 in
    let named = named_parts name n (suc k) is (omega (arith, low)) in
    let (m, said, number, below) = one_up (decimal_value (digits_in site)) (decimal_value (digits_in out)) (n + suc k)
    rest.1 (ap (λ (r : List ℕ). decimal_value (digits_in r)) out_is ∙ named.1) in
    named_so name site n m k is said (omega (arith, number)) (omega (arith, below))
    ((bytes_eq-Decides _ _).0 parts.0 ∙ (ap before_number out_is ∙ named.0))
    ((bytes_eq-Decides _ _).0 rest.0 ∙ (ap after_number out_is ∙ named.2))

-- a name is one of a chain's, or none of them
pub find_name : (name out : List ℕ) (n : ℕ) → decimal_value (digits_in name) ≡ Some n →
    ((i : ℕ) × (n + i ≤ most_word) × (out ≡ site_name_at name i)) ⊎ ((i : ℕ) → n + i ≤ most_word →
    out ≢ site_name_at name i)
find_name name out n is = by_number (decimal_value (digits_in out)) refl
  where
    number_of : (i : ℕ) → n + i ≤ most_word → out ≡ site_name_at name i → decimal_value (digits_in out) ≡ Some (n + i)
    number_of i low same = ap (λ (r : List ℕ). decimal_value (digits_in r)) same
        ∙ (named_parts name n i is (omega (arith, low))).1

    by_text : (k : ℕ) → decimal_value (digits_in out) ≡ Some k → n ≤ k → k ≤ most_word → (b : Bool) →
        bytes_eq out (site_name_at name (k - n)) ≡ b →
        ((i : ℕ) × (n + i ≤ most_word) × (out ≡ site_name_at name i)) ⊎ ((i : ℕ) → n + i ≤ most_word →
        out ≢ site_name_at name i)
    by_text k said least most true e = inl (k - n, omega (arith, least, most), (bytes_eq-Decides _ _).0 e)
    by_text k said least most false e = inr (λ i low same.
        let number : k ≡ n + i = same_Some k (n + i) (sym said ∙ number_of i low same) in
        let place : k - n ≡ i = omega (arith, number) in
        let there : out ≡ site_name_at name (k - n) = same ∙ ap (site_name_at name) (sym place) in
        absurd (let f = sym ((bytes_eq-Decides out (site_name_at name (k - n))).1 there) ∙ e in cc))

    by_number : (o : Option ℕ) → decimal_value (digits_in out) ≡ o →
        ((i : ℕ) × (n + i ≤ most_word) × (out ≡ site_name_at name i)) ⊎ ((i : ℕ) → n + i ≤ most_word →
        out ≢ site_name_at name i)
    by_number None said = inr (λ i low same. absurd (let f = sym said ∙ number_of i low same in cc))
    by_number (Some k) said = elim (cases_lt k n) [
      | inl lt ↦ inr (λ i low same.
          absurd (omega (arith, lt, same_Some k (n + i) (sym said ∙ number_of i low same))))
      | inr least ↦ elim (cases_lt most_word k) [
        | inl lt ↦ inr (λ i low same.
            absurd (omega (arith, lt, low, same_Some k (n + i) (sym said ∙ number_of i low same))))
        | inr most ↦ by_text k said least most (bytes_eq out (site_name_at name (k - n))) refl
      ]
    ]
