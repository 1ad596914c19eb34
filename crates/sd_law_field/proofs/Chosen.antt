-- What is at rising places of a list, as a choice of it.
use Rattle.std.proofs.Common.{◌≡◌, refl, ℕ, zero, suc, ◌+◌, ◌-◌, ◌<◌, Bool, true, false, List, [], ◌∷◌, ◌++◌, map}
use Rattle.std.proofs.Common.{length, drop, get_or, arith, sym, ap, subst, ◌∙◌, inl, inr, append-nil, nat_eq}
use Rattle.std.specs.Prelude.{All}
use Rattle.std.specs.List.{list_any, range_with_len}
use Rattle.std.specs.List.Sorted.{IsStrictlyIncreasing}
use Rattle.std.proofs.lemmas.Bool.{cases_lt}
use Rattle.std.proofs.lemmas.Bool.Decides.{nat_tests}
use Rattle.std.proofs.lemmas.List.{length-map, take_all, drop_all}
use Rattle.std.proofs.lemmas.List.Elements.{All-nil, All-head, All-tail, All-weaker}
use Rattle.std.proofs.lemmas.List.FromFn.{length-range_with_len}
use Rattle.sd_spec.specs.Sent.{Item, Cat}
use Rattle.sd_law_losses.specs.Chosen.{chosen}
use Rattle.sd_law_losses.proofs.Later.{chosen_append}
use Rattle.sd_spec.specs.Watch.{at_places}
use Rattle.sd_law_field.specs.Times.{arrived_flags}
use Rattle.sd_law_field.proofs.Rising.{Rises, rises_lower, increasing_rises}

-- a number below all isn't among them
none_below : (s i : ℕ) (places : List ℕ) → Rises s places → i < s → list_any (nat_eq i) places ≡ false
none_below s i [] rises low = refl
none_below s i (p ∷ places) rises low =
    let first = rises.0 in
    let other : nat_eq i p ≡ false = grind (arith, nat_tests, first, low) in
    rw other (none_below (suc p) i places rises.1 (omega (arith, first, low)))

-- and to greater numbers a smaller one is nothing
flags_past : (p : ℕ) (places : List ℕ) (s n : ℕ) → p < s →
    map (λ i. list_any (nat_eq i) (p ∷ places)) (range_with_len s n)
    ≡ map (λ i. list_any (nat_eq i) places) (range_with_len s n)
flags_past p places s zero past = refl
flags_past p places s (suc n) past =
    let other : nat_eq s p ≡ false = grind (arith, nat_tests, past) in
    rw other (ap (λ (flags : List Bool). list_any (nat_eq s) places ∷ flags)
    (flags_past p places (s + 1) n (omega (arith, past))))

-- the places in a list with one element more before it
shifted : {A : Type 0} (none x : A) (xs : List A) (s : ℕ) (places : List ℕ) → Rises (suc s) places →
    map (λ i. get_or xs (i - (s + 1)) none) places ≡ map (λ i. get_or (x ∷ xs) (i - s) none) places
shifted none x xs s [] rises = refl
shifted none x xs s (p ∷ places) rises =
    let first = rises.0 in
    let e : p - s ≡ suc (p - (s + 1)) = omega (arith, first) in
    rw e (ap (λ ys. get_or xs (p - (s + 1)) none ∷ ys)
    (shifted none x xs s places (rises_lower (suc s) (suc p) places (omega (arith, first)) rises.1)))

-- the choice from place s on
chosen_from : {A : Type 0} (none : A) (s : ℕ) (xs : List A) (places : List ℕ) → Rises s places →
    All (λ i. i < s + length xs) places →
    chosen (map (λ i. list_any (nat_eq i) places) (range_with_len s (length xs))) xs
    ≡ map (λ i. get_or xs (i - s) none) places
unfolding chosen
chosen_from none s [] [] rises below = refl
chosen_from none s [] (p ∷ places) rises below =
    let first = rises.0 in
    let here = All-head (λ i. i < s + 0) p places below in
    absurd (omega (arith, first, here))
chosen_from none s (x ∷ xs) [] rises below =
    chosen_from none (s + 1) xs [] tt (All-nil (λ i. i < s + 1 + length xs))
chosen_from none s (x ∷ xs) (p ∷ places) rises below = elim (cases_lt s p) [
  | inl later ↦
      let off : list_any (nat_eq s) (p ∷ places) ≡ false =
      none_below (suc s) s (p ∷ places) (omega (arith, later), rises.1) (omega arith) in
      ap (λ b. chosen (b ∷ map (λ i. list_any (nat_eq i) (p ∷ places)) (range_with_len (s + 1) (length xs))) (x ∷ xs))
      off
      ∙ (chosen_from none (s + 1) xs (p ∷ places) (omega (arith, later), rises.1) (fewer (p ∷ places) below)
      ∙ shifted none x xs s (p ∷ places) (omega (arith, later), rises.1))
  | inr here ↦
      let first = rises.0 in
      let same : p ≡ s = omega (arith, here, first) in
      let after : Rises (suc s) places = rises_lower (suc s) (suc p) places (omega (arith, first)) rises.1 in
      subst (λ q. chosen (map (λ i. list_any (nat_eq i) (q ∷ places)) (range_with_len s (suc (length xs)))) (x ∷ xs)
      ≡ map (λ i. get_or (x ∷ xs) (i - s) none) (q ∷ places)) (sym same)
      (taken_here after (chosen_from none (s + 1) xs places (rises_lower (s + 1) (suc s) places (omega arith) after)
      (fewer places (All-tail (λ i. i < s + suc (length xs)) p places below))))
]
  where
    fewer : (ps : List ℕ) → All (λ i. i < s + suc (length xs)) ps → All (λ i. i < s + 1 + length xs) ps
    fewer ps all = All-weaker (λ i. i < s + suc (length xs)) (λ i. i < s + 1 + length xs)
        (λ i low. omega (arith, low)) ps all

    taken_here : Rises (suc s) places →
        chosen (map (λ i. list_any (nat_eq i) places) (range_with_len (s + 1) (length xs))) xs
        ≡ map (λ i. get_or xs (i - (s + 1)) none) places →
        chosen (map (λ i. list_any (nat_eq i) (s ∷ places)) (range_with_len s (suc (length xs)))) (x ∷ xs)
        ≡ map (λ i. get_or (x ∷ xs) (i - s) none) (s ∷ places)
    taken_here after rest =
        let on : list_any (nat_eq s) (s ∷ places) ≡ true = grind (arith, nat_tests) in
        let none_left : s - s ≡ 0 = omega arith in
        ap (λ b. chosen (b ∷ map (λ i. list_any (nat_eq i) (s ∷ places)) (range_with_len (s + 1) (length xs)))
        (x ∷ xs)) on
        ∙ (ap (λ (flags : List Bool). x ∷ chosen flags xs) (flags_past s places (s + 1) (length xs) (omega arith))
        ∙ (ap (λ ys. x ∷ ys) (rest ∙ shifted none x xs s places after)
        ∙ ap (λ n. get_or (x ∷ xs) n none ∷ map (λ i. get_or (x ∷ xs) (i - s) none) places) (sym none_left)))

-- counted from the list's start
from_start : {A : Type 0} (none : A) (xs : List A) (places : List ℕ) →
    map (λ i. get_or xs (i - 0) none) places ≡ map (λ i. get_or xs i none) places
from_start none xs [] = refl
from_start none xs (p ∷ places) =
    let e : p - 0 ≡ p = omega arith in
    rw e (ap (λ ys. get_or xs p none ∷ ys) (from_start none xs places))

-- what is at the places is what their flags choose
places_chosen : {A : Type 0} (none : A) (xs : List A) (places : List ℕ) → IsStrictlyIncreasing places →
    All (λ i. i < length xs) places → chosen (arrived_flags places (length xs)) xs ≡ at_places none xs places
unfolding arrived_flags at_places
places_chosen none xs places up below =
    chosen_from none 0 xs places (increasing_rises places up)
    (All-weaker (λ i. i < length xs) (λ i. i < 0 + length xs) (λ i low. omega (arith, low)) places below)
    ∙ from_start none xs places

-- so many flags as elements
flags_long : (places : List ℕ) (n : ℕ) → length (arrived_flags places n) ≡ n
unfolding arrived_flags
flags_long places n = length-map (range_with_len 0 n) (λ i. list_any (nat_eq i) places) ∙ length-range_with_len 0 n

-- and they choose the same of a longer list
flags_choose_of_more : {A : Type 0} (flags : List Bool) (xs ys : List A) → length flags ≡ length xs →
    chosen flags (xs ++ ys) ≡ chosen flags xs
unfolding chosen
flags_choose_of_more flags xs ys long =
    chosen_append flags xs ys
    ∙ (ap (λ (fs : List Bool). chosen fs xs ++ chosen (drop (length xs) flags) ys)
    (take_all (length xs) flags (omega (arith, long)))
    ∙ (ap (λ (fs : List Bool). chosen flags xs ++ chosen fs ys) (drop_all (length xs) flags (omega (arith, long)))
    ∙ append-nil (chosen flags xs)))

more_chosen : {A : Type 0} (none : A) (xs ys : List A) (places : List ℕ) → IsStrictlyIncreasing places →
    All (λ i. i < length xs) places → chosen (arrived_flags places (length xs)) (xs ++ ys) ≡ at_places none xs places
more_chosen none xs ys places up below =
    flags_choose_of_more (arrived_flags places (length xs)) xs ys (flags_long places (length xs))
    ∙ places_chosen none xs places up below

-- of packets, and of things
pub packets_chosen : (xs : List (List ℕ)) (places : List ℕ) → IsStrictlyIncreasing places →
    All (λ i. i < length xs) places → chosen (arrived_flags places (length xs)) xs ≡ at_places [] xs places
packets_chosen xs places up below = places_chosen [] xs places up below

pub items_chosen : (xs : List Item) (places : List ℕ) → IsStrictlyIncreasing places →
    All (λ i. i < length xs) places → chosen (arrived_flags places (length xs)) xs ≡ at_places Cat xs places
items_chosen xs places up below = places_chosen Cat xs places up below

pub packets_chosen_of_more : (xs ys : List (List ℕ)) (places : List ℕ) → IsStrictlyIncreasing places →
    All (λ i. i < length xs) places → chosen (arrived_flags places (length xs)) (xs ++ ys) ≡ at_places [] xs places
packets_chosen_of_more xs ys places up below = more_chosen [] xs ys places up below

pub items_chosen_of_more : (xs ys : List Item) (places : List ℕ) → IsStrictlyIncreasing places →
    All (λ i. i < length xs) places → chosen (arrived_flags places (length xs)) (xs ++ ys) ≡ at_places Cat xs places
items_chosen_of_more xs ys places up below = more_chosen Cat xs ys places up below
