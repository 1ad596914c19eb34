-- The numbers of words.
use Rattle.std.proofs.Common.{◌≡◌, ℕ, ◌<◌, ◌≤◌, ◌^◌, Bool, cond, List, [], Option, Some, None}
use Rattle.std.proofs.Common.{codes, if◌then◌else◌, nat_lt, true, false, Ok, Err, refl, sym, ap, ◌∙◌, arith, le-ltb}
use Rattle.std.proofs.Common.{lt-ltb}
use Rattle.sd_base.specs.Number.{decimal_value, decimal_after, rest_after, fitting_u32}
use Rattle.sd_base.specs.declared.decimals.NumberFault.{NumberFault}
use Rattle.sd_base.specs.declared.decimals.NumberFault.TheVariants.{Malformed, TooLarge}
use Rattle.sd_base.proofs.Fitting.{fits_is, misfit_high}
use Rattle.sd_command_base.specs.declared.status.Status.TheVariants.{BadWord}
use Rattle.sd_command_line.specs.Words.{at_most, number_of_word}
use Rattle.sd_command_line.specs.Reasons.{number_fault}

-- after no word stands the whole text
after_nothing : (text : List ℕ) → decimal_after [] text ≡ decimal_value text
unfolding rest_after
after_nothing text = refl

-- a number of 32 bits that is not above the most
pub number_taken : (word most n : ℕ) (text other : List ℕ) → text ≡ other → fitting_u32 (decimal_after [] text) ≡ Ok n →
    n ≤ most → Ok n ≡ number_of_word word most other
number_taken word most n text other same h le =
    sym (ap (λ (t : List ℕ). number_of_word word most t) (sym same)
    ∙ ap (at_most word most) (sym (after_nothing text) ∙ fits_is (decimal_after [] text) n h)
    ∙ ap (λ (b : Bool). cond b (Err (BadWord word)) (Ok n)) (le-ltb most n le))

-- a number that is above it
pub number_above : (word most n : ℕ) (text other : List ℕ) → text ≡ other → fitting_u32 (decimal_after [] text) ≡ Ok n →
    most < n → Err (BadWord word) ≡ number_of_word word most other
number_above word most n text other same h lt =
    sym (ap (λ (t : List ℕ). number_of_word word most t) (sym same)
    ∙ ap (at_most word most) (sym (after_nothing text) ∙ fits_is (decimal_after [] text) n h)
    ∙ ap (λ (b : Bool). cond b (Err (BadWord word)) (Ok n)) (lt-ltb most n lt))

-- a text that says no decimal
pub no_decimal : (text other : List ℕ) → text ≡ other → fitting_u32 (decimal_after [] text) ≡ Err Malformed →
    decimal_value other ≡ None
no_decimal text other same h =
    ap decimal_value (sym same) ∙ sym (after_nothing text) ∙ by (decimal_after [] text) h
  where
    small : (m : ℕ) (b : Bool) → (if b then Ok m else Err TooLarge) ≡ Err Malformed → Some m ≡ None
    small m true e = absurd cc
    small m false e = absurd cc

    by : (number : Option ℕ) → fitting_u32 number ≡ Err Malformed → number ≡ None
    by None e = refl
    by (Some m) e = small m (nat_lt m (2 ^ 32)) e

-- a text that says a decimal of 32 bits
pub small_decimal : (text other : List ℕ) (n : ℕ) → text ≡ other → fitting_u32 (decimal_after [] text) ≡ Ok n →
    decimal_value other ≡ Some n
small_decimal text other n same h =
    ap decimal_value (sym same) ∙ sym (after_nothing text) ∙ fits_is (decimal_after [] text) n h

-- a text that says a decimal of more bits is out of its range
pub large_decimal : (text other : List ℕ) → text ≡ other → fitting_u32 (decimal_after [] text) ≡ Err TooLarge →
    number_fault (decimal_value other) ≡ codes "out of its range; "
large_decimal text other same h =
    ap number_fault (ap decimal_value (sym same) ∙ sym (after_nothing text)) ∙ by (decimal_after [] text) h
  where
    by : (number : Option ℕ) → fitting_u32 number ≡ Err TooLarge →
        number_fault number ≡ codes "out of its range; "
    by None e = absurd cc
    by (Some m) e = refl

refused_number : (word most : ℕ) (number : Option ℕ) (fault : NumberFault) → most < 2 ^ 32 → fitting_u32 number
    ≡ Err fault → Err (BadWord word) ≡ at_most word most number
refused_number word most None fault fits h = refl
refused_number word most (Some m) fault fits h =
    sym (ap (λ (b : Bool). cond b (Err (BadWord word)) (Ok m))
    (lt-ltb most m (omega (arith, misfit_high m fault h, fits))))

-- a word that has no number of 32 bits
pub number_refused : (word most : ℕ) (text other : List ℕ) (fault : NumberFault) → most < 2 ^ 32 → text ≡ other →
    fitting_u32 (decimal_after [] text) ≡ Err fault
    → Err (BadWord word) ≡ number_of_word word most other
number_refused word most text other fault fits same h =
    refused_number word most (decimal_after [] text) fault fits h ∙ ap (at_most word most) (after_nothing text)
    ∙ ap (λ (t : List ℕ). number_of_word word most t) same
