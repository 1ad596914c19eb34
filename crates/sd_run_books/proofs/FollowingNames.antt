-- Numbers of names that follow each other.
use Rattle.std.proofs.Common.{◌≡◌, ℕ, ◌+◌, ◌^◌, ◌<◌, ◌≤◌, ◌==◌, Bool, true, false, nat_lt, List, []}
use Rattle.std.proofs.Common.{Option, Some, None, Ok, Err}
use Rattle.std.proofs.Common.{refl, sym, ap, ◌∙◌, arith, lt-ltb, le-ltb}
use Rattle.std.specs.Prelude.{◌&&◌}
use Rattle.std.proofs.lemmas.Bool.Decides.{nat_tests}
use Rattle.sd_base.specs.Number.{decimal_value, decimal_after, fitting_u32, rest_after}
use Rattle.sd_base.specs.declared.decimals.NumberFault.{NumberFault}
use Rattle.sd_base.proofs.Fitting.{fits_is, misfit_high}
use Rattle.sd_site_cards.specs.Chain.{most_word}
use Rattle.sd_run_books.specs.SiteNames.{is_one_up}

-- two decimals that are said
both_said : (digits next : List ℕ) (n m : ℕ) → fitting_u32 (decimal_after [] digits) ≡ Ok n →
    fitting_u32 (decimal_after [] next) ≡ Ok m →
    is_one_up (decimal_value digits) (decimal_value next) ≡ nat_lt n most_word && (m == n + 1)
unfolding rest_after
both_said digits next n m one other =
    ap (λ (o : Option ℕ). is_one_up o (decimal_value next)) (fits_is (decimal_value digits) n one)
    ∙ ap (is_one_up (Some n)) (fits_is (decimal_value next) m other)

-- the first of which is below the greatest number
pub said_below : (digits next : List ℕ) (n m : ℕ) → n < most_word → fitting_u32 (decimal_after [] digits) ≡ Ok n →
    fitting_u32 (decimal_after [] next) ≡ Ok m → (m == n + 1) ≡ is_one_up (decimal_value digits) (decimal_value next)
said_below digits next n m below one other =
    sym (both_said digits next n m one other ∙ ap (λ (b : Bool). b && (m == n + 1)) (lt-ltb n most_word below))

-- or is the greatest
pub said_top : (digits next : List ℕ) (n m : ℕ) → most_word ≤ n → fitting_u32 (decimal_after [] digits) ≡ Ok n →
    fitting_u32 (decimal_after [] next) ≡ Ok m → nat_lt n most_word ≡ is_one_up (decimal_value digits)
    (decimal_value next)
said_top digits next n m top one other =
    let least = le-ltb n most_word top in
    least ∙ sym (both_said digits next n m one other ∙ ap (λ (b : Bool). b && (m == n + 1)) least)

-- a number that is none of 32 bits is not followed
misfit_one : (o p : Option ℕ) (fault : NumberFault) → fitting_u32 o ≡ Err fault → is_one_up o p ≡ false
misfit_one None p fault e = refl
misfit_one (Some n) None fault e = refl
misfit_one (Some n) (Some m) fault e =
    let high = misfit_high n fault e in
    let above : nat_lt n most_word ≡ false = grind (arith, nat_tests, high) in
    rw above refl

pub first_unsaid : (digits next : List ℕ) (fault : NumberFault) → fitting_u32 (decimal_after [] digits) ≡ Err fault →
    is_one_up (decimal_value digits) (decimal_value next) ≡ false
unfolding rest_after
first_unsaid digits next fault e = misfit_one (decimal_value digits) (decimal_value next) fault e

-- and follows none
misfit_other : (o p : Option ℕ) (fault : NumberFault) → fitting_u32 p ≡ Err fault → is_one_up o p ≡ false
misfit_other None p fault e = refl
misfit_other (Some n) None fault e = refl
misfit_other (Some n) (Some m) fault e = beyond (nat_lt n most_word) refl
  where
    high : 2 ^ 32 ≤ m
    high = misfit_high m fault e

    beyond : (b : Bool) → nat_lt n most_word ≡ b → (b && (m == n + 1)) ≡ false
    beyond false below = refl
    beyond true below = grind (arith, nat_tests, high, below)

pub second_unsaid : (digits next : List ℕ) (fault : NumberFault) → fitting_u32 (decimal_after [] next) ≡ Err fault →
    is_one_up (decimal_value digits) (decimal_value next) ≡ false
unfolding rest_after
second_unsaid digits next fault e = misfit_other (decimal_value digits) (decimal_value next) fault e
