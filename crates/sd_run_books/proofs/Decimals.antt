-- Whether a text is a decimal, however large.
use Rattle.std.proofs.Common.{◌≡◌, ℕ, ◌^◌, Bool, true, false, List, [], Option, Some, None, Result, Ok, Err, nat_lt}
use Rattle.std.proofs.Common.{refl}
use Rattle.std.proofs.Common.{subst, sym, ap}
use Rattle.std.specs.Prelude.{is_some, if◌then◌else◌}
use Rattle.sd_base.specs.declared.decimals.NumberFault.{NumberFault}
use Rattle.sd_base.specs.declared.decimals.NumberFault.TheVariants.{Malformed, TooLarge}
use Rattle.sd_base.specs.Number.{decimal_value, rest_after, decimal_after, fitting_u32}
use Rattle.sd_base.proofs.Fitting.{fits_is}

-- a decimal of 32 bits
pub is_there : (u : ℕ) (text : List ℕ) → fitting_u32 (decimal_after [] text) ≡ Ok u →
    is_some (decimal_value text) ≡ true
unfolding rest_after
is_there u text e = ap is_some (fits_is (decimal_value text) u e)

-- a larger one
pub is_large : (text : List ℕ) → fitting_u32 (decimal_after [] text) ≡ Err TooLarge →
    is_some (decimal_value text) ≡ true
unfolding rest_after
is_large text e = by (decimal_value text) e
  where
    by : (n : Option ℕ) → fitting_u32 n ≡ Err TooLarge → is_some n ≡ true
    by None e = absurd cc
    by (Some n) e = refl

-- none
pub is_none : (text : List ℕ) → fitting_u32 (decimal_after [] text) ≡ Err Malformed →
    is_some (decimal_value text) ≡ false
unfolding rest_after
is_none text e = by (decimal_value text) e
  where
    by : (n : Option ℕ) → fitting_u32 n ≡ Err Malformed → is_some n ≡ false
    by None e = refl
    by (Some n) e = some (nat_lt n (2 ^ 32)) e
      where
        some : (b : Bool) → (if b then Ok n else Err TooLarge) ≡ Err Malformed → is_some (Some n) ≡ false
        some true e = absurd cc
        some false e = absurd cc
