-- Decimals of 32 bits and others.
use Rattle.std.proofs.Common.{◌≡◌, ℕ, ◌^◌, ◌≤◌, Bool, true, false, nat_lt, Option, Some, None, Ok, Err, refl, ap}
use Rattle.std.specs.Prelude.{if◌then◌else◌}
use Rattle.std.proofs.lemmas.Bool.{ltb-false}
use Rattle.sd_base.specs.Number.{fitting_u32}
use Rattle.sd_base.specs.declared.decimals.NumberFault.{NumberFault}
use Rattle.sd_base.specs.declared.decimals.NumberFault.TheVariants.{TooLarge}

-- a number that fits is the one that was said
pub fits_is : (number : Option ℕ) (n : ℕ) → fitting_u32 number ≡ Ok n → number ≡ Some n
fits_is None n e = absurd cc
fits_is (Some m) n e = by (nat_lt m (2 ^ 32)) e
  where
    by : (b : Bool) → (if b then Ok m else Err TooLarge) ≡ Ok n → Some m ≡ Some n
    by true e = let same : m ≡ n = cc in ap Some same
    by false e = absurd cc

-- one that doesn't fit has more bits
pub misfit_high : (m : ℕ) (fault : NumberFault) → fitting_u32 (Some m) ≡ Err fault → 2 ^ 32 ≤ m
misfit_high m fault e = by (nat_lt m (2 ^ 32)) refl e
  where
    by : (b : Bool) → nat_lt m (2 ^ 32) ≡ b → (if b then Ok m else Err TooLarge) ≡ Err fault → 2 ^ 32 ≤ m
    by true t e = absurd cc
    by false t e = ltb-false m (2 ^ 32) t
