-- The decimal of a leaf.
use Rattle.std.proofs.Common.{arith, ◌≡◌, ℕ, ◌<◌, ◌≤◌, ◌^◌, Bool, true, false, List, [], Option, Some, None}
use Rattle.std.proofs.Common.{Ok, Err}
use Rattle.std.proofs.Common.{nat_lt, refl, sym, ap, pow_mono}
use Rattle.std.proofs.lemmas.Bool.{lt-ltb, le-ltb, ltb-true}
use Rattle.sd_base.specs.declared.decimals.NumberFault.{NumberFault}
use Rattle.sd_base.specs.Number.{decimal_value, rest_after, decimal_after, fitting_u32}
use Rattle.sd_base.proofs.Fitting.{fits_is, misfit_high}
use Rattle.sd_run_books.specs.Line.{leaf_numbered, account_leaf}

-- a decimal of 32 bits says its number
pub said : (d u : ℕ) (text : List ℕ) → fitting_u32 (decimal_after [] text) ≡ Ok u →
    leaf_numbered d (Some u) ≡ account_leaf d text
unfolding rest_after
said d u text e = ap (leaf_numbered d) (sym (fits_is (decimal_value text) u e))

-- another is no leaf
pub unsaid : (d : ℕ) (text : List ℕ) (fault : NumberFault) → d ≤ 20 → fitting_u32 (decimal_after [] text) ≡ Err fault →
    account_leaf d text ≡ None
unfolding rest_after
unsaid d text fault low e = unsaid_by (decimal_value text) e
  where
    unsaid_by : (n : Option ℕ) → fitting_u32 n ≡ Err fault → leaf_numbered d n ≡ None
    unsaid_by None e = refl
    unsaid_by (Some n) e =
        let high = misfit_high n fault e in
        let above : nat_lt n (2 ^ d) ≡ false = le-ltb n (2 ^ d) (omega (arith, high, pow_mono {i = d} {j = 20} low)) in
        rw above refl

-- a number of the tree
pub there : (d u : ℕ) → u < 2 ^ d → Some u ≡ leaf_numbered d (Some u)
there d u low = rw (lt-ltb u (2 ^ d) low) refl

-- a number that it doesn't have
pub not_there : (d u : ℕ) → (u < 2 ^ d → ⊥) → None ≡ leaf_numbered d (Some u)
not_there d u none = rw (by (nat_lt u (2 ^ d)) refl) refl
  where
    by : (b : Bool) → nat_lt u (2 ^ d) ≡ b → nat_lt u (2 ^ d) ≡ false
    by true t = absurd (none (ltb-true u (2 ^ d) t))
    by false t = t
