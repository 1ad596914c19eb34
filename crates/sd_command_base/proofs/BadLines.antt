-- Lines that are refused.
use Rattle.std.proofs.Common.{◌≡◌, ℕ, ◌-◌, ◌^◌, ◌<◌, ◌≤◌, true, false, List, [], ◌++◌, length, drop, ap, refl}
use Rattle.std.proofs.Common.{◌∙◌, arith, pow_mono}
use Rattle.std.specs.Prelude.{replicate, nat_lt, Bool, if◌then◌else◌, Option, Some, None, Ok, Err}
use Rattle.std.proofs.lemmas.Bool.{lt-ltb, le-ltb}
use Rattle.std.proofs.lemmas.List.{drop-replicate}
use Rattle.sd_base.specs.Number.{decimal_value, rest_after, decimal_after, fitting_u32}
use Rattle.sd_base.specs.declared.decimals.NumberFault.TheVariants.{Malformed, TooLarge}
use Rattle.sd_base.proofs.Fitting.{fits_is, misfit_high}
use Rattle.sd_command_base.specs.declared.bad_line.LineCause.TheVariants.{Leaf, Descends}
use Rattle.sd_command_base.specs.BadLines.{excerpt_of, no_excerpt, most_site_shown, layout_of, number_cause, leaf_cause}

-- the zeros behind a line that was put over the first of them
pub zeros_behind : (line : List ℕ) → line ++ drop (length line) (replicate 48 0)
    ≡ line ++ replicate (48 - length line) 0
zeros_behind line = ap (λ (zeros : List ℕ). line ++ zeros) (drop-replicate (length line) 48 0)

-- an empty line
pub nothing_shown : excerpt_of most_site_shown [] ≡ no_excerpt
unfolding excerpt_of
nothing_shown = refl

-- a number of the tree on a line of a file of leaves
pub not_above : (d u : ℕ) (line : List ℕ) → fitting_u32 (decimal_after [] line) ≡ Ok u → u < 2 ^ d →
    leaf_cause d line ≡ Descends
unfolding rest_after leaf_cause
not_above d u line e below =
    ap (number_cause d line) (fits_is (decimal_value line) u e) ∙ rw (lt-ltb u (2 ^ d) below) refl

-- a larger number there
pub not_there : (d u : ℕ) (line : List ℕ) → fitting_u32 (decimal_after [] line) ≡ Ok u → 2 ^ d ≤ u →
    leaf_cause d line ≡ Leaf d
unfolding rest_after leaf_cause
not_there d u line e high =
    ap (number_cause d line) (fits_is (decimal_value line) u e) ∙ rw (le-ltb u (2 ^ d) high) refl

-- a number of more than 32 bits there
pub too_large : (d : ℕ) (line : List ℕ) → d ≤ 20 → fitting_u32 (decimal_after [] line) ≡ Err TooLarge →
    leaf_cause d line ≡ Leaf d
unfolding rest_after leaf_cause
too_large d line low e = by (decimal_value line) e
  where
    by : (n : Option ℕ) → fitting_u32 n ≡ Err TooLarge → number_cause d line n ≡ Leaf d
    by None e = absurd cc
    by (Some n) e =
        let high = misfit_high n TooLarge e in
        let above : nat_lt n (2 ^ d) ≡ false = le-ltb n (2 ^ d) (omega (arith, high, pow_mono {i = d} {j = 20} low)) in
        rw above refl

-- no number there
pub no_number : (d : ℕ) (line : List ℕ) → fitting_u32 (decimal_after [] line) ≡ Err Malformed →
    leaf_cause d line ≡ layout_of line
unfolding rest_after leaf_cause
no_number d line e = by (decimal_value line) e
  where
    by : (n : Option ℕ) → fitting_u32 n ≡ Err Malformed → number_cause d line n ≡ layout_of line
    by None e = refl
    by (Some n) e = some (nat_lt n (2 ^ 32)) e
      where
        some : (b : Bool) → (if b then Ok n else Err TooLarge) ≡ Err Malformed →
            number_cause d line (Some n) ≡ layout_of line
        some true e = absurd cc
        some false e = absurd cc
