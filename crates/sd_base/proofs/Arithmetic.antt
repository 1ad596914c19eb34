-- Numbers and the tests that compare them.
use Rattle.std.proofs.Common.{◌≡◌, ◌≢◌, ℕ, ◌+◌, ◌*◌, ◌/◌, ◌<◌, Bool, true, false, nat_eq, nat_le, arith, refl}
use Rattle.std.proofs.lemmas.Bool.{leb-true}
use Rattle.std.proofs.lemmas.Bool.Decides.{nat_tests}
use Rattle.sd_base.specs.Count.{HasRisen, HasNotRisen}

-- a number is found equal to itself
pub same_number : (n : ℕ) → nat_eq n n ≡ true
same_number n = grind (arith, nat_tests)

-- different numbers are found different
pub other_number : (n k : ℕ) → n ≢ k → nat_eq n k ≡ false
other_number n k h = grind (arith, nat_tests)

-- so are they in the other order
pub other_number_back : (n k : ℕ) → n ≢ k → nat_eq k n ≡ false
other_number_back n k h = grind (arith, nat_tests)

-- a number is not found at most one that is below it
pub above_fails : (a b : ℕ) (test : Bool) → nat_le a b ≡ test → b < a → test ≡ false
above_fails a b false e h = refl
above_fails a b true e h = absurd (omega (arith, leb-true a b e))

-- one more multiple
pub times_next : (d b : ℕ) → (d + 1) * b ≡ d * b + b
times_next d b = omega arith

-- the number of packets of so many bytes
pub packets_in : (bytes packets : ℕ) → bytes ≡ 188 * packets → bytes / 188 ≡ packets
packets_in bytes packets is = omega (arith, is)

-- a count did not rise, or it did
pub still_or_rose : (before now : ℕ) → HasNotRisen before now → HasRisen before now → ⊥
still_or_rose before now still rose = absurd (omega (arith, still, rose))
