-- A number that is read from bytes is written as those bytes, and a number that is written is read again.
use Rattle.std.proofs.Common.{◌≡◌, ◌≤◌, ◌<◌, ◌^◌, ◌++◌, ℕ, List, [], ◌∷◌, length, take, slice_index, arith}
use Rattle.byteorder.specs.Endian.{big_number, big_bytes}
use Rattle.byteorder.specs.Numbers.{big_number-reads_back}

-- each item is a byte
abbrev pub IsBytes : List ℕ → Type 0
IsBytes xs = (i : ℕ) → slice_index xs i < 256

-- the bytes of the number in two bytes are these bytes
pub two_again : (xs : List ℕ) → IsBytes xs → 2 ≤ length xs → big_bytes 2 (big_number 2 xs) ≡ take 2 xs
two_again [] b h = absurd (omega arith)
two_again (x ∷ []) b h = absurd (omega arith)
two_again (x ∷ y ∷ xs) b h = grind (arith, b 0, b 1)

-- the bytes of the number in four bytes are these bytes
pub four_again : (xs : List ℕ) → IsBytes xs → 4 ≤ length xs → big_bytes 4 (big_number 4 xs) ≡ take 4 xs
four_again [] b h = absurd (omega arith)
four_again (x ∷ []) b h = absurd (omega arith)
four_again (x ∷ y ∷ []) b h = absurd (omega arith)
four_again (x ∷ y ∷ z ∷ []) b h = absurd (omega arith)
four_again (x ∷ y ∷ z ∷ w ∷ xs) b h = grind (arith, b 0, b 1, b 2, b 3)

-- the bytes of the number in six bytes are these bytes
pub six_again : (xs : List ℕ) → IsBytes xs → 6 ≤ length xs → big_bytes 6 (big_number 6 xs) ≡ take 6 xs
six_again [] b h = absurd (omega arith)
six_again (x ∷ []) b h = absurd (omega arith)
six_again (x ∷ y ∷ []) b h = absurd (omega arith)
six_again (x ∷ y ∷ z ∷ []) b h = absurd (omega arith)
six_again (x ∷ y ∷ z ∷ w ∷ []) b h = absurd (omega arith)
six_again (x ∷ y ∷ z ∷ w ∷ u ∷ []) b h = absurd (omega arith)
six_again (x ∷ y ∷ z ∷ w ∷ u ∷ v ∷ xs) b h = grind (arith, b 0, b 1, b 2, b 3, b 4, b 5)

-- a number that was written into so many bytes, with others after them, is read again
pub number_again : (n x : ℕ) (rest : List ℕ) → x < 256 ^ n → big_number n (big_bytes n x ++ rest) ≡ x
number_again n x rest h = big_number-reads_back n x rest h
