-- Public meaning: bits of bytes, numbered as in the standard's tables: bit 0 is the top bit of the first byte.
use Rattle.std.specs.Prelude.{◌≡◌, ℕ, zero, suc, ◌+◌, ◌-◌, ◌*◌, ◌/◌, ◌%◌, ◌^◌, ◌≤◌, ◌⊎◌, List, slice_index}

-- bit k: of each byte the highest comes first [ISO/IEC 13818-1, 2.2.6]
abbrev pub bit : List ℕ → ℕ → ℕ
bit bytes k = slice_index bytes (k / 8) / 2 ^ (7 - k % 8) % 2

-- the n bits from bit `at` on as a number, the highest first [ISO/IEC 13818-1, 2.2.6]
unfoldable pub field : List ℕ → ℕ → ℕ → ℕ
field bytes at zero = 0
field bytes at (suc n) = field bytes at n * 2 + bit bytes (at + n)

-- the fields stand on different bits
abbrev pub AreApart : ℕ → ℕ → ℕ → ℕ → Type 0
AreApart at n other width = (other + width ≤ at) ⊎ (at + n ≤ other)

-- each bit outside of the n bits from `at` on is as it was
pub record KeepsOthers (at n : ℕ) (old new : List ℕ) : Type 0 where
  pub stays : (k : ℕ) → AreApart at n k 1 → bit new k ≡ bit old k
