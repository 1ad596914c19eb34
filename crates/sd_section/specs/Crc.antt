-- Public meaning: the CRC over a section: a shift register of 32 bits.
use Rattle.std.specs.Prelude.{ℕ, zero, suc, ◌*◌, ◌/◌, ◌%◌, ◌^◌, ◌==◌, List, [], ◌∷◌, bit_xor, if◌then◌else◌}

-- after one more bit: moved up by one, and changed by the polynomial where the bit that leaves isn't the bit that comes
-- [ISO/IEC 13818-1, annex A]
unfoldable pub after_bit : ℕ → ℕ → ℕ
after_bit register bit = if register / 2 ^ 31 == bit then register * 2 % 2 ^ 32
    else bit_xor (register * 2 % 2 ^ 32) 0x04C11DB7

-- after the low n bits of a number, the highest of them first [ISO/IEC 13818-1, annex A]
unfoldable pub after_bits : ℕ → ℕ → ℕ → ℕ
after_bits register number zero = register
after_bits register number (suc n) = after_bits (after_bit register (number / 2 ^ n % 2)) number n

-- after a byte [ISO/IEC 13818-1, annex A]
abbrev pub after_byte : ℕ → ℕ → ℕ
after_byte register byte = after_bits register byte 8

-- after some bytes [ISO/IEC 13818-1, annex A]
unfoldable pub after_bytes : ℕ → List ℕ → ℕ
after_bytes register [] = register
after_bytes register (byte ∷ bytes) = after_bytes (after_byte register byte) bytes

-- CRC_32: before the first byte all bits of the register are 1 [ISO/IEC 13818-1, 2.4.4.3 and annex A]
unfoldable pub crc_of : List ℕ → ℕ
crc_of bytes = after_bytes 0xFFFFFFFF bytes
