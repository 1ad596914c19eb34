-- Inner: the register under bits 0.
use Rattle.std.specs.Prelude.{ℕ, zero, suc, ◌+◌, ◌*◌, ◌^◌}
use Rattle.sd_section.specs.Crc.{after_bit}

-- after n bits 0 [ISO/IEC 13818-1, annex A]
unfoldable pub steps : ℕ → ℕ → ℕ
steps zero register = register
steps (suc n) register = steps n (after_bit register 0)

-- the register that a byte at its top leads to, with so many bytes of zeros after it [ISO/IEC 13818-1, annex A]
unfoldable pub byte_register : ℕ → ℕ → ℕ
byte_register after byte = steps (8 * after + 8) (byte * 2 ^ 24)
