-- The register is linear: a bit acts on it as if it were added to it at its top.
use Rattle.std.proofs.Common.{ℕ, ◌+◌, ◌*◌, ◌/◌, ◌%◌, ◌^◌, ◌<◌, ◌≡◌, ◌⊎◌, inl, inr, refl, sym, ap, ◌∙◌, arith}
use Rattle.std.specs.Prelude.{bit_xor}
use Rattle.std.proofs.lemmas.Bool.{cases_lt}
use Rattle.std.proofs.lemmas.Nat.{xor_block, xor_mod, xor_shr, xor_of_32}
use lib.Bits.{xor_assoc, xor_zero_r}
use Rattle.sd_section.specs.Crc.{after_bit}
use Rattle.sd_section.proofs.Xor.{xor_swap, xor_twice}

-- a register moved up by one
up : ℕ → ℕ
up register = register * 2 % 2 ^ 32

up_xor : (x y : ℕ) → up (bit_xor x y) ≡ bit_xor (up x) (up y)
unfolding up
up_xor x y =
    let left : x * 2 ^ 1 + 0 ≡ x * 2 = omega arith in
    let right : y * 2 ^ 1 + 0 ≡ y * 2 = omega arith in
    let both : bit_xor x y * 2 ^ 1 + 0 ≡ bit_xor x y * 2 = omega arith in
    let twice : bit_xor (x * 2) (y * 2) ≡ bit_xor x y * 2 =
    rw (sym left, sym right) (xor_block 1 x y 0 0 (omega arith) (omega arith) ∙ both) in
    ap (λ (n : ℕ). n % 2 ^ 32) (sym twice) ∙ xor_mod (x * 2) (y * 2) 32

up_below : (x : ℕ) → up x < 2 ^ 32
unfolding up
up_below x = omega arith

-- its top bit is 0 or 1
top : (x : ℕ) → x < 2 ^ 32 → (x / 2 ^ 31 ≡ 0) ⊎ (x / 2 ^ 31 ≡ 1)
top x h = elim (cases_lt x (2 ^ 31)) [ inl low ↦ inl (omega arith) | inr high ↦ inr (omega arith) ]

abbrev polynomial : ℕ
polynomial = 0x04C11DB7

-- the register under a bit, by its top bit
low_0 : (x : ℕ) → x / 2 ^ 31 ≡ 0 → after_bit x 0 ≡ up x
unfolding after_bit up
low_0 x e = rw e refl

high_0 : (x : ℕ) → x / 2 ^ 31 ≡ 1 → after_bit x 0 ≡ bit_xor (up x) polynomial
unfolding after_bit up
high_0 x e = rw e refl

low_1 : (x : ℕ) → x / 2 ^ 31 ≡ 0 → after_bit x 1 ≡ bit_xor (up x) polynomial
unfolding after_bit up
low_1 x e = rw e refl

high_1 : (x : ℕ) → x / 2 ^ 31 ≡ 1 → after_bit x 1 ≡ up x
unfolding after_bit up
high_1 x e = rw e refl

-- a register is a number of 32 bits
zero_below : (x : ℕ) → x < 2 ^ 32 → after_bit x 0 < 2 ^ 32
zero_below x h = elim (top x h) [
  | inl low ↦ rw (low_0 x low) (up_below x)
  | inr high ↦ rw (high_0 x high) (xor_of_32 (up x) polynomial (up_below x) (omega arith))
]

one_below : (x : ℕ) → x < 2 ^ 32 → after_bit x 1 < 2 ^ 32
one_below x h = elim (top x h) [
  | inl low ↦ rw (low_1 x low) (xor_of_32 (up x) polynomial (up_below x) (omega arith))
  | inr high ↦ rw (high_1 x high) (up_below x)
]

pub bit_below : (x bit : ℕ) → x < 2 ^ 32 → bit < 2 → after_bit x bit < 2 ^ 32
bit_below x bit h b = elim (cases_lt bit 1) [
  | inl none ↦ let e : bit ≡ 0 = omega arith in rw e (zero_below x h)
  | inr one ↦ let e : bit ≡ 1 = omega arith in rw e (one_below x h)
]

-- bits 0 are linear
tops : (x y a b : ℕ) → x / 2 ^ 31 ≡ a → y / 2 ^ 31 ≡ b → bit_xor x y / 2 ^ 31 ≡ bit_xor a b
tops x y a b e f = xor_shr x y 31 ∙ rw (e, f) refl

pub zero_xor : (x y : ℕ) → x < 2 ^ 32 → y < 2 ^ 32 → after_bit (bit_xor x y) 0 ≡ bit_xor (after_bit x 0) (after_bit y 0)
zero_xor x y hx hy =
    let moved = up_xor x y in
    elim (top x hx) [
      | inl low ↦ elim (top y hy) [
        | inl low' ↦
            let first = low_0 x low in
            let second = low_0 y low' in
            let both = low_0 (bit_xor x y) (tops x y 0 0 low low') in
            cc
        | inr high' ↦
            let first = low_0 x low in
            let second = high_0 y high' in
            let both = high_0 (bit_xor x y) (tops x y 0 1 low high') in
            let out = xor_assoc (up x) (up y) polynomial in
            cc
      ]
      | inr high ↦ elim (top y hy) [
        | inl low' ↦
            let first = high_0 x high in
            let second = low_0 y low' in
            let both = high_0 (bit_xor x y) (tops x y 1 0 high low') in
            let out = xor_swap (up x) (up y) polynomial in
            cc
        | inr high' ↦
            let first = high_0 x high in
            let second = high_0 y high' in
            let both = low_0 (bit_xor x y) (tops x y 1 1 high high') in
            let out = xor_twice (up x) (up y) polynomial in
            cc
      ]
    ]

-- a bit 1 acts as if it were added at the top
one_at_top : (x : ℕ) → x < 2 ^ 32 → after_bit x 1 ≡ after_bit (bit_xor x (2 ^ 31)) 0
unfolding up
one_at_top x h =
    let gone : up (bit_xor x (2 ^ 31)) ≡ up x = up_xor x (2 ^ 31) ∙ xor_zero_r (up x) in
    elim (top x h) [
      | inl low ↦ low_1 x low
          ∙ (ap (λ (n : ℕ). bit_xor n polynomial) (sym gone)
          ∙ sym (high_0 (bit_xor x (2 ^ 31)) (tops x (2 ^ 31) 0 1 low refl)))
      | inr high ↦ high_1 x high ∙ (sym gone ∙ sym (low_0 (bit_xor x (2 ^ 31)) (tops x (2 ^ 31) 1 1 high refl)))
    ]

pub bit_at_top : (x bit : ℕ) → x < 2 ^ 32 → bit < 2 → after_bit x bit ≡ after_bit (bit_xor x (bit * 2 ^ 31)) 0
bit_at_top x bit h b = elim (cases_lt bit 1) [
  | inl none ↦ let e : bit ≡ 0 = omega arith in rw e (ap (λ (n : ℕ). after_bit n 0) (sym (xor_zero_r x)))
  | inr one ↦ let e : bit ≡ 1 = omega arith in rw e (one_at_top x h)
]

-- a register whose top bit is 0 is moved up
pub low_moves : (x : ℕ) → x < 2 ^ 31 → after_bit x 0 ≡ x * 2
unfolding up
low_moves x h = low_0 x (omega arith) ∙ omega arith
