-- Numbers pushed into the register: they act on it as if they were added to it at its top.
use Rattle.std.proofs.Common.{ℕ, zero, suc, ◌+◌, ◌*◌, ◌/◌, ◌%◌, ◌^◌, ◌<◌, ◌≤◌, ◌≡◌, refl, sym, ap, ◌∙◌, zero-mul, arith}
use Rattle.std.specs.Prelude.{bit_xor}
use Rattle.std.proofs.lemmas.Nat.{xor_of_32, mul-le, pow-add, shr-shr, shl_below, mod-pow-add, mod_below, pow_pos}
use lib.Bits.{xor_assoc, xor_zero_r}
use Rattle.sd_section.specs.Crc.{after_bit, after_bits}
use Rattle.sd_section.specs.Steps.{steps}
use Rattle.sd_section.proofs.Registers.{bit_below, zero_xor, bit_at_top, low_moves}
use Rattle.sd_section.proofs.Xor.{xor_apart}

-- bits 0 are linear
pub steps_xor : (n x y : ℕ) → x < 2 ^ 32 → y < 2 ^ 32 → steps n (bit_xor x y) ≡ bit_xor (steps n x) (steps n y)
unfolding steps
steps_xor zero x y hx hy = refl
steps_xor (suc n) x y hx hy =
    ap (steps n) (zero_xor x y hx hy) ∙
    steps_xor n (after_bit x 0) (after_bit y 0) (bit_below x 0 hx (omega arith)) (bit_below y 0 hy (omega arith))

-- some bits 0 and some more
pub steps_more : (m n x : ℕ) → steps (m + n) x ≡ steps n (steps m x)
unfolding steps
steps_more zero n x = let e : zero + n ≡ n = omega arith in rw e refl
steps_more (suc m) n x = let e : suc m + n ≡ suc (m + n) = omega arith in rw e (steps_more m n (after_bit x 0))

-- bits 0 leave 0
pub steps_zero : (n : ℕ) → steps n 0 ≡ 0
unfolding steps after_bit
steps_zero zero = refl
steps_zero (suc n) = steps_zero n

-- the order of bits 0 doesn't matter
pub steps_turn : (n x : ℕ) → after_bit (steps n x) 0 ≡ steps n (after_bit x 0)
unfolding steps
steps_turn zero x = refl
steps_turn (suc n) x = steps_turn n (after_bit x 0)

-- a number that stays below 2^32 is moved up
pub steps_move : (n x : ℕ) → x * 2 ^ n < 2 ^ 32 → steps n x ≡ x * 2 ^ n
unfolding steps
steps_move zero x h = omega arith
steps_move (suc n) x h =
    let e : suc n ≡ n + 1 = omega arith in
    let whole : x * 2 ^ suc n ≡ x * 2 * 2 ^ n = rw e (ap (λ (p : ℕ). x * p) (pow-add 2 n 1) ∙ omega arith) in
    let some : x * 2 * 1 ≤ x * 2 * 2 ^ n = mul-le (x * 2) 1 (x * 2) (2 ^ n) (omega arith) (pow_pos n) in
    let low : x < 2 ^ 31 = omega arith in
    ap (steps n) (low_moves x low) ∙ (steps_move n (x * 2) (omega arith) ∙ sym whole)

-- a bit of a number and the bits below it, at the register's top
top_bits : (n m bit low : ℕ) → n + m ≡ 31 → low < 2 ^ n →
    ((bit * 2 ^ n + low) * 2 ^ m ≡ bit_xor (bit * 2 ^ 31) (low * 2 ^ m)) × (low * 2 ^ m < 2 ^ 31)
top_bits n m bit low e h =
    let below : low * 2 ^ m < 2 ^ 31 = rw e at (shl_below low n m h) in
    let power : 2 ^ n * 2 ^ m ≡ 2 ^ 31 = rw e at (sym (pow-add 2 n m)) in
    let parts : (bit * 2 ^ n + low) * 2 ^ m ≡ bit * (2 ^ n * 2 ^ m) + low * 2 ^ m = omega arith in
    (parts ∙ (ap (λ (p : ℕ). bit * p + low * 2 ^ m) power ∙ sym (xor_apart bit 31 (low * 2 ^ m) below)), below)

-- one bit of a number that is added at the top
next_bit : (n m x bit low : ℕ) → n + m ≡ 31 → low < 2 ^ n → bit < 2 → x < 2 ^ 32 →
    after_bit (bit_xor x ((bit * 2 ^ n + low) * 2 ^ m)) 0 ≡ bit_xor (after_bit x bit) (low * 2 ^ (m + 1))
next_bit n m x bit low e h b hx =
    let parts = top_bits n m bit low e h in
    let rest : ℕ = low * 2 ^ m in
    let high : bit * 2 ^ 31 < 2 ^ 32 = omega arith in
    let twice : rest * 2 ≡ low * 2 ^ (m + 1) = rw (pow-add 2 m 1) (omega arith) in
    ap (λ (n : ℕ). after_bit (bit_xor x n) 0) parts.0
    ∙ (ap (λ (n : ℕ). after_bit n 0) (sym (xor_assoc x (bit * 2 ^ 31) rest))
    ∙ (zero_xor (bit_xor x (bit * 2 ^ 31)) rest (xor_of_32 x (bit * 2 ^ 31) hx high) (omega (arith, parts.1))
    ∙ (ap (λ (n : ℕ). bit_xor n (after_bit rest 0)) (sym (bit_at_top x bit hx b))
    ∙ ap (bit_xor (after_bit x bit)) (low_moves rest parts.1 ∙ twice))))

-- a number of n bits acts as if it were added at the top
pub bits_at_top : (n m x number : ℕ) → m + n ≡ 32 → x < 2 ^ 32
    → after_bits x number n ≡ steps n (bit_xor x (number % 2 ^ n * 2 ^ m))
unfolding steps after_bits
bits_at_top zero m x number e h =
    let none : number % 1 ≡ 0 = omega arith in
    rw none (rw (zero-mul (2 ^ m)) (sym (xor_zero_r x)))
bits_at_top (suc n) m x number e h =
    let one : suc n ≡ 1 + n = omega arith in
    let split : number % 2 ^ suc n ≡ number / 2 ^ n % 2 * 2 ^ n + number % 2 ^ n = rw one (mod-pow-add number 1 n) in
    let below : number % 2 ^ n < 2 ^ n = mod_below number (2 ^ n) (pow_pos n) in
    let next = next_bit n m x (number / 2 ^ n % 2) (number % 2 ^ n) (omega arith) below (omega arith) h in
    bits_at_top n (m + 1) (after_bit x (number / 2 ^ n % 2)) number (omega arith)
    (bit_below x (number / 2 ^ n % 2) h (omega arith))
    ∙ ap (steps n) (sym next ∙ ap (λ (p : ℕ). after_bit (bit_xor x (p * 2 ^ m)) 0) (sym split))

-- the high bits of a number and its low bits
pub bits_split : (j k x number : ℕ)
    → after_bits x number (j + k) ≡ after_bits (after_bits x (number / 2 ^ k) j) number k
unfolding after_bits
bits_split zero k x number = let e : zero + k ≡ k = omega arith in rw e refl
bits_split (suc j) k x number =
    let e : suc j + k ≡ suc (j + k) = omega arith in
    let turned : k + j ≡ j + k = omega arith in
    let same : number / 2 ^ k / 2 ^ j ≡ number / 2 ^ (j + k) = shr-shr number k j
    ∙ ap (λ (p : ℕ). number / 2 ^ p) turned in
    rw (e, same) (bits_split j k (after_bit x (number / 2 ^ (j + k) % 2)) number)

-- a register stays a number of 32 bits
pub bits_below : (n x number : ℕ) → x < 2 ^ 32 → after_bits x number n < 2 ^ 32
unfolding after_bits
bits_below zero x number h = h
bits_below (suc n) x number h =
    bits_below n (after_bit x (number / 2 ^ n % 2)) number (bit_below x (number / 2 ^ n % 2) h (omega arith))

-- of a byte the low eight bits count
pub byte_same : (x byte other : ℕ) → x < 2 ^ 32 → byte % 256 ≡ other % 256 → after_bits x byte 8 ≡ after_bits x other 8
byte_same x byte other h e =
    bits_at_top 8 24 x byte refl h
    ∙ (ap (λ (b : ℕ). steps 8 (bit_xor x (b * 2 ^ 24))) e ∙ sym (bits_at_top 8 24 x other refl h))
