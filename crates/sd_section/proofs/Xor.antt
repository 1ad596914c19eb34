-- Exclusive-ors of numbers.
use Rattle.std.proofs.Common.{ℕ, ◌+◌, ◌*◌, ◌^◌, ◌<◌, ◌≡◌, sym, ap, ◌∙◌, arith}
use Rattle.std.specs.Prelude.{bit_xor}
use Rattle.std.proofs.lemmas.Nat.{xor_comm, xor_block, pow_pos}
use lib.Bits.{xor_assoc, xor_self, xor_zero_r}

-- the order of the last two doesn't matter
pub xor_swap : (a b c : ℕ) → bit_xor (bit_xor a b) c ≡ bit_xor (bit_xor a c) b
xor_swap a b c = xor_assoc a b c ∙ (ap (bit_xor a) (xor_comm b c) ∙ sym (xor_assoc a c b))

-- what is added twice falls out
pub xor_twice : (a b c : ℕ) → bit_xor (bit_xor a c) (bit_xor b c) ≡ bit_xor a b
xor_twice a b c =
    sym (xor_assoc (bit_xor a c) b c) ∙ (ap (λ (x : ℕ). bit_xor x c) (xor_swap a c b)
    ∙ (xor_assoc (bit_xor a b) c c ∙ (ap (bit_xor (bit_xor a b)) (xor_self c) ∙ xor_zero_r (bit_xor a b))))

-- numbers with no bit in common
pub xor_apart : (a k b : ℕ) → b < 2 ^ k → bit_xor (a * 2 ^ k) b ≡ a * 2 ^ k + b
xor_apart a k b h =
    let left : a * 2 ^ k + 0 ≡ a * 2 ^ k = omega arith in
    let right : 0 * 2 ^ k + b ≡ b = omega arith in
    let block = xor_block k a 0 0 b (omega arith) h in
    rw left at (rw right at block) ∙ ap (λ (x : ℕ). x * 2 ^ k + b) (xor_zero_r a)

-- numbers that are moved up alike
pub xor_scaled : (a b k : ℕ) → bit_xor (a * 2 ^ k) (b * 2 ^ k) ≡ bit_xor a b * 2 ^ k
xor_scaled a b k =
    let none : 0 < 2 ^ k = pow_pos k in
    let left : a * 2 ^ k + 0 ≡ a * 2 ^ k = omega arith in
    let right : b * 2 ^ k + 0 ≡ b * 2 ^ k = omega arith in
    let both : bit_xor a b * 2 ^ k + 0 ≡ bit_xor a b * 2 ^ k = omega arith in
    rw (sym left, sym right) (xor_block k a b 0 0 none none ∙ both)
