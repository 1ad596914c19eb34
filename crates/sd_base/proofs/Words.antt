-- Whole bytes as fields.
use Rattle.std.proofs.Common.{ℕ, ◌+◌, ◌-◌, ◌*◌, ◌/◌, ◌%◌, ◌^◌, ◌<◌, ◌≤◌, ◌≡◌, List, refl, sym, ap, ◌∙◌, arith}
use Rattle.std.specs.Prelude.{slice_index, bit_or, bit_and}
use Rattle.std.proofs.Math.Pow.{pow_mono}
use Rattle.std.proofs.lemmas.Nat.{or_shifted, one_shl, and_mask}
use Rattle.sd_base.specs.Bits.{bit, field}
use Rattle.sd_base.proofs.Fields.{field_below, field_split, field_within}

-- bit j of the byte at place p
bit_of_byte : (bytes : List ℕ) (p j : ℕ) → j < 8 → bit bytes (8 * p + j) ≡ slice_index bytes p / 2 ^ (7 - j) % 2
bit_of_byte bytes p j h =
    let byte : (8 * p + j) / 8 ≡ p = omega arith in
    let place : (8 * p + j) % 8 ≡ j = omega arith in
    rw (byte, place) refl

-- eight bits are a byte
pub byte_field : (bytes : List ℕ) (p : ℕ) → slice_index bytes p < 256 → field bytes (8 * p) 8 ≡ slice_index bytes p
unfolding field
byte_field bytes p h =
    omega (
      arith,
      bit_of_byte bytes p 0 (omega arith),
      bit_of_byte bytes p 1 (omega arith),
      bit_of_byte bytes p 2
          (omega arith),
      bit_of_byte bytes p 3 (omega arith),
      bit_of_byte bytes p 4 (omega arith),
      bit_of_byte bytes p 5
          (omega arith),
      bit_of_byte bytes p 6 (omega arith),
      bit_of_byte bytes p 7 (omega arith),
    )

-- no bytes are the number 0
pub no_byte : (bytes : List ℕ) (at : ℕ) → field bytes at 0 ≡ 0
unfolding field
no_byte bytes at = refl

-- one byte more
pub byte_more : (bytes : List ℕ) (first i : ℕ) → slice_index bytes (first + i) < 256 →
    field bytes (8 * first) (8 * (i + 1)) ≡ field bytes (8 * first) (8 * i) * 256 + slice_index bytes (first + i)
byte_more bytes first i h =
    let e : 8 * (i + 1) ≡ 8 * i + 8 = omega arith in
    let place : 8 * first + 8 * i ≡ 8 * (first + i) = omega arith in
    rw e (field_split bytes (8 * first) (8 * i) 8 ∙ rw place (ap (λ (b : ℕ). field bytes (8 * first) (8 * i) * 256 + b)
    (byte_field bytes (first + i) h)))

-- so many bytes are below that power of 2
pub word_below : (bytes : List ℕ) (first i : ℕ) → field bytes (8 * first) (8 * i) < 2 ^ (8 * i)
word_below bytes first i = field_below bytes (8 * first) (8 * i)

-- a number of up to four bytes, moved up by a byte, and the next byte
pub byte_pushed : (bytes : List ℕ) (first i word byte : ℕ) → i < 5 → slice_index bytes (first + i) < 256 →
    word ≡ field bytes (8 * first) (8 * i) → byte ≡ slice_index bytes (first + i) →
    bit_or (word * 256 % 18446744073709551616) byte ≡ field bytes (8 * first) (8 * (i + 1))
byte_pushed bytes first i word byte few fits so_far next =
    let below : word < 2 ^ 40 = omega (arith, word_below bytes first i, pow_mono {i = 8 * i} {j = 40} (omega arith)) in
    let whole : word * 256 % 18446744073709551616 ≡ word * 256 = omega arith in
    rw whole (or_shifted word 8 byte (omega arith) ∙ omega (arith, byte_more bytes first i (omega arith)))

-- what shifts and a mask leave of the bytes that a field touches is the field
pub field_of_word : (bytes : List ℕ) (at n first count after word : ℕ) → n ≤ 32 → first ≡ at / 8 → at % 8 + n + after
    ≡ 8 * count → word ≡ field bytes (8 * first) (8 * count) →
    bit_and (word / 2 ^ after) (1 * 2 ^ n % 18446744073709551616 - 1) ≡ field bytes at n
field_of_word bytes at n first count after word high is_first bits is_word =
    let place : 8 * first + at % 8 ≡ at = omega arith in
    rw (one_shl n 64 (omega arith)) (
    and_mask (word / 2 ^ after) n
    ∙ (rw is_word (rw (sym bits) (field_within bytes (8 * first) (at % 8) n after)) ∙ ap (λ (k : ℕ). field bytes k n)
    place))
