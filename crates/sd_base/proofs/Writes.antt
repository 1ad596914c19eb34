-- What a write leaves in the bytes.
use Rattle.std.proofs.Common.{ℕ, ◌+◌, ◌-◌, ◌*◌, ◌/◌, ◌%◌, ◌^◌, ◌<◌, ◌≤◌, ◌≡◌, List, length, sym, ap, ◌∙◌, inl, inr}
use Rattle.std.proofs.Common.{⊎_elim, arith}
use Rattle.std.specs.Prelude.{slice_index, slice_set, bit_and}
use Rattle.std.proofs.Math.Nat.{div-one, div-eq_of_lt}
use Rattle.std.proofs.lemmas.List.{get_or-set_same, get_or-set_other}
use Rattle.std.proofs.lemmas.Nat.{and_mask, shr-shr}
use Rattle.sd_base.specs.Bits.{field, AreApart, KeepsOthers}
use Rattle.sd_base.proofs.Fields.{apart_stays}
use Rattle.sd_base.proofs.Words.{byte_more}

-- a written byte changes its own bits alone
pub byte_written : (bytes : List ℕ) (p byte : ℕ) → KeepsOthers (8 * p) 8 bytes (slice_set bytes p byte)
byte_written bytes p byte =
    let other : (k : ℕ) → AreApart (8 * p) 8 k 1 → k / 8 ≡ p →
    ⊥ = λ k apart e. ⊎_elim (λ (h : k + 1 ≤ 8 * p). omega arith) (λ (h : 8 * p + 8 ≤ k). omega arith) apart in
    record {
      stays = λ k apart. ap (λ (b : ℕ). b / 2 ^ (7 - k % 8) % 2) (get_or-set_other bytes p (k / 8) byte 0
          (other k apart));
    }

-- the bytes of a number down to the next one, and that one, are its bytes down to there
pub bytes_down : (word n i : ℕ) → i < n → word / 2 ^ (8 * (n - i)) * 256 + word / 2 ^ (8 * (n - 1 - i)) % 256
    ≡ word / 2 ^ (8 * (n - (i + 1)))
bytes_down word n i h =
    let less : n - (i + 1) ≡ n - 1 - i = omega arith in
    let more : 8 * (n - 1 - i) + 8 ≡ 8 * (n - i) = omega arith in
    let down = shr-shr word (8 * (n - 1 - i)) 8 in
    rw less (omega (arith, rw more at down))

-- the next byte of a number after those that are written
pub byte_of_word : (bytes : List ℕ) (first n i word : ℕ) → i < n → first + n ≤ length bytes →
    field bytes (8 * first) (8 * i) ≡ word / 2 ^ (8 * (n - i)) →
    field (slice_set bytes (first + i) (bit_and (word / 2 ^ (8 * (n - 1 - i))) 255)) (8 * first) (8 * (i + 1))
    ≡ word / 2 ^ (8 * (n - (i + 1)))
byte_of_word bytes first n i word h within so_far =
    let byte : ℕ = bit_and (word / 2 ^ (8 * (n - 1 - i))) 255 in
    let is_byte : byte ≡ word / 2 ^ (8 * (n - 1 - i)) % 256 = and_mask (word / 2 ^ (8 * (n - 1 - i))) 8 in
    let new : List ℕ = slice_set bytes (first + i) byte in
    let here : slice_index new (first + i) ≡ byte = get_or-set_same bytes (first + i) byte 0 (omega arith) in
    let head : field new (8 * first) (8 * i) ≡ field bytes (8 * first) (8 * i) = apart_stays bytes new (8 * (first + i))
    8 (8 * first) (8 * i) (byte_written bytes (first + i) byte) (inl (omega arith)) in
    byte_more new first i (omega arith) ∙ omega (arith, bytes_down word n i h)

-- and nothing else changes
pub others_of_word : (old bytes : List ℕ) (first i byte : ℕ) → KeepsOthers (8 * first) (8 * i) old bytes →
    KeepsOthers (8 * first) (8 * (i + 1)) old (slice_set bytes (first + i) byte)
others_of_word old bytes first i byte keeps = record {
  stays = λ k apart.
      let outside : AreApart (8 * (first + i)) 8 k 1 = ⊎_elim (λ (h : k + 1 ≤ 8 * first). inl (omega arith))
      (λ (h : 8 * first + 8 * (i + 1) ≤ k). inr (omega arith)) apart in
      let before : AreApart (8 * first) (8 * i) k 1 = ⊎_elim (λ (h : k + 1 ≤ 8 * first). inl (omega arith))
      (λ (h : 8 * first + 8 * (i + 1) ≤ k). inr (omega arith)) apart in
      (byte_written bytes (first + i) byte).stays k outside ∙ keeps.stays k before;
}

-- before a byte is written
pub none_written : (bytes : List ℕ) (first n word : ℕ) → word < 2 ^ (8 * n) → field bytes (8 * first) 0
    ≡ word / 2 ^ (8 * (n - 0))
unfolding field
none_written bytes first n word h = let e : n - 0 ≡ n = omega arith in rw e (sym (div-eq_of_lt h))

-- all bytes of a number are the number
pub all_written : (word n : ℕ) → word / 2 ^ (8 * (n - n)) ≡ word
all_written word n = let e : 8 * (n - n) ≡ 0 = omega arith in rw e (div-one word)
