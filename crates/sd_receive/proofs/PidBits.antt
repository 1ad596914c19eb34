-- Sets of PIDs by their bits.
use Rattle.std.proofs.Common.{ℕ, ◌-◌, ◌*◌, ◌/◌, ◌%◌, ◌^◌, ◌<◌, ◌≡◌, ◌≢◌, ◌==◌, true, false, List, length, get_or, set}
use Rattle.std.proofs.Common.{refl, ap, ◌∙◌, inl, inr, arith}
use Rattle.std.specs.Prelude.{bit_and, bit_or, replicate}
use Rattle.std.specs.Int.{w64, bit_at}
use Rattle.std.proofs.lemmas.Bool.{cases_eq}
use Rattle.std.proofs.lemmas.List.{get_or-replicate, get_or-set_same, get_or-set_other}
use Rattle.std.proofs.lemmas.Nat.Bits.{bit_at-zero, bit_at_set_same, bit_at_set_other, bit_at_clear_same}
use Rattle.std.proofs.lemmas.Nat.Bits.{bit_at_clear_other}
use Rattle.sd_receive.specs.PidSet.{has_bit}

-- no bit is set
pub has_none : (pid : ℕ) → pid < 8192 → has_bit (replicate 128 0) pid ≡ false
unfolding has_bit
has_none pid small =
    let word : ◌≡◌ {A = ℕ} (get_or (replicate 128 0) (pid / 64) 0) 0 =
    get_or-replicate 128 (pid / 64) 0 0 (omega (arith, small)) in
    rw word (rw (bit_at-zero (pid % 64)) refl)

-- the bit of a PID in a word that is put in another's place, or in its own
own_bit : (words : List ℕ) (pid word : ℕ) → length words ≡ 128 → pid < 8192 →
    has_bit (set words (pid / 64) word) pid ≡ (bit_at word (pid % 64) == 1)
unfolding has_bit
own_bit words pid word long small =
    ap (λ (x : ℕ). bit_at x (pid % 64) == 1)
    (get_or-set_same words (pid / 64) word 0 (omega (arith, long, small)))

other_bit : (words : List ℕ) (pid other word : ℕ) → length words ≡ 128 → pid < 8192 → other ≢ pid →
    (other % 64 ≢ pid % 64 → bit_at word (other % 64) ≡ bit_at (get_or words (pid / 64) 0) (other % 64)) →
    has_bit (set words (pid / 64) word) other ≡ has_bit words other
unfolding has_bit
other_bit words pid other word long small apart same = elim (cases_eq (other / 64) (pid / 64)) [
  | inl beside ↦ rw beside (ap (λ (x : ℕ). bit_at x (other % 64) == 1)
      (get_or-set_same words (pid / 64) word 0 (omega (arith, long, small))) ∙ ap (λ (x : ℕ). x == 1)
      (same (λ e. apart (omega (arith, beside, e)))))
  | inr far ↦ ap (λ (x : ℕ). bit_at x (other % 64) == 1) (get_or-set_other words (pid / 64) (other / 64) word 0 far)
]

-- a PID that is put in
pub put_own : (words : List ℕ) (pid : ℕ) → length words ≡ 128 → pid < 8192 →
    has_bit (set words (pid / 64) (bit_or (get_or words (pid / 64) 0) (1 * 2 ^ (pid % 64) % 2 ^ 64)))
    pid ≡ true
put_own words pid long small =
    own_bit words pid (bit_or (get_or words (pid / 64) 0) (1 * 2 ^ (pid % 64) % 2 ^ 64)) long small
    ∙ rw (bit_at_set_same w64 (get_or words (pid / 64) 0) (pid % 64) (omega arith)) refl

pub put_other : (words : List ℕ) (pid other : ℕ) → length words ≡ 128 → pid < 8192 → other ≢ pid →
    has_bit (set words (pid / 64) (bit_or (get_or words (pid / 64) 0) (1 * 2 ^ (pid % 64) % 2 ^ 64)))
    other ≡ has_bit words other
put_other words pid other long small apart =
    other_bit words pid other (bit_or (get_or words (pid / 64) 0) (1 * 2 ^ (pid % 64) % 2 ^ 64)) long small apart
    (λ bits. bit_at_set_other w64 (get_or words (pid / 64) 0) (pid % 64) (omega arith) (other % 64) bits)

-- one that is taken out
pub out_own : (words : List ℕ) (pid : ℕ) → length words ≡ 128 → pid < 8192 →
    has_bit (set words (pid / 64)
    (bit_and (get_or words (pid / 64) 0) (18446744073709551615 - 1 * 2 ^ (pid % 64) % 2 ^ 64))) pid ≡ false
out_own words pid long small =
    own_bit words pid (bit_and (get_or words (pid / 64) 0) (18446744073709551615 - 1 * 2 ^ (pid % 64) % 2 ^ 64)) long
    small
    ∙ ap (λ (x : ℕ). x == 1) (bit_at_clear_same w64 (get_or words (pid / 64) 0) (pid % 64) (omega arith))

pub out_other : (words : List ℕ) (pid other : ℕ) → length words ≡ 128 → pid < 8192 → other ≢ pid →
    has_bit (set words (pid / 64)
    (bit_and (get_or words (pid / 64) 0) (18446744073709551615 - 1 * 2 ^ (pid % 64) % 2 ^ 64))) other
    ≡ has_bit words other
out_other words pid other long small apart =
    other_bit words pid other
    (bit_and (get_or words (pid / 64) 0) (18446744073709551615 - 1 * 2 ^ (pid % 64) % 2 ^ 64)) long small apart
    (λ bits. bit_at_clear_other w64 (get_or words (pid / 64) 0) (pid % 64) (omega arith) (other % 64) (omega arith)
    bits)
