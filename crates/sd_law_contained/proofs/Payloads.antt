-- Changes behind the first five bytes of a packet do no harm.
use Rattle.std.proofs.Common.{◌≡◌, refl, ℕ, zero, suc, ◌<◌, List, [], ◌∷◌, ap, ◌∙◌, arith}
use Rattle.std.specs.Prelude.{slice_index, bit_xor}
use Rattle.std.specs.Int.Bits.{xor_zero_r}
use Rattle.sd_base.specs.Bits.{field}
use Rattle.sd_packet.specs.Header.{pid_of, payload_start_of}
use Rattle.sd_cipher.proofs.Scramblings.{pid_by_bytes}
use Rattle.sd_law_contained.specs.Changed.{changed_by, IsTablePacket, IsHarmless}
use Rattle.sd_law_contained.proofs.Masks.{changed_none}

-- a byte whose mask is 0 stays
byte_stays : (packet mask : List ℕ) (i : ℕ) → slice_index mask i ≡ 0 →
    slice_index (changed_by packet mask) i ≡ slice_index packet i
byte_stays [] mask i none = refl
byte_stays (x ∷ packet) [] i none = refl
byte_stays (x ∷ packet) (m ∷ mask) zero none = ap (bit_xor x) none ∙ xor_zero_r x
byte_stays (x ∷ packet) (m ∷ mask) (suc i) none = byte_stays packet mask i none

-- the payload starts where the fourth and the fifth byte say
start_by_bytes : (x y : List ℕ) → slice_index x 3 ≡ slice_index y 3 → slice_index x 4 ≡ slice_index y 4 →
    payload_start_of x ≡ payload_start_of y
unfolding payload_start_of field
start_by_bytes x y e f = rw (e, f) refl

pub behind_five : (before : List (List ℕ)) (packet mask : List ℕ) → ((i : ℕ) → slice_index mask i < 256) →
    ((i : ℕ) → i < 5 → slice_index mask i ≡ 0) → (IsTablePacket before packet → ⊥) → IsHarmless before packet mask
behind_five before packet mask bytes none other =
    let stays : (i : ℕ) → i < 5 → slice_index (changed_by packet mask) i ≡ slice_index packet i =
    λ i low. byte_stays packet mask i (none i low) in
    record {
      bytes = bytes;
      pid = pid_by_bytes (changed_by packet mask) packet (stays 1 (omega arith)) (stays 2 (omega arith));
      fourth = none 3 (omega arith);
      start = start_by_bytes (changed_by packet mask) packet (stays 3 (omega arith)) (stays 4 (omega arith));
      table = λ is. absurd (other is);
    }

pub no_change : (before : List (List ℕ)) (packet : List ℕ) → IsHarmless before packet []
no_change before packet = record {
  bytes = λ i. omega arith;
  pid = ap pid_of (changed_none packet);
  fourth = refl;
  start = ap payload_start_of (changed_none packet);
  table = λ is. refl;
}
