-- How bytes are cut from the first byte on, and what follows by induction on that.
use Rattle.std.proofs.Common.{◌≡◌, ℕ, zero, suc, ◌+◌, ◌<◌, ◌≤◌, true, false, List, [], ◌∷◌, length}
use Rattle.std.proofs.Common.{drop, refl, arith, inl, inr, length-drop}
use Rattle.std.proofs.lemmas.Bool.{cases_Bool}
use Rattle.sd_engine.specs.Cut.{begins_packet, cut_packets, skipped_before}
use Rattle.sd_engine.proofs.Begins.{parts_of}
use Rattle.sd_engine.proofs.Cutting.{cut_passed, skipped_passed}

-- the bytes end, begin with a packet, or begin with a byte at which no packet begins; and so on behind it
pub data Course : List ℕ → Type 0 where
  end : {bytes : List ℕ} → bytes ≡ [] → Course bytes
  packet : {bytes : List ℕ} → begins_packet bytes ≡ true → Course (drop 188 bytes) → Course bytes
  other : {bytes : List ℕ} → begins_packet bytes ≡ false → 0 < length bytes → Course (drop 1 bytes) → Course bytes

course_within : (n : ℕ) (bytes : List ℕ) → length bytes ≤ n → Course bytes
course_within zero [] few = end refl
course_within zero (byte ∷ bytes) few = absurd (omega (arith, few))
course_within (suc n) [] few = end refl
course_within (suc n) (byte ∷ bytes) few = elim (cases_Bool (begins_packet (byte ∷ bytes))) [
  | inl begins ↦
      packet begins (course_within n (drop 188 (byte ∷ bytes))
      (omega (arith, few, length-drop 188 (byte ∷ bytes), (parts_of (byte ∷ bytes) begins).long)))
  | inr not ↦ other not (omega arith) (course_within n (drop 1 (byte ∷ bytes)) (omega (arith, few)))
]

-- all bytes take such a course
pub course_of : (bytes : List ℕ) → Course bytes
course_of bytes = course_within (length bytes) bytes (omega arith)

-- the byte at which no packet begins is passed
pub cut_one : (bytes : List ℕ) → begins_packet bytes ≡ false → 0 < length bytes →
    cut_packets bytes ≡ cut_packets (drop 1 bytes)
cut_one bytes not some = cut_passed 1 bytes some (λ i first. let is : i ≡ 0 = omega (arith, first) in rw is not)

pub skipped_one : (k : ℕ) (bytes : List ℕ) → begins_packet bytes ≡ false → 0 < length bytes →
    skipped_before k zero bytes ≡ 1 + skipped_before k zero (drop 1 bytes)
skipped_one k bytes not some =
    skipped_passed k 1 bytes some (λ i first. let is : i ≡ 0 = omega (arith, first) in rw is not)
