-- The four bytes of a header, by their fields.
use Rattle.std.proofs.Common.{ℕ, ◌+◌, ◌*◌, ◌/◌, ◌%◌, ◌<◌, ◌≤◌, ◌≡◌, List, [], ◌∷◌, length, get_or, refl, sym, ◌∙◌, inl}
use Rattle.std.proofs.Common.{arith}
use Rattle.std.specs.Prelude.{slice_index}
use Rattle.sd_base.specs.Bits.{field, KeepsOthers}
use Rattle.sd_base.proofs.Fields.{field_split, apart_stays}
use Rattle.sd_base.proofs.Words.{byte_field}
use Rattle.sd_packet.specs.Header.{transport_error, unit_start_of, priority_of, pid_of, scrambling_of, adaptation_of}
use Rattle.sd_packet.specs.Header.{counter_of}
use Rattle.sd_packet.specs.Packing.{section_header}

-- the second and third bytes are three flags and the PID
pub flags_and_pid : (packet : List ℕ) → slice_index packet 1 < 256 → slice_index packet 2 < 256 →
    slice_index packet 1 * 256 + slice_index packet 2 ≡ ((transport_error packet * 2 + unit_start_of packet) * 2
    + priority_of packet) * 8192 + pid_of packet
flags_and_pid packet h k =
    omega (
      arith,
      field_split packet 8 8 8,
      byte_field packet 1 h,
      byte_field packet 2 k,
      field_split packet 8 3 13,
      field_split packet 8 2 1,
      field_split packet 8 1 1,
    )

-- the fourth byte is scrambling and adaptation control and the counter
pub controls_and_counter : (packet : List ℕ) → slice_index packet 3 < 256 → slice_index packet 3
    ≡ (scrambling_of packet * 4 + adaptation_of packet) * 16 + counter_of packet
controls_and_counter packet h =
    omega (arith, byte_field packet 3 h, field_split packet 24 4 4, field_split packet 24 2 2)

-- four bytes are the header of a section's packet where their fields are
pub header_by_fields : (xs : List ℕ) (pid counter : ℕ) → length xs ≡ 4 → ((i : ℕ) → get_or xs i 0 < 256) →
    field xs 0 8 ≡ 0x47 → transport_error xs ≡ 0 → unit_start_of xs ≡ 1 → priority_of xs ≡ 0 → pid_of xs ≡ pid →
    scrambling_of xs ≡ 0 → adaptation_of xs ≡ 1 → counter_of xs ≡ counter → xs ≡ section_header pid counter
header_by_fields [] pid counter long bytes sync error start priority is_pid scrambling adaptation is_counter = absurd
    (omega arith)
header_by_fields (x ∷ []) pid counter long bytes sync error start priority is_pid scrambling adaptation
    is_counter = absurd (omega arith)
header_by_fields (x ∷ (y ∷ [])) pid counter long bytes sync error start priority is_pid scrambling adaptation
    is_counter = absurd (omega arith)
header_by_fields (x ∷ (y ∷ (z ∷ []))) pid counter long bytes sync error start priority is_pid scrambling adaptation
    is_counter = absurd (omega arith)
header_by_fields (x ∷ (y ∷ (z ∷ (w ∷ (u ∷ xs))))) pid counter long bytes sync error start priority is_pid scrambling
    adaptation is_counter = absurd (omega arith)
header_by_fields (x ∷ (y ∷ (z ∷ (w ∷ [])))) pid counter long bytes sync error start priority is_pid scrambling
    adaptation is_counter =
    let packet : List ℕ = x ∷ (y ∷ (z ∷ (w ∷ []))) in
    let first : x ≡ 0x47 = sym (byte_field packet 0 (bytes 0)) ∙ sync in
    let pids = flags_and_pid packet (bytes 1) (bytes 2) in
    let controls = controls_and_counter packet (bytes 3) in
    let y_below : y < 256 = bytes 1 in
    let z_below : z < 256 = bytes 2 in
    let second : y ≡ 0x40 + pid / 256 = omega (arith, pids) in
    let third : z ≡ pid % 256 = omega (arith, pids) in
    let fourth : w ≡ 0x10 + counter = omega (arith, controls) in
    rw (first, second, third, fourth) refl

-- the fields of a header that are written from the first to the last stand in it
pub header_written : (pid counter p k : ℕ) (x0 x1 x2 x3 x4 x5 x6 x7 x8 : List ℕ) → ((i : ℕ) → get_or x8 i 0 < 256) →
    KeepsOthers 28 4 x7 x8 → field x8 28 4 ≡ k → k ≡ counter → length x8 ≡ length x7 →
    KeepsOthers 26 2 x6 x7 → field x7 26 2 ≡ 1 → length x7 ≡ length x6 →
    KeepsOthers 24 2 x5 x6 → field x6 24 2 ≡ 0 → length x6 ≡ length x5 →
    KeepsOthers 11 13 x4 x5 → field x5 11 13 ≡ p → p ≡ pid → length x5 ≡ length x4 →
    KeepsOthers 10 1 x3 x4 → field x4 10 1 ≡ 0 → length x4 ≡ length x3 →
    KeepsOthers 9 1 x2 x3 → field x3 9 1 ≡ 1 → length x3 ≡ length x2 →
    KeepsOthers 8 1 x1 x2 → field x2 8 1 ≡ 0 → length x2 ≡ length x1 →
    KeepsOthers 0 8 x0 x1 → field x1 0 8 ≡ 0x47 → length x1 ≡ length x0 → length x0 ≡ 4 →
    x8 ≡ section_header pid counter
header_written pid counter p k x0 x1 x2 x3 x4 x5 x6 x7 x8 bytes k8 f8 ek l8 k7 f7 l7 k6 f6 l6 k5 f5 ep l5 k4 f4 l4 k3 f3
    l3 k2 f2 l2 k1 f1 l1 l0 =
    let s7 : (o w : ℕ) → o + w ≤ 28 → field x8 o w ≡ field x7 o w = λ o w h. apart_stays x7 x8 28 4 o w k8 (inl h) in
    let s6 : (o w : ℕ) → o + w ≤ 26 → field x8 o w ≡ field x6 o w = λ o w h. s7 o w (omega arith) ∙
    apart_stays x6 x7 26 2 o w k7 (inl h) in
    let s5 : (o w : ℕ) → o + w ≤ 24 → field x8 o w ≡ field x5 o w = λ o w h. s6 o w (omega arith) ∙
    apart_stays x5 x6 24 2 o w k6 (inl h) in
    let s4 : (o w : ℕ) → o + w ≤ 11 → field x8 o w ≡ field x4 o w = λ o w h. s5 o w (omega arith) ∙
    apart_stays x4 x5 11 13 o w k5 (inl h) in
    let s3 : (o w : ℕ) → o + w ≤ 10 → field x8 o w ≡ field x3 o w = λ o w h. s4 o w (omega arith) ∙
    apart_stays x3 x4 10 1 o w k4 (inl h) in
    let s2 : (o w : ℕ) → o + w ≤ 9 → field x8 o w ≡ field x2 o w = λ o w h. s3 o w (omega arith) ∙
    apart_stays x2 x3 9 1 o w k3 (inl h) in
    let s1 : (o w : ℕ) → o + w ≤ 8 → field x8 o w ≡ field x1 o w = λ o w h. s2 o w (omega arith) ∙
    apart_stays x1 x2 8 1 o w k2 (inl h) in
    header_by_fields x8 pid counter (omega arith) bytes (s1 0 8 (omega arith) ∙ f1) (s2 8 1 (omega arith) ∙ f2)
    (s3 9 1 (omega arith) ∙ f3) (s4 10 1 (omega arith) ∙ f4) (s5 11 13 (omega arith) ∙ (f5 ∙ ep))
    (s6 24 2 (omega arith) ∙ f6) (s7 26 2 (omega arith) ∙ f7) (f8 ∙ ek)
