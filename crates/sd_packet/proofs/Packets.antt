-- Packets that are one section.
use Rattle.std.proofs.Common.{length-append, ℕ, zero, suc, ◌+◌, ◌-◌, ◌*◌, ◌/◌, ◌%◌, ◌<◌, ◌≤◌, ◌≡◌, List, [], ◌∷◌}
use Rattle.std.proofs.Common.{◌++◌, length, take, drop, refl, ap, ◌∙◌, arith}
use Rattle.std.specs.Prelude.{slice_index, slice_set, replicate, Bool, true, false, if◌then◌else◌, ◌==◌, ◌&&◌, nat_le}
use Rattle.std.proofs.Math.Seq.{drop-append-add}
use Rattle.std.proofs.lemmas.Bool.{and_parts, leb-true}
use Rattle.std.proofs.lemmas.List.{drop-replicate, length-replicate, drop_all, append-nil}
use Rattle.sd_base.proofs.Fields.{field_below}
use Rattle.sd_packet.specs.Header.{transport_error, unit_start_of, priority_of, pid_of, scrambling_of, adaptation_of}
use Rattle.sd_packet.specs.Header.{counter_of, payload_start_of}
use Rattle.sd_packet.specs.Packing.{section_header, section_packet, IsSectionPacket}
use Rattle.sd_packet.proofs.Headers.{flags_and_pid, controls_and_counter}

-- the header, the pointer and the section laid over stuffing are the packet
pub packet_laid : (section head first second : List ℕ) (pid counter : ℕ) → length section ≤ 183 →
    head ≡ section_header pid counter →
    first ≡ take 0 (replicate 188 255) ++ (head ++ drop (0 + length head) (replicate 188 255)) →
    second ≡ take 5 (slice_set first 4 0) ++ (section ++ drop (5 + length section) (slice_set first 4 0)) →
    second ≡ section_packet section pid counter
unfolding section_packet
packet_laid section head first second pid counter h is_head is_first is_second =
    let start : slice_set first 4 0 ≡ section_header pid counter ++ 0 ∷ replicate 183 255 = rw (is_first, is_head)
    refl in
    let rest : drop (5 + length section) (slice_set first 4 0) ≡ replicate (183 - length section) 255 = rw start
    (drop-append-add (section_header pid counter ++ 0 ∷ []) (replicate 183 255) (length section) ∙
    drop-replicate (length section) 183 255) in
    let head : take 5 (slice_set first 4 0) ≡ section_header pid counter ++ 0 ∷ [] = rw start refl in
    rw (is_second, head, rest) refl

-- what is read from the packet
pub packet_reads : (section : List ℕ) (pid counter : ℕ) → pid < 8192 → counter < 16 →
    IsSectionPacket section pid counter (section_packet section pid counter)
unfolding section_packet payload_start_of
packet_reads section pid counter h k =
    let packet : List ℕ = section_packet section pid counter in
    let pids : (0x40 + pid / 256) * 256 + pid % 256 ≡ ((transport_error packet * 2 + unit_start_of packet) * 2
    + priority_of packet) * 8192 + pid_of packet = flags_and_pid packet (omega arith) (omega arith) in
    let controls : 0x10 + counter ≡ (scrambling_of packet * 4 + adaptation_of packet) * 16
    + counter_of packet = controls_and_counter packet (omega arith) in
    let below_error = field_below packet 8 1 in
    let below_start = field_below packet 9 1 in
    let below_priority = field_below packet 10 1 in
    let below_pid = field_below packet 11 13 in
    let below_scrambling = field_below packet 24 2 in
    let below_adaptation = field_below packet 26 2 in
    let below_counter = field_below packet 28 4 in
    let alone : adaptation_of packet ≡ 1 = omega arith in
    record {
      error = omega arith;
      unit_start = omega arith;
      priority = omega arith;
      pid_is = omega arith;
      scrambling = omega arith;
      adaptation = alone;
      counter_is = omega arith;
      start = rw alone refl;
      payload = rw alone refl;
    }

-- a packet that is the section's is read so
pub packed_reads : (packet section : List ℕ) (pid counter : ℕ) → packet ≡ section_packet section pid counter →
    pid < 8192 →
    counter < 16 → IsSectionPacket section pid counter packet
packed_reads packet section pid counter e h k = rw e (packet_reads section pid counter h k)

-- a packet of a section has 188 bytes
pub packet_length : (section : List ℕ) (pid counter : ℕ) → length section ≤ 183 →
    length (section_packet section pid counter)
    ≡ 188
unfolding section_packet
packet_length section pid counter h = omega (
  arith,
  length-append section (replicate (183 - length section) 255),
  length-replicate {A = ℕ} (183 - length section) 255,
)

-- and begins with the sync byte
pub packet_sync : (section : List ℕ) (pid counter : ℕ) → slice_index (section_packet section pid counter) 0 ≡ 0x47
unfolding section_packet
packet_sync section pid counter = refl

-- the counter is the low half of the fourth byte
pub packet_counted : (section : List ℕ) (pid counter : ℕ) →
    section_packet section pid counter ≡ slice_set (section_packet section pid 0) 3 (0x10 + counter)
unfolding section_packet
packet_counted section pid counter = refl

start_by : (alone both : Bool) (n : ℕ) → (both ≡ true → n ≤ 182) →
    (4 ≤ (if alone then 4 else if both then 5 + n else 188)) × ((if alone then 4 else if both then 5 + n else 188)
    ≤ 188)
start_by true both n h = (omega arith, omega arith)
start_by false true n h = let few = h refl in (omega arith, omega arith)
start_by false false n h = (omega arith, omega arith)

-- a payload starts after the header, and at most at the packet's end
pub start_within : (packet : List ℕ) → (4 ≤ payload_start_of packet) × (payload_start_of packet ≤ 188)
unfolding payload_start_of
start_within packet = start_by (adaptation_of packet == 1) ((adaptation_of packet == 3) && nat_le (slice_index packet 4)
    182) (slice_index packet 4) (λ e. leb-true (slice_index packet 4) 182 (and_parts (adaptation_of packet == 3)
    (nat_le (slice_index packet 4) 182) e).1)

-- a payload that fills what is left of a packet after its start
pub payload_put : (packet payload : List ℕ) (start : ℕ) → length packet ≡ 188 → start ≤ 188 →
    length payload ≡ 188 - start →
    take start packet ++ (payload ++ drop (start + length payload) packet) ≡ take start packet ++ payload
payload_put packet payload start long low all =
    let none : drop (start + length payload) packet ≡ [] = drop_all (start + length payload) packet (omega arith) in
    rw none (ap (λ (rest : List ℕ). take start packet ++ rest) (append-nil payload))

-- what stands before it begins with the same byte
pub sync_stays : (packet rest : List ℕ) (start : ℕ) → 4 ≤ start → 1 ≤ length packet →
    slice_index (take start packet ++ rest) 0 ≡ slice_index packet 0
sync_stays [] rest start low some = absurd (omega arith)
sync_stays (x ∷ packet) rest zero low some = absurd (omega arith)
sync_stays (x ∷ packet) rest (suc n) low some = refl

-- the PID of a packed section
pub packed_pid : (section : List ℕ) (pid counter : ℕ) → pid < 8192 → pid_of (section_packet section pid (counter % 16))
    ≡ pid
packed_pid section pid counter low = (packet_reads section pid (counter % 16) low (omega arith)).pid_is
