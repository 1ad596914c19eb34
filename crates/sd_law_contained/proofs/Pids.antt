-- A packet keeps its PID when it is descrambled or restored, and a PID's position depends on its own packets.
use Rattle.std.proofs.Common.{◌≡◌, refl, ℕ, zero, suc, ◌+◌, ◌==◌, ◌<◌, ◌≤◌, ◌&&◌, ◌++◌, Bool, true, false, List, []}
use Rattle.std.proofs.Common.{◌∷◌}
use Rattle.std.proofs.Common.{length, take, ap, sym, ◌∙◌, inl, inr, arith}
use Rattle.std.specs.Prelude.{if◌then◌else◌, filter, is_none}
use Rattle.std.proofs.lemmas.Bool.{cases_lt}
use Rattle.sd_base.specs.Bits.{field}
use Rattle.sd_base.proofs.Bools.{and_false}
use Rattle.sd_packet.specs.Header.{pid_of, has_payload, payload_start_of, controlled}
use Rattle.sd_packet.specs.Positions.{is_positional, is_placed, moved, moved_by}
use Rattle.sd_packet.proofs.Packets.{start_within}
use Rattle.sd_cipher.specs.Scrambling.{descrambled, packet_under_keystream, payload_under}
use Rattle.sd_cipher.proofs.Scramblings.{pid_by_bytes}
use Rattle.sd_psi.specs.Rewriting.{pmt_without_descriptor, restore_fault}
use Rattle.sd_spec.specs.Confirmed.{Segment, unmarked}

-- a packet without a fourth byte has no payload
empty_short : (packet : List ℕ) → length packet < 4 → has_payload packet ≡ false
unfolding field payload_start_of
empty_short [] short = refl
empty_short (a ∷ []) short = refl
empty_short (a ∷ (b ∷ [])) short = refl
empty_short (a ∷ (b ∷ (c ∷ []))) short = refl
empty_short (a ∷ (b ∷ (c ∷ (d ∷ rest)))) short = absurd (omega (arith, short))

-- so one that has a position has four
placed_long : (packet : List ℕ) → is_placed packet ≡ true → 4 ≤ length packet
placed_long packet placed = elim (cases_lt (length packet) 4) [
  | inl short ↦
      let none : is_placed packet ≡ false =
      ap (λ (some : Bool). is_positional (pid_of packet) && some) (empty_short packet short)
      ∙ and_false (is_positional (pid_of packet)) in
      absurd (cc)
  | inr long ↦ long
]

-- what is put behind the first four bytes leaves the PID
behind_header : (packet rest : List ℕ) (start : ℕ) → 4 ≤ start → 4 ≤ length packet →
    pid_of (take start packet ++ rest) ≡ pid_of packet
behind_header [] rest start low long = absurd (omega (arith, long))
behind_header (a ∷ []) rest start low long = absurd (omega (arith, long))
behind_header (a ∷ (b ∷ [])) rest start low long = absurd (omega (arith, long))
behind_header (a ∷ (b ∷ (c ∷ []))) rest start low long = absurd (omega (arith, long))
behind_header (a ∷ (b ∷ (c ∷ (d ∷ packet)))) rest zero low long = absurd (omega (arith, low))
behind_header (a ∷ (b ∷ (c ∷ (d ∷ packet)))) rest (suc zero) low long = absurd (omega (arith, low))
behind_header (a ∷ (b ∷ (c ∷ (d ∷ packet)))) rest (suc (suc zero)) low long = absurd (omega (arith, low))
behind_header (a ∷ (b ∷ (c ∷ (d ∷ packet)))) rest (suc (suc (suc n))) low long =
    pid_by_bytes (take (suc (suc (suc n))) (a ∷ (b ∷ (c ∷ (d ∷ packet)))) ++ rest) (a ∷ (b ∷ (c ∷ (d ∷ packet))))
    refl refl

-- nor does the fourth byte change it
controlled_pid : (packet : List ℕ) (control : ℕ) → 4 ≤ length packet →
    (pid_of (controlled packet control) ≡ pid_of packet) × (4 ≤ length (controlled packet control))
controlled_pid [] control long = absurd (omega (arith, long))
controlled_pid (a ∷ []) control long = absurd (omega (arith, long))
controlled_pid (a ∷ (b ∷ [])) control long = absurd (omega (arith, long))
controlled_pid (a ∷ (b ∷ (c ∷ []))) control long = absurd (omega (arith, long))
controlled_pid (a ∷ (b ∷ (c ∷ (d ∷ packet)))) control long = (
  pid_by_bytes (controlled (a ∷ (b ∷ (c ∷ (d ∷ packet)))) control) (a ∷ (b ∷ (c ∷ (d ∷ packet)))) refl refl,
  omega arith,
)

-- a descrambled packet
pub descrambled_pid : (packet word : List ℕ) (position : ℕ) → is_placed packet ≡ true →
    pid_of (descrambled packet word position) ≡ pid_of packet
unfolding packet_under_keystream
descrambled_pid packet word position placed =
    let long = placed_long packet placed in
    let set = controlled_pid packet 0 long in
    behind_header (controlled packet 0) (payload_under packet word position) (payload_start_of packet)
    (start_within packet).0 set.1 ∙ set.0

-- a packet in the clear, as it is written
restored_pid : (packet : List ℕ) → is_placed packet ≡ true → pid_of (pmt_without_descriptor packet) ≡ pid_of packet
unfolding pmt_without_descriptor
restored_pid packet placed =
    behind_header packet _ (payload_start_of packet + 1) (omega (arith, (start_within packet).0))
    (placed_long packet placed)

unmarked_by : (packet : List ℕ) (placed marked : Bool) → (placed ≡ true → pid_of (pmt_without_descriptor packet)
    ≡ pid_of packet) →
    pid_of (if placed && marked then pmt_without_descriptor packet else packet) ≡ pid_of packet
unmarked_by packet true true kept = kept refl
unmarked_by packet true false kept = refl
unmarked_by packet false marked kept = refl

pub unmarked_pid : (segment : Segment) (packet : List ℕ) → pid_of (unmarked segment packet) ≡ pid_of packet
unfolding unmarked
unmarked_pid segment packet =
    unmarked_by packet (is_placed packet) (is_none (restore_fault segment.ca segment.ecm packet)) (restored_pid packet)

-- a position is moved by the packets of its PID
moved_on : (pid position : ℕ) (packet : List ℕ) (packets : List (List ℕ)) (here : Bool) →
    (pid_of packet == pid) ≡ here →
    moved_by pid position (if here then packet ∷ packets else packets)
    ≡ moved_by pid (moved pid position packet) packets
unfolding moved_by
moved_on pid position packet packets true is = refl
moved_on pid position packet packets false is =
    ap (λ (p : ℕ). moved_by pid p packets) (sym (let still : moved pid position packet ≡ position = rw is refl in
    still))

pub moved_by_on : (pid position : ℕ) (packets : List (List ℕ)) →
    moved_by pid position (filter (λ packet. pid_of packet == pid) packets) ≡ moved_by pid position packets
unfolding moved_by
moved_by_on pid position [] = refl
moved_by_on pid position (packet ∷ packets) =
    moved_on pid position packet (filter (λ p. pid_of p == pid) packets) (pid_of packet == pid) refl
    ∙ moved_by_on pid (moved pid position packet) packets
