-- What stays of a packet's header, and which packets can't be rewritten.
use Rattle.std.proofs.Common.{ℕ, ◌+◌, ◌<◌, ◌≤◌, ◌≡◌, Bool, true, false, List, ◌++◌, length, drop, length-take-le, refl}
use Rattle.std.proofs.Common.{◌∙◌, arith}
use Rattle.std.specs.Prelude.{Option, Some, None, ◌≢◌, replicate}
use Rattle.std.proofs.lemmas.List.{take_at}
use Rattle.sd_base.specs.Bits.{field}
use Rattle.sd_packet.specs.Header.{payload_start_of}
use Rattle.sd_packet.proofs.Packets.{start_within}
use Rattle.sd_section.proofs.Judging.{field_take}
use Rattle.sd_section.proofs.Cutting.{field_append}
use Rattle.sd_psi.specs.declared.fault.FormFault.{FormFault}
use Rattle.sd_psi.specs.declared.fault.FormFault.TheVariants as Fault
use Rattle.sd_psi.specs.declared.form.Table.TheVariants.{Pmt}
use Rattle.sd_psi.specs.Forms.{fault_unless, fault_or_next, section_in, after_section, outer_fault}
use Rattle.sd_psi.specs.Rewriting.{ca_descriptor, section_with_descriptor, section_without_descriptor, before_section}
use Rattle.sd_psi.specs.Rewriting.{pmt_with_descriptor, pmt_without_descriptor, loops_fault}
use Rattle.sd_psi.specs.Rewriting.{has_pmt_room, is_first_descriptor, rewrite_fault, removal_fault, restore_fault}
use Rattle.sd_psi.specs.Undone.{IsPacket, KeepsHeader}
use Rattle.sd_psi.proofs.Inverse.{same_start, none_parts}

-- a packet with other bytes from its section on has its header
module _ (packet rest : List ℕ) (long : length packet ≡ 188) (some : payload_start_of packet < 188) where
  head_long : length (before_section packet) ≡ payload_start_of packet + 1
  head_long = length-take-le (payload_start_of packet + 1) packet (omega (arith, long, some))

  field_stays : (at width : ℕ) → at + width ≤ 32 → field (before_section packet ++ rest) at width ≡ field packet at
      width
  field_stays at width h =
      field_append (before_section packet) rest at width (omega (arith, head_long, (start_within packet).0, h))
      ∙ field_take packet (payload_start_of packet + 1) at width (omega (arith, (start_within packet).0, h))

  start_stays : payload_start_of (before_section packet ++ rest) ≡ payload_start_of packet
  start_stays =
      same_start (before_section packet ++ rest) packet (payload_start_of packet + 1)
      (omega (arith, (start_within packet).0))
      (take_at (before_section packet) rest (payload_start_of packet + 1) head_long)

  pub head_keeps : KeepsHeader packet (before_section packet ++ rest)
  head_keeps = record {
    error = field_stays 8 1 (omega arith);
    unit_start = field_stays 9 1 (omega arith);
    priority = field_stays 10 1 (omega arith);
    same_pid = field_stays 11 13 (omega arith);
    scrambling = field_stays 24 2 (omega arith);
    adaptation = field_stays 26 2 (omega arith);
    counter = field_stays 28 4 (omega arith);
    start = start_stays;
  }

-- so has one that is rewritten, or restored
pub rewritten_keeps : (packet : List ℕ) (ca pid : ℕ) → length packet ≡ 188 → payload_start_of packet < 188 →
    KeepsHeader packet (pmt_with_descriptor ca pid packet)
unfolding pmt_with_descriptor
rewritten_keeps packet ca pid long some =
    head_keeps packet (section_with_descriptor (ca_descriptor ca pid) (section_in packet)
    ++ drop 6 (after_section packet)) long some

pub restored_keeps : (packet : List ℕ) → length packet ≡ 188 → payload_start_of packet < 188 →
    KeepsHeader packet (pmt_without_descriptor packet)
unfolding pmt_without_descriptor
restored_keeps packet long some =
    head_keeps packet (section_without_descriptor (section_in packet) ++ (replicate 6 255 ++ after_section packet))
    long some

pub rewritten_packet_keeps : (ca pid : ℕ) (packet : List ℕ) → IsPacket packet →
    KeepsHeader packet (pmt_with_descriptor ca pid packet)
rewritten_packet_keeps ca pid packet is = rewritten_keeps packet ca pid is.long is.payload

pub restored_packet_keeps : (packet : List ℕ) → IsPacket packet → KeepsHeader packet (pmt_without_descriptor packet)
restored_packet_keeps packet is = restored_keeps packet is.long is.payload

-- where the loops are right, a packet that isn't rewritten has no room
room_by : (room : Bool) (outer loops : Option FormFault) → outer ≡ None → loops ≡ None →
    (fault_or_next outer (fault_or_next (fault_unless room Fault.NoRoom) loops) ≡ None → ⊥) →
    fault_or_next outer (fault_or_next (fault_unless room Fault.NoRoom) loops) ≡ Some Fault.NoRoom
room_by true outer loops h k isnt = absurd (isnt (rw (h, k) refl))
room_by false outer loops h k isnt = rw h refl

pub full_is_told_apart : (ca pid : ℕ) (packet : List ℕ) → restore_fault ca pid packet ≡ None →
    rewrite_fault packet ≢ None →
    rewrite_fault packet ≡ Some Fault.NoRoom
unfolding rewrite_fault removal_fault
full_is_told_apart ca pid packet good isnt =
    let outer = none_parts (outer_fault Pmt packet)
    (fault_or_next (loops_fault (section_in packet)) (fault_unless (is_first_descriptor (ca_descriptor ca pid)
    (section_in packet))
    Fault.Descriptor))
    good in
    let loops = none_parts (loops_fault (section_in packet))
    (fault_unless (is_first_descriptor (ca_descriptor ca pid) (section_in packet)) Fault.Descriptor) outer.1 in
    room_by (has_pmt_room packet) (outer_fault Pmt packet) (loops_fault (section_in packet)) outer.0 loops.0 isnt
