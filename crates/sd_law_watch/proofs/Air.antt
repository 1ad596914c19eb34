-- What the packets of a broadcast are on air.
use Rattle.std.proofs.Common.{◌≡◌, refl, ℕ, ◌+◌, ◌*◌, ◌<◌, ◌%◌, List, [], length, take}
use Rattle.std.proofs.Common.{arith, inl, inr}
use Rattle.std.specs.Prelude.{is_none, slice_index}
use Rattle.std.proofs.lemmas.Bool.{cases_Bool}
use Rattle.std.proofs.lemmas.List.Elements.{All-get_or}
use Rattle.sd_base.specs.Bits.{field}
use Rattle.sd_tree_keys.specs.Keys.{control_word_of}
use Rattle.sd_packet.specs.Header.{transport_error, scrambling_of, counter_of, payload_start_of}
use Rattle.sd_packet.specs.Packing.{section_packet}
use Rattle.sd_packet.proofs.Packets.{packet_reads, start_within}
use Rattle.sd_psi.specs.Rewriting.{rewrite_fault}
use Rattle.sd_psi.proofs.Keeping.{rewritten_packet_keeps}
use Rattle.sd_cipher.specs.Scrambling.{control_of, payload_under, packet_under_keystream}
use Rattle.sd_cipher.proofs.Scramblings.{prefix_is}
use Rattle.sd_site_cards.specs.SiteFields.{SiteFields}
use Rattle.sd_spec.specs.Plan.{Plan, word_of}
use Rattle.sd_spec.specs.Kinds.{kind_of}
use Rattle.sd_spec.specs.Refused.{IsSendable}
use Rattle.sd_spec.specs.Carried.{parity_of, place_after, pmt_carried, packet_under_word, carried_as, carried}
use Rattle.sd_spec.specs.declared.kind.Kind.{Kind}
use Rattle.sd_spec.specs.declared.kind.Kind.TheVariants.{Passed, Pmt, Scrambled}
use Rattle.sd_law_broadcast.specs.Packets.{IsWholePacket, AreWholePackets}
use Rattle.sd_law_broadcast.proofs.Clear.{accepted, each_clear}
use Rattle.sd_law_broadcast.proofs.Carrying.{kind_placed, placed_packet, carried_keeps}
use Rattle.sd_law_losses.specs.Confirmed.{packet_at}
use Rattle.sd_law_losses.proofs.Setting.{carried_at}
use Rattle.sd_law_losses.proofs.Lawful.{setting}

-- a packet that is neither marked nor scrambled
pub record IsPlain (packet : List ℕ) : Type 0 where
  pub error : transport_error packet ≡ 0
  pub control : scrambling_of packet ≡ 0

pub packed_plain : (section : List ℕ) (pid n : ℕ) → pid < 8192 → IsPlain (section_packet section pid (n % 16))
packed_plain section pid n low =
    let reads = packet_reads section pid (n % 16) low (omega arith) in
    record { error = reads.error; control = reads.scrambling }

-- the error bit stays as the packet is carried
error_by_byte : (x y : List ℕ) → slice_index x 1 ≡ slice_index y 1 → transport_error x ≡ transport_error y
unfolding field
error_by_byte x y same = rw same refl

veiled_error : (site : SiteFields) (t position : ℕ) (packet : List ℕ) → length packet ≡ 188 →
    transport_error (packet_under_word site t position packet) ≡ transport_error packet
unfolding packet_under_word packet_under_keystream
veiled_error site t position packet long =
    let word : List ℕ = control_word_of site.master t in
    let prefix = prefix_is packet (payload_under packet word position) (payload_start_of packet)
    (control_of (parity_of t) * 64 + slice_index packet 3 % 64) (start_within packet).0 (omega (arith, long)) in
    error_by_byte (packet_under_word site t position packet) packet prefix.second

pmt_error : (site : SiteFields) (before : List (List ℕ)) (packet : List ℕ) → IsWholePacket packet →
    kind_of before packet ≡ Pmt → transport_error (pmt_carried site packet) ≡ transport_error packet
unfolding pmt_carried
pmt_error site before packet whole is = elim (cases_Bool (is_none (rewrite_fault packet))) [
  | inr full ↦ rw full refl
  | inl room ↦ rw room (rewritten_packet_keeps site.ca site.ecm packet
      (placed_packet packet whole (kind_placed before packet (λ e. absurd (cc))))).error
]

carried_error : (site : SiteFields) (before : List (List ℕ)) (packet : List ℕ) → IsWholePacket packet →
    transport_error (carried site before packet) ≡ transport_error packet
unfolding carried
carried_error site before packet whole = by_kind (kind_of before packet) refl
  where
    by_kind : (kind : Kind) → kind_of before packet ≡ kind →
        transport_error (carried_as kind site before packet) ≡ transport_error packet
    by_kind Passed is = refl
    by_kind Pmt is = pmt_error site before packet whole is
    by_kind Scrambled is =
        veiled_error site (word_of site (length before)) (place_after before packet) packet whole.long

-- clear packet k on air
pub record IsOnAir (clear : List (List ℕ)) (k : ℕ) (packet : List ℕ) : Type 0 where
  pub error : transport_error packet ≡ transport_error (packet_at clear k)
  pub counter : counter_of packet ≡ counter_of (packet_at clear k)

pub on_air : (plan : Plan) (clear : List (List ℕ)) (u k : ℕ) → IsSendable plan.site clear → AreWholePackets clear →
    k < length clear → IsOnAir clear k (carried_at (setting plan clear u) k)
unfolding carried_at
on_air plan clear u k all whole within =
    let one = All-get_or IsWholePacket clear k [] within whole in
    let taken = accepted plan.site (take k clear) (packet_at clear k) (each_clear plan.site clear k all within) in
    record {
      error = carried_error plan.site (take k clear) (packet_at clear k) one;
      counter = (carried_keeps plan.site (take k clear) (packet_at clear k) one taken.clear).counter;
    }
