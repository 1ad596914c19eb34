-- The header of a clear packet as it is carried.
use Rattle.std.proofs.Common.{◌≡◌, ℕ, ◌+◌, ◌*◌, ◌%◌, ◌<◌, ◌==◌, true, List, length, slice_index}
use Rattle.std.proofs.Common.{refl, ◌∙◌, inl, inr, arith}
use Rattle.std.specs.Prelude.{is_none}
use Rattle.std.proofs.lemmas.Bool.{cases_Bool}
use Rattle.std.proofs.lemmas.Bool.Decides.{nat_tests}
use Rattle.sd_packet.proofs.Packets.{start_within}
use Rattle.sd_packet.specs.Header.{pid_of, scrambling_of, payload_start_of, has_payload}
use Rattle.sd_packet.specs.Positions.{is_placed, moved}
use Rattle.sd_tree_keys.specs.Keys.{control_word_of}
use Rattle.sd_site_cards.specs.SiteFields.{SiteFields}
use Rattle.sd_psi.specs.Rewriting.{rewrite_fault}
use Rattle.sd_psi.specs.Undone.{IsPacket}
use Rattle.sd_psi.proofs.Keeping.{rewritten_keeps, rewritten_packet_keeps}
use Rattle.sd_cipher.specs.Scrambling.{control_of, payload_under, packet_under_keystream}
use Rattle.sd_cipher.proofs.Scramblings.{prefix_is, laid_reads, control_fits, pid_by_bytes}
use Rattle.sd_spec.specs.Plan.{word_of}
use Rattle.sd_spec.specs.Kinds.{kind_of}
use Rattle.sd_spec.specs.Carried.{parity_of, place_after, pmt_carried, packet_under_word, carried_as, carried}
use Rattle.sd_spec.specs.declared.kind.Kind.{Kind}
use Rattle.sd_spec.specs.declared.kind.Kind.TheVariants.{Passed, Pmt, Scrambled}
use Rattle.sd_law_broadcast.specs.Packets.{IsWholePacket}
use Rattle.sd_law_broadcast.specs.Headers.{control_in, IsCarriedWith}

-- a packet that is not passed has a position
pub kind_placed : (before : List (List ℕ)) (packet : List ℕ) → (kind_of before packet ≡ Passed → ⊥) →
    is_placed packet ≡ true
unfolding kind_of
kind_placed before packet other = elim (cases_Bool (is_placed packet)) [
  | inl placed ↦ placed
  | inr none ↦ absurd (other (rw none refl))
]

-- so its payload isn't empty
pub placed_packet : (packet : List ℕ) → IsWholePacket packet → is_placed packet ≡ true → IsPacket packet
placed_packet packet whole placed =
    let some : has_payload packet ≡ true = grind (arith, nat_tests, placed) in
    record { long = whole.long; bytes = whole.bytes; payload = grind (arith, nat_tests, some) }

-- the control of a word's parity
control_is : (t : ℕ) → control_of (parity_of t) ≡ 2 + t % 2
control_is t = elim (cases_Bool (t % 2 == 0)) [
  | inl even ↦ rw even (grind (arith, nat_tests, even))
  | inr odd ↦ rw odd (grind (arith, nat_tests, odd))
]

-- a PMT keeps its header
pmt_keeps : (site : SiteFields) (packet : List ℕ) → IsPacket packet → scrambling_of packet ≡ 0 →
    IsCarriedWith 0 packet (pmt_carried site packet)
unfolding pmt_carried
pmt_keeps site packet is clear = elim (cases_Bool (is_none (rewrite_fault packet))) [
  | inr full ↦ rw full (record {
    unit_start = refl;
    pid = refl;
    scrambling = clear;
    adaptation = refl;
    counter = refl;
    start = refl;
  })
  | inl room ↦
      let keeps = rewritten_packet_keeps site.ca site.ecm packet is in
      rw room (record {
        unit_start = keeps.unit_start;
        pid = keeps.same_pid;
        scrambling = keeps.scrambling ∙ clear;
        adaptation = keeps.adaptation;
        counter = keeps.counter;
        start = keeps.start;
      })
]

-- a scrambled packet keeps its header but for the control
veiled_keeps : (site : SiteFields) (t position : ℕ) (packet : List ℕ) → IsWholePacket packet →
    IsCarriedWith (2 + t % 2) packet (packet_under_word site t position packet)
unfolding packet_under_word
veiled_keeps site t position packet whole =
    let reads = laid_reads packet (control_word_of site.master t) position (control_of (parity_of t)) whole.long
    (whole.bytes 3)
    (control_fits (parity_of t)) in
    record {
      unit_start = reads.unit_start;
      pid = reads.pid;
      scrambling = reads.scrambling ∙ control_is t;
      adaptation = reads.adaptation;
      counter = reads.counter;
      start = reads.start;
    }

-- each clear packet does, whatever its kind
pub carried_keeps : (site : SiteFields) (before : List (List ℕ)) (packet : List ℕ) → IsWholePacket packet →
    scrambling_of packet ≡ 0 →
    IsCarriedWith (control_in (kind_of before packet) (word_of site (length before))) packet
    (carried site before packet)
unfolding carried
carried_keeps site before packet whole clear = by_kind (kind_of before packet) refl
  where
    by_kind : (kind : Kind) → kind_of before packet ≡ kind →
        IsCarriedWith (control_in kind (word_of site (length before))) packet (carried_as kind site before packet)
    by_kind Passed is =
        record { unit_start = refl; pid = refl; scrambling = clear; adaptation = refl; counter = refl; start = refl }
    by_kind Pmt is =
        pmt_keeps site packet (placed_packet packet whole (kind_placed before packet (λ e. absurd (cc)))) clear
    by_kind Scrambled is = veiled_keeps site (word_of site (length before)) (place_after before packet) packet whole

veiled_pid : (site : SiteFields) (t position : ℕ) (packet : List ℕ) → length packet ≡ 188 →
    pid_of (packet_under_word site t position packet) ≡ pid_of packet
unfolding packet_under_word packet_under_keystream
veiled_pid site t position packet long =
    let word : List ℕ = control_word_of site.master t in
    let prefix = prefix_is packet (payload_under packet word position) (payload_start_of packet)
    (control_of (parity_of t) * 64 + slice_index packet 3 % 64) (start_within packet).0 (omega (arith, long)) in
    pid_by_bytes (packet_under_word site t position packet) packet prefix.second prefix.third

pmt_pid : (site : SiteFields) (packet : List ℕ) → length packet ≡ 188 → payload_start_of packet < 188 →
    pid_of (pmt_carried site packet) ≡ pid_of packet
unfolding pmt_carried
pmt_pid site packet long some = elim (cases_Bool (is_none (rewrite_fault packet))) [
  | inr full ↦ rw full refl
  | inl room ↦ rw room (rewritten_keeps packet site.ca site.ecm long some).same_pid
]

pub carried_pid : (site : SiteFields) (before : List (List ℕ)) (packet : List ℕ) → length packet ≡ 188 →
    pid_of (carried site before packet) ≡ pid_of packet
unfolding carried
carried_pid site before packet long = by_kind (kind_of before packet) refl
  where
    by_kind : (kind : Kind) → kind_of before packet ≡ kind → pid_of (carried_as kind site before packet) ≡ pid_of packet
    by_kind Passed is = refl
    by_kind Pmt is =
        let placed = kind_placed before packet (λ e. absurd (cc)) in
        pmt_pid site packet long (grind (arith, nat_tests, placed))
    by_kind Scrambled is = veiled_pid site (word_of site (length before)) (place_after before packet) packet long

-- so it moves positions as it did
pub moves_alike : (control pid position : ℕ) (old new : List ℕ) → IsCarriedWith control old new →
    moved pid position new ≡ moved pid position old
moves_alike control pid position old new keeps = rw (keeps.pid, keeps.start, keeps.counter) refl
