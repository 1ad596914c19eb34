-- A packet in the clear as it is written.
use Rattle.std.proofs.Common.{◌≡◌, ℕ, true, false, List, None, refl, inl, inr}
use Rattle.std.specs.Prelude.{is_none}
use Rattle.std.proofs.lemmas.Bool.{cases_Bool}
use Rattle.sd_packet.specs.Positions.{is_placed}
use Rattle.sd_psi.specs.Rewriting.{pmt_without_descriptor, restore_fault}
use Rattle.sd_spec.specs.Confirmed.{Segment, unmarked}

-- a packet without a position stays
pub unplaced_stays : (s : Segment) (packet : List ℕ) → is_placed packet ≡ false → unmarked s packet ≡ packet
unfolding unmarked
unplaced_stays s packet none = rw none refl

-- so does one without the project's descriptor
pub unmarked_stays : (s : Segment) (packet : List ℕ) → is_none (restore_fault s.ca s.ecm packet) ≡ false →
    unmarked s packet ≡ packet
unfolding unmarked
unmarked_stays s packet none = elim (cases_Bool (is_placed packet)) [
  | inl placed ↦ rw (placed, none) refl
  | inr other ↦ rw other refl
]

-- a PMT that has it is restored
pub marked_back : (s : Segment) (packet : List ℕ) → is_placed packet ≡ true →
    restore_fault s.ca s.ecm packet ≡ None → unmarked s packet ≡ pmt_without_descriptor packet
unfolding unmarked
marked_back s packet placed good = rw (placed, good) refl
