-- A packet that was carried is what it was.
use Rattle.std.proofs.Common.{◌≡◌, ◌≢◌, ℕ, Bool, true, false, nat_eq, List, length, if◌then◌else◌}
use Rattle.std.proofs.Common.{Option, Some, None, refl, ◌∙◌, inl, inr}
use Rattle.std.specs.Prelude.{is_none}
use Rattle.std.proofs.lemmas.Bool.{cases_Bool}
use Rattle.std.specs.List.{list_any}
use Rattle.sd_packet.specs.Header.{pid_of, scrambling_of}
use Rattle.sd_packet.specs.Positions.{is_placed}
use Rattle.sd_tree_keys.specs.Keys.{control_word_of}
use Rattle.sd_site_cards.specs.SiteFields.{SiteFields}
use Rattle.sd_psi.specs.Rewriting.{pmt_with_descriptor, rewrite_fault, restore_fault}
use Rattle.sd_psi.specs.Undone.{IsPacket}
use Rattle.sd_psi.proofs.Keeping.{rewritten_packet_keeps}
use Rattle.sd_psi.proofs.Inverse.{restorable, restored_again}
use Rattle.sd_cipher.specs.Scrambling.{control_of, descrambled}
use Rattle.sd_cipher.proofs.Scramblings.{undone, control_fits}
use Rattle.sd_spec.specs.Plan.{word_of}
use Rattle.sd_spec.specs.Kinds.{kind_of, pmts_in}
use Rattle.sd_spec.specs.Carried.{parity_of, place_after, pmt_carried, packet_under_word, carried_as, carried}
use Rattle.sd_spec.specs.Refused.{unsent_at, is_full_own}
use Rattle.sd_spec.specs.declared.kind.Kind.{Kind}
use Rattle.sd_spec.specs.declared.kind.Kind.TheVariants.{Passed, Pmt, Scrambled}
use Rattle.sd_spec.specs.Confirmed.{Segment, unmarked}
use Rattle.sd_spec.proofs.Unmarked.{unplaced_stays, unmarked_stays, marked_back}
use Rattle.sd_law_broadcast.specs.Packets.{IsWholePacket}
use Rattle.sd_law_broadcast.proofs.Clear.{accepted}
use Rattle.sd_law_broadcast.proofs.Carrying.{kind_placed, placed_packet}

-- a passed packet has no position
kind_unplaced : (before : List (List ℕ)) (packet : List ℕ) → kind_of before packet ≡ Passed → is_placed packet ≡ false
unfolding kind_of
kind_unplaced before packet is = elim (cases_Bool (is_placed packet)) [
  | inr none ↦ none
  | inl placed ↦ absurd (no_kind (list_any (nat_eq (pid_of packet)) (pmts_in before)) (rw placed at is))
]
  where
    no_kind : (b : Bool) → (if b then Pmt else Scrambled) ≡ Passed → ⊥
    no_kind true e = absurd (cc)
    no_kind false e = absurd (cc)

-- a fault that isn't told is none
none_is : {A : Type 0} (x : Option A) → is_none x ≡ true → x ≡ None
none_is None e = refl
none_is (Some a) e = absurd (cc)

-- a rewritten packet is placed as it was
placed_still : (ca pid : ℕ) (packet : List ℕ) → IsPacket packet → is_placed packet ≡ true →
    is_placed (pmt_with_descriptor ca pid packet) ≡ true
placed_still ca pid packet is placed =
    let keeps = rewritten_packet_keeps ca pid packet is in
    rw (keeps.same_pid, keeps.start) placed

-- a PMT comes back, with room for the project's descriptor and without
pmt_back : (site : SiteFields) (packet : List ℕ) (segment : Segment) → IsPacket packet → is_placed packet ≡ true →
    is_full_own site Pmt packet ≡ false → segment.ca ≡ site.ca → segment.ecm ≡ site.ecm →
    unmarked segment (pmt_carried site packet) ≡ packet
unfolding pmt_carried
pmt_back site packet segment is placed own ca ecm = elim (cases_Bool (is_none (rewrite_fault packet))) [
  | inl room ↦
      let may = none_is (rewrite_fault packet) room in
      let good : restore_fault segment.ca segment.ecm (pmt_with_descriptor site.ca site.ecm packet) ≡ None =
      rw (ca, ecm) (restorable site.ca site.ecm packet is may) in
      rw room (marked_back segment (pmt_with_descriptor site.ca site.ecm packet)
      (placed_still site.ca site.ecm packet is
      placed) good
      ∙ restored_again site.ca site.ecm packet is may)
  | inr full ↦
      let other : is_none (restore_fault site.ca site.ecm packet) ≡ false = rw full at own in
      let still : is_none (restore_fault segment.ca segment.ecm packet) ≡ false = rw (ca, ecm) other in
      rw full (unmarked_stays segment packet still)
]

-- a clear packet comes back
pub clear_back : (site : SiteFields) (before : List (List ℕ)) (packet : List ℕ) (segment : Segment) →
    IsWholePacket packet → unsent_at site before (length before) packet ≡ None → segment.ca ≡ site.ca →
    segment.ecm ≡ site.ecm → kind_of before packet ≢ Scrambled → unmarked segment (carried site before packet) ≡ packet
unfolding carried
clear_back site before packet segment whole sent ca ecm other = by_kind (kind_of before packet) refl
  where
    by_kind : (kind : Kind) → kind_of before packet ≡ kind → unmarked segment
        (carried_as kind site before packet) ≡ packet
    by_kind Passed is = unplaced_stays segment packet (kind_unplaced before packet is)
    by_kind Pmt is =
        let placed = kind_placed before packet (λ e. absurd (cc)) in
        let own = rw is at (accepted site before packet sent).own in
        pmt_back site packet segment (placed_packet packet whole placed) placed own ca ecm
    by_kind Scrambled is = absurd (other is)

-- a scrambled one does at its own position
veiled_back : (site : SiteFields) (t position : ℕ) (packet : List ℕ) → IsWholePacket packet → scrambling_of packet ≡ 0 →
    descrambled (packet_under_word site t position packet) (control_word_of site.master t) position ≡ packet
unfolding packet_under_word
veiled_back site t position packet whole clear =
    undone packet (control_word_of site.master t) position (control_of (parity_of t)) whole.long (whole.bytes 3) clear
    (control_fits (parity_of t))

pub scrambled_back : (site : SiteFields) (before : List (List ℕ)) (packet : List ℕ) → IsWholePacket packet →
    unsent_at site before (length before) packet ≡ None → kind_of before packet ≡ Scrambled →
    descrambled (carried site before packet) (control_word_of site.master (word_of site (length before)))
    (place_after before packet) ≡ packet
unfolding carried
scrambled_back site before packet whole sent is =
    rw is (veiled_back site (word_of site (length before)) (place_after before packet) packet whole
    (accepted site before packet sent).clear)
