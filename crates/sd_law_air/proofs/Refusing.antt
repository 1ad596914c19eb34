-- The first packet that is refused.
use Rattle.std.proofs.Common.{◌≡◌, ℕ, ◌+◌, false, [], ◌∷◌, ◌++◌, length, Some, refl, ap, sym, arith}
use Rattle.std.proofs.Common.{◌∙◌, append-nil, append_assoc}
use Rattle.sd_base.specs.Types.{Packet, Packets}
use Rattle.sd_site_cards.specs.SiteFields.{SiteFields}
use Rattle.sd_message.specs.declared.clear_fault.ClearFault.{ClearFault}
use Rattle.sd_spec.specs.Counting.{is_marked}
use Rattle.sd_spec.specs.Refused.{unsent_at}
use Rattle.sd_spec.specs.Aired.{aired_from, left_from}
use Rattle.sd_law_air.specs.Counted.{IsFirstRefused}
use Rattle.sd_law_air.proofs.Fates.{fate_of, marked, refused, sent, ends}

-- the first packet that is refused after others, from packet n on
record IsFirstAfter (site : SiteFields) (before : Packets) (n : ℕ) (packets : Packets) (fault : ClearFault) : Type 0
  where
    earlier : Packets
    packet : Packet
    later : Packets
    parts : earlier ++ packet ∷ later ≡ packets
    none_refused : (left_from site before n earlier).refused ≡ 0
    unmarked : is_marked packet ≡ false
    broken : unsent_at site (before ++ aired_from site before n earlier) (n + length earlier) packet ≡ Some fault

-- it is the same with a packet in front that is not refused
one_before : (site : SiteFields) (before after : Packets) (n : ℕ) (first : Packet) (packets : Packets)
    (fault : ClearFault) (found : IsFirstAfter site after (n + 1) packets fault) →
    (left_from site before n (first ∷ found.earlier)).refused ≡ (left_from site after (n + 1) found.earlier).refused →
    before ++ aired_from site before n (first ∷ found.earlier) ≡ after ++ aired_from site after (n + 1) found.earlier →
    IsFirstAfter site before n (first ∷ packets) fault
one_before site before after n first packets fault found same_count same =
    let place : n + length (first ∷ found.earlier) ≡ n + 1 + length found.earlier = omega arith in
    record {
      earlier = first ∷ found.earlier;
      packet = found.packet;
      later = found.later;
      parts = ap (λ (rest : Packets). first ∷ rest) found.parts;
      none_refused = same_count ∙ found.none_refused;
      unmarked = found.unmarked;
      broken = rw (same, place) found.broken;
    }

first_after : (site : SiteFields) (before : Packets) (n : ℕ) (packets : Packets) (fault : ClearFault) →
    (left_from site before n packets).first ≡ Some fault → IsFirstAfter site before n packets fault
unfolding aired_from left_from
first_after site before n [] fault e = absurd (cc)
first_after site before n (first ∷ packets) fault e = elim (fate_of site before first) [
  | marked bad is ↦ one_before site before before n first packets fault
      (first_after site before (n + 1) packets fault (rw (is n) at e)) (rw (is n) refl) (rw (is n) refl)
  | refused good why broken is ↦
      let here : Some (why n) ≡ Some fault = rw (is n) at e in
      let place : n + 0 ≡ n = omega arith in
      record {
        earlier = [];
        packet = first;
        later = packets;
        parts = refl;
        none_refused = refl;
        unmarked = good;
        broken = rw (append-nil before, place) (broken n ∙ here);
      }
  | sent good short none is ↦
      let found = first_after site (before ++ first ∷ []) (n + 1) packets fault (rw (is n) at e) in
      one_before site before (before ++ first ∷ []) n first packets fault found (rw (is n) refl)
      (rw (is n) (sym (append_assoc before (first ∷ [])
      (aired_from site (before ++ first ∷ []) (n + 1) found.earlier))))
  | ends good long why is ↦ let no = rw (is n) at e in absurd (cc)
]

pub first_refused : (site : SiteFields) (packets : Packets) (fault : ClearFault) →
    (left_from site [] 0 packets).first ≡ Some fault → IsFirstRefused site packets fault
first_refused site packets fault e =
    let found = first_after site [] 0 packets fault e in
    let place : 0 + length found.earlier ≡ length found.earlier = omega arith in
    record {
      earlier = found.earlier;
      packet = found.packet;
      later = found.later;
      parts = found.parts;
      none_refused = found.none_refused;
      unmarked = found.unmarked;
      broken = rw place at found.broken;
    }
