-- Where a broadcast ends that goes on as long as it can.
use Rattle.std.proofs.Common.{◌≡◌, ℕ, zero, suc, ◌+◌, ◌-◌, ◌*◌, ◌^◌, ◌<◌, ◌≤◌, true, false, [], ◌∷◌, ◌++◌, length}
use Rattle.std.proofs.Common.{◌↔◌, ◌∙◌, Some, None, refl, ap, sym, subst, append-nil, append_assoc, arith}
use Rattle.std.proofs.lemmas.Bool.Decides.{nat_tests}
use Rattle.sd_base.specs.Types.{Packet, Packets}
use Rattle.sd_site_cards.specs.SiteFields.{AreInRange, SiteFields}
use Rattle.sd_message.specs.declared.clear_fault.ClearFault.TheVariants.{TooLong}
use Rattle.sd_spec.specs.Counting.{is_marked}
use Rattle.sd_spec.specs.Plan.{crypto_length, word_of}
use Rattle.sd_spec.specs.Refused.{is_used_up, unsent_at}
use Rattle.sd_spec.specs.Aired.{aired, aired_from, ended_from, verdict_of}
use Rattle.sd_law_broadcast.specs.Runs.{HasWords}
use Rattle.sd_law_broadcast.proofs.Clear.{clear_short, clear_words}
use Rattle.sd_law_broadcast.proofs.Using.{words_suffice}
use Rattle.sd_law_air.specs.Ended.{EndsBefore}
use Rattle.sd_law_air.proofs.Fates.{fate_of, marked, refused, sent, ends}
use Rattle.sd_law_air.proofs.Reading.{aired_then, goes_on}
use Rattle.sd_law_air.proofs.Sendable.{aired_sendable}

-- the packet before which it ends, after others, from packet n on
record EndsAfter (site : SiteFields) (before : Packets) (n : ℕ) (packets : Packets) (k : ℕ) : Type 0 where
  earlier : Packets
  packet : Packet
  later : Packets
  parts : earlier ++ packet ∷ later ≡ packets
  place : n + length earlier ≡ k
  on_air : ended_from site before n earlier ≡ None
  unmarked : is_marked packet ≡ false
  last_rule : unsent_at site (before ++ aired_from site before n earlier) k packet ≡ Some (TooLong k)

-- with a packet that isn't sent in front
unsent_first : (site : SiteFields) (before : Packets) (n : ℕ) (first : Packet) (packets : Packets) (k : ℕ)
    (found : EndsAfter site before (n + 1) packets k) →
    ended_from site before n (first ∷ found.earlier) ≡ ended_from site before (n + 1) found.earlier →
    aired_from site before n (first ∷ found.earlier) ≡ aired_from site before (n + 1) found.earlier →
    EndsAfter site before n (first ∷ packets) k
unsent_first site before n first packets k found same_end same = record {
  earlier = first ∷ found.earlier;
  packet = found.packet;
  later = found.later;
  parts = ap (λ (rest : Packets). first ∷ rest) found.parts;
  place = let place = found.place in omega (arith, place);
  on_air = same_end ∙ found.on_air;
  unmarked = found.unmarked;
  last_rule = rw same found.last_rule;
}

-- with one that is sent in front
sent_first : (site : SiteFields) (before : Packets) (n : ℕ) (first : Packet) (packets : Packets) (k : ℕ)
    (found : EndsAfter site (before ++ first ∷ []) (n + 1) packets k) →
    ((them : Packets) → ended_from site before n (first ∷ them) ≡ ended_from site (before ++ first ∷ []) (n + 1) them) →
    ((them : Packets) →
    aired_from site before n (first ∷ them) ≡ first ∷ aired_from site (before ++ first ∷ []) (n + 1) them) →
    EndsAfter site before n (first ∷ packets) k
sent_first site before n first packets k found same_end same =
    let them = found.earlier in
    let packet = found.packet in
    let sent_then = append_assoc before (first ∷ []) (aired_from site (before ++ first ∷ []) (n + 1) them)
    ∙ ap (λ (all : Packets). before ++ all) (sym (same them)) in
    record {
      earlier = first ∷ them;
      packet = packet;
      later = found.later;
      parts = ap (λ (rest : Packets). first ∷ rest) found.parts;
      place = let place = found.place in omega (arith, place);
      on_air = same_end them ∙ found.on_air;
      unmarked = found.unmarked;
      last_rule = subst (λ (all : Packets). unsent_at site all k packet ≡ Some (TooLong k)) sent_then found.last_rule;
    }

ends_after : (site : SiteFields) (before : Packets) (n : ℕ) (packets : Packets) (k : ℕ) →
    ended_from site before n packets ≡ Some k → EndsAfter site before n packets k
unfolding aired_from ended_from
ends_after site before n [] k e = absurd (cc)
ends_after site before n (first ∷ packets) k e = elim (fate_of site before first) [
  | marked bad is ↦ unsent_first site before n first packets k
      (ends_after site before (n + 1) packets k (rw (is n) at e)) (rw (is n) refl) (rw (is n) refl)
  | refused good fault why is ↦ unsent_first site before n first packets k
      (ends_after site before (n + 1) packets k (rw (is n) at e)) (rw (is n) refl) (rw (is n) refl)
  | sent good short none is ↦ sent_first site before n first packets k
      (ends_after site (before ++ first ∷ []) (n + 1) packets k (rw (is n) at e)) (λ them. rw (is n) refl)
      (λ them. rw (is n) refl)
  | ends good long why is ↦
      let here : Some n ≡ Some k = rw (is n) at e in
      let same : n ≡ k = cc in
      subst (λ (i : ℕ). EndsAfter site before n (first ∷ packets) i) same (record {
        earlier = [];
        packet = first;
        later = packets;
        parts = refl;
        place = omega arith;
        on_air = refl;
        unmarked = good;
        last_rule = rw (append-nil before) (why n);
      })
]

pub ends_before : (site : SiteFields) (packets : Packets) (k : ℕ) → ended_from site [] 0 packets ≡ Some k →
    EndsBefore site packets k
ends_before site packets k e =
    let found = ends_after site [] 0 packets k e in
    record {
      earlier = found.earlier;
      packet = found.packet;
      later = found.later;
      parts = found.parts;
      place = let place = found.place in omega (arith, place);
      on_air = found.on_air;
      unmarked = found.unmarked;
      last_rule = found.last_rule;
    }

-- it ends before a packet that is not marked and that breaks the last rule alone
ends_here : (site : SiteFields) (before : Packets) (k : ℕ) (packet : Packet) (later : Packets) →
    is_marked packet ≡ false → unsent_at site before k packet ≡ Some (TooLong k) →
    ended_from site before k (packet ∷ later) ≡ Some k
unfolding ended_from verdict_of
ends_here site before k packet later good broken = rw (good, broken) refl

pub ended_before : (site : SiteFields) (packets : Packets) (k : ℕ) → EndsBefore site packets k →
    ended_from site [] 0 packets ≡ Some k
ended_before site packets k it =
    let at : ended_from site [] 0 (it.earlier ++ it.packet ∷ it.later)
    ≡ ended_from site (aired site it.earlier) (0 + length it.earlier) (it.packet ∷ it.later) =
    (goes_on site [] 0 it.earlier (it.packet ∷ it.later) it.on_air).1 in
    let place = it.place in
    let same : 0 + length it.earlier ≡ k = omega (arith, place) in
    subst (λ (them : Packets). ended_from site [] 0 them ≡ Some k) it.parts
    (at ∙ rw same (ends_here site (aired site it.earlier) k it.packet it.later it.unmarked it.last_rule))

-- then no number or no control word is left
used_up_from : (site : SiteFields) (before : Packets) (n : ℕ) (packets : Packets) (k : ℕ) →
    ended_from site before n packets ≡ Some k →
    is_used_up site (length (before ++ aired_from site before n packets)) ≡ true
unfolding aired_from ended_from
used_up_from site before n [] k e = absurd (cc)
used_up_from site before n (packet ∷ packets) k e = elim (fate_of site before packet) [
  | marked bad is ↦ rw (is n) (used_up_from site before (n + 1) packets k (rw (is n) at e))
  | refused good fault why is ↦ rw (is n) (used_up_from site before (n + 1) packets k (rw (is n) at e))
  | sent good short none is ↦ rw (is n) (subst (λ (them : Packets). is_used_up site (length them) ≡ true)
      (append_assoc before (packet ∷ []) (aired_from site (before ++ packet ∷ []) (n + 1) packets))
      (used_up_from site (before ++ packet ∷ []) (n + 1) packets k (rw (is n) at e)))
  | ends good long why is ↦ rw (is n, append-nil before) long
]

pub used_up : (site : SiteFields) (packets : Packets) (k : ℕ) → ended_from site [] 0 packets ≡ Some k →
    is_used_up site (length (aired site packets)) ≡ true
used_up site packets k e = used_up_from site [] 0 packets k e

-- and nothing behind it is sent
pub none_behind : (site : SiteFields) (packets more : Packets) (k : ℕ) → ended_from site [] 0 packets ≡ Some k →
    aired site (packets ++ more) ≡ aired site packets
none_behind site packets more k e = aired_then site [] 0 k packets more e

pub ends_exactly : (site : SiteFields) (packets : Packets) (k : ℕ) →
    (ended_from site [] 0 packets ≡ Some k) ↔ EndsBefore site packets k
ends_exactly site packets k = (ends_before site packets k, ended_before site packets k)

-- what is sent has numbers and control words
pub aired_few : (site : SiteFields) (packets : Packets) → length (aired site packets) < 2 ^ 32
aired_few site packets = clear_short site (aired site packets) (aired_sendable site packets)

pub aired_words : (site : SiteFields) (packets : Packets) (k : ℕ) → k < length (aired site packets) →
    word_of site k ≤ site.last_word
aired_words site packets k within = clear_words site (aired site packets) k (aired_sendable site packets) within

-- so it is no more than the packets of its crypto periods
pub aired_most : (site : SiteFields) (packets : Packets) → AreInRange site → HasWords site →
    length (aired site packets) ≤ (site.last_word + 1 - site.first_word) * crypto_length site
aired_most site packets range has = by_length (length (aired site packets)) (aired_few site packets)
    (aired_words site packets)
  where
    by_length : (n : ℕ) → n < 2 ^ 32 → ((k : ℕ) → k < n → word_of site k ≤ site.last_word) →
        n ≤ (site.last_word + 1 - site.first_word) * crypto_length site
    by_length zero few words = omega arith
    by_length (suc k) few words =
        let word = words k (omega arith) in
        let left : is_used_up site k ≡ false = grind (arith, nat_tests, few, word) in
        let within = ((words_suffice site k range has).0 left).1 in
        omega (arith, within)
