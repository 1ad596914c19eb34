-- What is counted of a stream.
use Rattle.std.proofs.Common.{◌≡◌, ℕ, ◌+◌, ◌<◌, ◌↔◌, [], ◌∷◌, ◌++◌, length, Some, None, refl, ap, sym, arith, ◌∙◌}
use Rattle.std.proofs.Common.{cond}
use Rattle.std.specs.Prelude.{Option, IsSome, count_by, is_none, if◌then◌else◌, not}
use Rattle.std.proofs.lemmas.List.Sums.{sum_by-cons}
use Rattle.sd_base.specs.Types.{Packet, Packets}
use Rattle.sd_site_cards.specs.SiteFields.{SiteFields}
use Rattle.sd_psi.specs.declared.fault.FormFault.{FormFault}
use Rattle.sd_spec.specs.Refused.{pat_wrong}
use Rattle.sd_spec.specs.Counting.{is_marked}
use Rattle.sd_spec.specs.Aired.{aired, aired_from, ended_from, left_from}
use Rattle.sd_law_air.specs.Counted.{is_no_pat}
use Rattle.sd_law_air.proofs.Fates.{fate_of, marked, refused, sent, ends}

-- each packet is marked, refused or sent
counted_from : (site : SiteFields) (before : Packets) (n : ℕ) (packets : Packets) →
    ended_from site before n packets ≡ None →
    (left_from site before n packets).marked + (left_from site before n packets).refused
    + length (aired_from site before n packets) ≡ length packets
unfolding aired_from ended_from left_from
counted_from site before n [] e = refl
counted_from site before n (packet ∷ packets) e = elim (fate_of site before packet) [
  | marked bad is ↦ let rest = counted_from site before (n + 1) packets (rw (is n) at e) in
      rw (is n) (omega (arith, rest))
  | refused good fault why is ↦ let rest = counted_from site before (n + 1) packets (rw (is n) at e) in
      rw (is n) (omega (arith, rest))
  | sent good short none is ↦
      let rest = counted_from site (before ++ packet ∷ []) (n + 1) packets (rw (is n) at e) in
      rw (is n) (omega (arith, rest))
  | ends good long why is ↦ let no = rw (is n) at e in absurd (cc)
]

pub counted : (site : SiteFields) (packets : Packets) → ended_from site [] 0 packets ≡ None →
    (left_from site [] 0 packets).marked + (left_from site [] 0 packets).refused + length (aired site packets)
    ≡ length packets
counted site packets e = counted_from site [] 0 packets e

-- up to the end of the broadcast
upto_from : (site : SiteFields) (before : Packets) (n : ℕ) (packets : Packets) (k : ℕ) →
    ended_from site before n packets ≡ Some k →
    n + ((left_from site before n packets).marked + (left_from site before n packets).refused
    + length (aired_from site before n packets)) ≡ k
unfolding aired_from ended_from left_from
upto_from site before n [] k e = absurd (cc)
upto_from site before n (packet ∷ packets) k e = elim (fate_of site before packet) [
  | marked bad is ↦ let rest = upto_from site before (n + 1) packets k (rw (is n) at e) in
      rw (is n) (omega (arith, rest))
  | refused good fault why is ↦ let rest = upto_from site before (n + 1) packets k (rw (is n) at e) in
      rw (is n) (omega (arith, rest))
  | sent good short none is ↦
      let rest = upto_from site (before ++ packet ∷ []) (n + 1) packets k (rw (is n) at e) in
      rw (is n) (omega (arith, rest))
  | ends good long why is ↦
      let here : Some n ≡ Some k = rw (is n) at e in
      let same : n ≡ k = cc in
      rw (is n) (omega (arith, same))
]

pub counted_upto : (site : SiteFields) (packets : Packets) (k : ℕ) → ended_from site [] 0 packets ≡ Some k →
    (left_from site [] 0 packets).marked + (left_from site [] 0 packets).refused + length (aired site packets) ≡ k
counted_upto site packets k e = let all = upto_from site [] 0 packets k e in omega (arith, all)

-- a list's count begins with its first member
count_first : (packet : Packet) (packets : Packets) →
    count_by is_marked (packet ∷ packets) ≡ cond (is_marked packet) 1 0 + count_by is_marked packets
count_first packet packets = sum_by-cons (λ (p : Packet). cond (is_marked p) 1 0) packet packets

-- the marked ones are all that are
marked_from : (site : SiteFields) (before : Packets) (n : ℕ) (packets : Packets) →
    ended_from site before n packets ≡ None →
    (left_from site before n packets).marked ≡ count_by is_marked packets
unfolding ended_from left_from
marked_from site before n [] e = refl
marked_from site before n (packet ∷ packets) e = elim (fate_of site before packet) [
  | marked bad is ↦
      let rest = marked_from site before (n + 1) packets (rw (is n) at e) in
      let one : cond {A = ℕ} (is_marked packet) 1 0 ≡ 1 = rw bad refl in
      rw (is n) (omega (arith, rest, one)) ∙ sym (count_first packet packets)
  | refused good fault why is ↦
      let rest = marked_from site before (n + 1) packets (rw (is n) at e) in
      let one : cond {A = ℕ} (is_marked packet) 1 0 ≡ 0 = rw good refl in
      rw (is n) (omega (arith, rest, one)) ∙ sym (count_first packet packets)
  | sent good short none is ↦
      let rest = marked_from site (before ++ packet ∷ []) (n + 1) packets (rw (is n) at e) in
      let one : cond {A = ℕ} (is_marked packet) 1 0 ≡ 0 = rw good refl in
      rw (is n) (omega (arith, rest, one)) ∙ sym (count_first packet packets)
  | ends good long why is ↦ let no = rw (is n) at e in absurd (cc)
]

pub marked_counted : (site : SiteFields) (packets : Packets) → ended_from site [] 0 packets ≡ None →
    (left_from site [] 0 packets).marked ≡ count_by is_marked packets
marked_counted site packets e = marked_from site [] 0 packets e

-- a first rule is told if a packet is refused, and else none
first_from : (site : SiteFields) (before : Packets) (n : ℕ) (packets : Packets) →
    IsSome (left_from site before n packets).first ↔ (0 < (left_from site before n packets).refused)
unfolding left_from
first_from site before n [] = ((λ some. absurd (cc)), (λ above. absurd (omega (arith, above))))
first_from site before n (packet ∷ packets) = elim (fate_of site before packet) [
  | marked bad is ↦ rw (is n) (first_from site before (n + 1) packets)
  | refused good fault why is ↦ rw (is n) ((λ some. omega arith), (λ above. refl))
  | sent good short none is ↦ rw (is n) (first_from site (before ++ packet ∷ []) (n + 1) packets)
  | ends good long why is ↦ rw (is n) ((λ some. absurd (cc)), (λ above. absurd (omega (arith, above))))
]

pub first_told : (site : SiteFields) (packets : Packets) →
    IsSome (left_from site [] 0 packets).first ↔ (0 < (left_from site [] 0 packets).refused)
first_told site packets = first_from site [] 0 packets

-- of those that are sent, the ones that are no PAT
one_pat : (packet : Packet) → cond {A = ℕ} (is_no_pat packet) 1 0 ≡ (if is_none (pat_wrong packet) then 0 else 1)
one_pat packet = by_wrong (pat_wrong packet)
  where
    by_wrong : (wrong : Option FormFault) →
        cond {A = ℕ} (not (is_none wrong)) 1 0 ≡ (if is_none wrong then 0 else 1)
    by_wrong None = refl
    by_wrong (Some fault) = refl

pats_from : (site : SiteFields) (before : Packets) (n : ℕ) (packets : Packets) →
    (left_from site before n packets).pats ≡ count_by is_no_pat (aired_from site before n packets)
unfolding aired_from left_from
pats_from site before n [] = refl
pats_from site before n (packet ∷ packets) = elim (fate_of site before packet) [
  | marked bad is ↦ rw (is n) (pats_from site before (n + 1) packets)
  | refused good fault why is ↦ rw (is n) (pats_from site before (n + 1) packets)
  | sent good short none is ↦
      let after = before ++ packet ∷ [] in
      let first = sum_by-cons (λ (p : Packet). cond (is_no_pat p) 1 0) packet (aired_from site after (n + 1) packets) in
      rw (is n) (ap (λ (one : ℕ). one + (left_from site after (n + 1) packets).pats) (sym (one_pat packet))
      ∙ ap (λ (rest : ℕ). cond (is_no_pat packet) 1 0 + rest) (pats_from site after (n + 1) packets) ∙ sym first)
  | ends good long why is ↦ rw (is n) refl
]

pub pats_counted : (site : SiteFields) (packets : Packets) →
    (left_from site [] 0 packets).pats ≡ count_by is_no_pat (aired site packets)
pats_counted site packets = pats_from site [] 0 packets
