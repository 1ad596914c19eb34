-- What isn't sent might as well not be there.
use Rattle.std.proofs.Common.{◌≡◌, ℕ, suc, ◌+◌, true, false, [], ◌∷◌, ◌++◌, length, refl, ap, sym, ◌∙◌}
use Rattle.sd_base.specs.Types.{Packets, Arrived}
use Rattle.sd_site_cards.specs.SiteFields.{SiteFields}
use Rattle.sd_spec.specs.Refused.{is_used_up}
use Rattle.sd_spec.specs.Aired.{aired, aired_from}
use Rattle.sd_law_losses.specs.Chosen.{chosen}
use Rattle.sd_law_air.specs.Sent.{AreAmong, sent_flags}
use Rattle.sd_law_air.proofs.Fates.{fate_of, marked, refused, sent, ends}
use Rattle.sd_law_air.proofs.Sendable.{aired_chosen}

-- if nothing is left for a packet, none is sent
pub none_sent : (site : SiteFields) (before : Packets) (n : ℕ) (packets : Packets) →
    is_used_up site (length before) ≡ true → aired_from site before n packets ≡ []
unfolding aired_from
none_sent site before n [] full = refl
none_sent site before n (packet ∷ packets) full = elim (fate_of site before packet) [
  | marked bad is ↦ rw (is n) (none_sent site before (n + 1) packets full)
  | refused good fault why is ↦ rw (is n) (none_sent site before (n + 1) packets full)
  | sent good short none is ↦ absurd (cc)
  | ends good long why is ↦ rw (is n) refl
]

-- what is chosen is sent alike, whatever its numbers, if each packet that is sent is chosen
among_from : (site : SiteFields) (before : Packets) (m n : ℕ) (flags : Arrived) (packets : Packets) →
    AreAmong (sent_flags site before n packets) flags →
    aired_from site before m (chosen flags packets) ≡ aired_from site before n packets
unfolding aired_from sent_flags chosen
among_from site before m n [] [] h = refl
among_from site before m n (flag ∷ flags) [] h = refl
among_from site before m n [] (packet ∷ packets) h = elim (fate_of site before packet) [
  | marked bad is ↦ let then = rw (is n) at h in
      rw (is n) (among_from site before m (n + 1) [] packets (λ i. then (suc i)))
  | refused good fault why is ↦ let then = rw (is n) at h in
      rw (is n) (among_from site before m (n + 1) [] packets (λ i. then (suc i)))
  | sent good short none is ↦ let no : false ≡ true = (rw (is n) at h) 0 refl in absurd (cc)
  | ends good long why is ↦ rw (is n) refl
]
among_from site before m n (true ∷ flags) (packet ∷ packets) h = elim (fate_of site before packet) [
  | marked bad is ↦ let then = rw (is n) at h in
      rw (is m, is n) (among_from site before (m + 1) (n + 1) flags packets (λ i. then (suc i)))
  | refused good fault why is ↦ let then = rw (is n) at h in
      rw (is m, is n) (among_from site before (m + 1) (n + 1) flags packets (λ i. then (suc i)))
  | sent good short none is ↦ let then = rw (is n) at h in
      rw (is m, is n) (ap (λ (rest : Packets). packet ∷ rest)
      (among_from site (before ++ packet ∷ []) (m + 1) (n + 1) flags packets (λ i. then (suc i))))
  | ends good long why is ↦ rw (is m, is n) refl
]
among_from site before m n (false ∷ flags) (packet ∷ packets) h = elim (fate_of site before packet) [
  | marked bad is ↦ let then = rw (is n) at h in
      rw (is n) (among_from site before m (n + 1) flags packets (λ i. then (suc i)))
  | refused good fault why is ↦ let then = rw (is n) at h in
      rw (is n) (among_from site before m (n + 1) flags packets (λ i. then (suc i)))
  | sent good short none is ↦ let no : false ≡ true = (rw (is n) at h) 0 refl in absurd (cc)
  | ends good long why is ↦ rw (is n) (none_sent site before m (chosen flags packets) long)
]

pub aired_among : (site : SiteFields) (flags : Arrived) (packets : Packets) →
    AreAmong (sent_flags site [] 0 packets) flags → aired site (chosen flags packets) ≡ aired site packets
aired_among site flags packets h = among_from site [] 0 0 flags packets h

-- so what is sent is sent alike by itself
pub aired_again : (site : SiteFields) (packets : Packets) → aired site (aired site packets) ≡ aired site packets
aired_again site packets =
    ap (aired site) (sym (aired_chosen site packets))
    ∙ aired_among site (sent_flags site [] 0 packets) packets (λ i is. is)
