-- A clear stream without marked packets is sent whole.
use Rattle.std.proofs.Common.{◌≡◌, ℕ, ◌+◌, false, [], ◌∷◌, ◌++◌, length, None}
use Rattle.std.proofs.Common.{refl, ap}
use Rattle.std.proofs.lemmas.List.Elements.{All-head, All-tail}
use Rattle.sd_base.specs.Types.{Packet, Packets}
use Rattle.sd_base.proofs.Lists.{both_none}
use Rattle.sd_site_cards.specs.SiteFields.{SiteFields}
use Rattle.sd_spec.specs.Counting.{is_marked}
use Rattle.sd_spec.specs.Refused.{IsSendable, unsent_at, unsent_from}
use Rattle.sd_spec.specs.Refused.{IsClear, refusal_of, refusal_from}
use Rattle.sd_spec.specs.Aired.{Sent, verdict_of, aired, aired_from, ended_from, left_from, none_left}
use Rattle.sd_law_broadcast.proofs.Sendable.{one_sendable}
use Rattle.sd_law_air.specs.Sent.{AreUnmarked}
use Rattle.sd_law_air.proofs.Fates.{Fate, fate_of, marked, refused, sent, ends}

-- a packet that breaks no rule and is not marked is sent
sent_one : (site : SiteFields) (before : Packets) (n : ℕ) (packet : Packet) → is_marked packet ≡ false →
    unsent_at site before (length before) packet ≡ None → verdict_of site before n packet ≡ Sent
sent_one site before n packet clean none = by_fate (fate_of site before packet)
  where
    by_fate : Fate site before packet → verdict_of site before n packet ≡ Sent
    by_fate (marked bad is) = absurd (cc)
    by_fate (refused good fault why is) = let same = why (length before) in absurd (cc)
    by_fate (sent good short none is) = is n
    by_fate (ends good long why is) = let same = why (length before) in absurd (cc)

-- so a clear stream is sent whole, and the broadcast doesn't end before its end
whole_from : (site : SiteFields) (before : Packets) (n : ℕ) (packets : Packets) →
    unsent_from site before packets ≡ None → AreUnmarked packets →
    (aired_from site before n packets ≡ packets) × (ended_from site before n packets ≡ None)
unfolding aired_from ended_from unsent_from
whole_from site before n [] h clean = (refl, refl)
whole_from site before n (packet ∷ packets) h clean =
    let parts = both_none (unsent_at site before (length before) packet)
    (unsent_from site (before ++ packet ∷ []) packets) h in
    let P = λ (p : Packet). is_marked p ≡ false in
    let rest = whole_from site (before ++ packet ∷ []) (n + 1) packets parts.1 (All-tail P packet packets clean) in
    rw (sent_one site before n packet (All-head P packet packets clean) parts.0)
    (ap (λ (them : Packets). packet ∷ them) rest.0, rest.1)

pub aired_whole : (site : SiteFields) (clear : Packets) → IsSendable site clear → AreUnmarked clear →
    aired site clear ≡ clear
aired_whole site clear h clean = (whole_from site [] 0 clear h clean).0

pub unended : (site : SiteFields) (clear : Packets) → IsSendable site clear → AreUnmarked clear →
    ended_from site [] 0 clear ≡ None
unended site clear h clean = (whole_from site [] 0 clear h clean).1

-- and of a clear stream nothing is left out
none_left_from : (site : SiteFields) (before : Packets) (n : ℕ) (packets : Packets) →
    refusal_from site before packets ≡ None → AreUnmarked packets → left_from site before n packets ≡ none_left
unfolding refusal_from left_from
none_left_from site before n [] h clean = refl
none_left_from site before n (packet ∷ packets) h clean =
    let parts = both_none (refusal_of site before packet) (refusal_from site (before ++ packet ∷ []) packets) h in
    let one = one_sendable site before packet parts.0 in
    let P = λ (p : Packet). is_marked p ≡ false in
    rw (
      sent_one site before n packet (All-head P packet packets clean) one.0,
      none_left_from site (before ++ packet ∷ []) (n + 1) packets parts.1 (All-tail P packet packets clean),
      one.1,
    ) refl

pub none_left_out : (site : SiteFields) (clear : Packets) → IsClear site clear → AreUnmarked clear →
    left_from site [] 0 clear ≡ none_left
none_left_out site clear h clean = none_left_from site [] 0 clear h clean
