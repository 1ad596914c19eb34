-- What was read decides what is sent of it.
use Rattle.std.proofs.Common.{◌≡◌, ℕ, ◌+◌, [], ◌∷◌, ◌++◌, length, Option, Some, None, refl, ap, sym}
use Rattle.std.proofs.Common.{◌∙◌, append-nil, append_assoc, arith}
use Rattle.std.specs.List.{concat}
use Rattle.std.proofs.lemmas.List.Folds.{concat-append}
use Rattle.sd_base.specs.Types.{Bytes, Packets}
use Rattle.sd_site_cards.specs.SiteFields.{SiteFields}
use Rattle.sd_spec.specs.Plan.{Plan}
use Rattle.sd_spec.specs.Sent.{body, broadcast, closing_of, packets_from, sent as sent_items, sent_from}
use Rattle.sd_spec.specs.Aired.{aired, aired_from, ended_from}
use Rattle.sd_spec.proofs.Sending.{packets_in_turn, sent_in_turn}
use Rattle.sd_law_air.proofs.Fates.{fate_of, marked, refused, sent, ends}

-- if the broadcast doesn't end before the end of some packets, it goes on after them, and ends where it does then
pub goes_on : (site : SiteFields) (before : Packets) (n : ℕ) (some more : Packets) →
    ended_from site before n some ≡ None →
    (aired_from site before n (some ++ more)
    ≡ aired_from site before n some ++ aired_from site (before ++ aired_from site before n some) (n + length some) more)
    × (ended_from site before n (some ++ more)
    ≡ ended_from site (before ++ aired_from site before n some) (n + length some) more)
unfolding aired_from ended_from
goes_on site before n [] more on =
    let same : n + 0 ≡ n = omega arith in (rw (append-nil before, same) refl, rw (append-nil before, same) refl)
goes_on site before n (packet ∷ some) more on =
    let long : n + length (packet ∷ some) ≡ n + 1 + length some = omega arith in
    elim (fate_of site before packet) [
      | marked bad is ↦ let rest = rw (is n) at on in rw (is n, long) (goes_on site before (n + 1) some more rest)
      | refused good fault why is ↦ let rest = rw (is n) at on in
          rw (is n, long) (goes_on site before (n + 1) some more rest)
      | sent good short none is ↦ let rest = rw (is n) at on in
          let after = before ++ packet ∷ [] in
          let both = goes_on site after (n + 1) some more rest in
          let joined = append_assoc before (packet ∷ []) (aired_from site after (n + 1) some) in
          rw (is n, long) (
            ap (λ (them : Packets). packet ∷ them) (both.0
                ∙ ap (λ (them : Packets). aired_from site after (n + 1) some
                ++ aired_from site them (n + 1 + length some) more) joined),
            both.1 ∙ ap (λ (them : Packets). ended_from site them (n + 1 + length some) more) joined,
          )
      | ends good long why is ↦ let no = rw (is n) at on in absurd (cc)
    ]

-- once it ended, nothing more is sent
pub aired_then : (site : SiteFields) (before : Packets) (n k : ℕ) (some more : Packets) →
    ended_from site before n some ≡ Some k → aired_from site before n (some ++ more) ≡ aired_from site before n some
unfolding aired_from ended_from
aired_then site before n k [] more over = absurd (cc)
aired_then site before n k (packet ∷ some) more over = elim (fate_of site before packet) [
  | marked bad is ↦ let rest = rw (is n) at over in rw (is n) (aired_then site before (n + 1) k some more rest)
  | refused good fault why is ↦ let rest = rw (is n) at over in
      rw (is n) (aired_then site before (n + 1) k some more rest)
  | sent good short none is ↦ let rest = rw (is n) at over in
      rw (is n) (ap (λ (them : Packets). packet ∷ them)
      (aired_then site (before ++ packet ∷ []) (n + 1) k some more rest))
  | ends good long why is ↦ rw (is n) refl
]

-- so what is sent of the first packets are the first that are sent
pub aired_grows : (site : SiteFields) (some more : Packets) →
    (rest : Packets) × (aired site (some ++ more) ≡ aired site some ++ rest)
aired_grows site some more = by_end (ended_from site [] 0 some) refl
  where
    by_end : (end : Option ℕ) → ended_from site [] 0 some ≡ end →
        (rest : Packets) × (aired site (some ++ more) ≡ aired site some ++ rest)
    by_end None on = (aired_from site (aired site some) (0 + length some) more, (goes_on site [] 0 some more on).0)
    by_end (Some k) over = ([], aired_then site [] 0 k some more over ∙ sym (append-nil (aired site some)))

-- so the body of their broadcast is the first part of the body
pub body_grows : (plan : Plan) (some more : Packets) →
    (rest : Packets) × (body plan (aired plan.site (some ++ more)) ≡ body plan (aired plan.site some) ++ rest)
unfolding body
body_grows plan some more =
    let first = aired plan.site some in
    let grown = aired_grows plan.site some more in (
      packets_from plan.site ([] ++ sent_items plan first) (sent_from plan ([] ++ first) grown.0),
      ap (body plan) grown.1 ∙ ap (packets_from plan.site []) (sent_in_turn plan [] first grown.0)
          ∙ packets_in_turn plan.site [] (sent_items plan first) (sent_from plan ([] ++ first) grown.0),
    )

-- and of the broadcast
pub bytes_grow : (plan : Plan) (some more : Packets) →
    (rest : Bytes) × (concat (broadcast plan (aired plan.site (some ++ more)))
    ≡ concat (body plan (aired plan.site some)) ++ rest)
unfolding body broadcast
bytes_grow plan some more =
    let all = aired plan.site (some ++ more) in
    let grown = body_grows plan some more in
    let closing = packets_from plan.site ([] ++ sent_items plan all) (closing_of plan all) in (
      concat (grown.0 ++ closing),
      ap (λ (them : Packets). concat them) (packets_in_turn plan.site [] (sent_items plan all) (closing_of plan all)
          ∙ ap (λ (them : Packets). them ++ closing) grown.1
          ∙ append_assoc (body plan (aired plan.site some)) grown.0 closing)
          ∙ concat-append (body plan (aired plan.site some)) (grown.0 ++ closing),
    )
