-- The periods that a broadcast reaches, and where their sections stand in it.
use Rattle.std.proofs.Common.{◌≡◌, ℕ, zero, suc, ◌+◌, ◌-◌, ◌/◌, ◌%◌, ◌<◌, ◌≤◌, ◌==◌, true}
use Rattle.std.proofs.Common.{List, [], ◌++◌, length, take, drop, map}
use Rattle.std.proofs.Common.{sym, ap, subst, ◌∙◌, inl, inr, arith, append_assoc}
use Rattle.std.proofs.lemmas.Bool.{cases_lt}
use Rattle.std.proofs.lemmas.Bool.Decides.{nat_tests}
use Rattle.std.proofs.lemmas.List.{take-append-drop}
use Rattle.sd_site_cards.specs.SiteFields.{AreInRange}
use Rattle.sd_message.specs.Period.{emms_of}
use Rattle.sd_message.specs.declared.emm.Emm.{Emm}
use Rattle.sd_message.specs.EcmParts.{parts_of}
use Rattle.sd_spec.specs.Plan.{Plan, crypto_length, crypto_of, period_in, period_of, closing_number}
use Rattle.sd_spec.specs.Messages.{period_at, message_at}
use Rattle.sd_spec.specs.Sent.{Item, Controls, tables_at, sent, sent_from, closing_of}
use Rattle.sd_spec.proofs.Schedule.{quotients_rise, quotients_step, crypto_length_some, period_of_first}
use Rattle.sd_spec.proofs.Schedule.{period_begins}
use Rattle.sd_spec.proofs.Sending.{sent_in_turn}
use Rattle.sd_spec.proofs.Standing.{tables_stand}
use Rattle.sd_law_broadcast.proofs.Sections.{sections_in, sections_in_turn, sections_of_sections}

-- the next packet is of the same period, or of the next
period_next : (plan : Plan) (k : ℕ) → AreInRange plan.site → period_of plan (k + 1) ≤ period_of plan k + 1
unfolding period_of period_in crypto_of
period_next plan k r =
    let some = r.span.0 in
    let t : ℕ = k / crypto_length plan.site in
    let step = quotients_step (crypto_length plan.site) k (crypto_length_some plan.site r) in
    let up = quotients_rise plan.site.span ((k + 1) / crypto_length plan.site) (t + 1) (omega (arith, some)) step in
    let next = quotients_step plan.site.span t (omega (arith, some)) in
    omega (arith, up, next)

-- each period from the first up to that of a packet is one of a packet up to it
pub period_reached : (plan : Plan) (k q : ℕ) → AreInRange plan.site → plan.site.first_period ≤ q →
    q ≤ period_of plan k → (j : ℕ) × (j ≤ k) × (period_of plan j ≡ q)
period_reached plan zero q r from within =
    let first = period_of_first plan in (0, omega arith, omega (arith, from, within, first))
period_reached plan (suc k) q r from within = elim (cases_lt (period_of plan k) q) [
  | inl above ↦
      let next : k + 1 ≡ suc k = omega arith in
      let step = rw next at (period_next plan k r) in
      (suc k, omega arith, omega (arith, within, above, step))
  | inr below ↦ let there = period_reached plan k q r from below in (there.0, omega (arith, there.1), there.2)
]

-- these sections stand among those, one after the other
abbrev pub StandAmong : List Emm → List Emm → Type 0
StandAmong some emms = (before : List Emm) × (after : List Emm) × (emms ≡ before ++ (some ++ after))

-- the sections of a packet's tables
tables_have : (plan : Plan) (k : ℕ) → sections_in (tables_at plan k) ≡ emms_of (period_at plan (period_of plan k))
unfolding tables_at
tables_have plan k = sections_of_sections (emms_of (period_at plan (period_of plan k)))

-- those of a list in the middle
middle : (xs ys zs : List Item) → sections_in (xs ++ (ys ++ zs)) ≡ sections_in xs ++ (sections_in ys ++ sections_in zs)
middle xs ys zs =
    sections_in_turn xs (ys ++ zs) ∙ ap (λ (rest : List Emm). sections_in xs ++ rest) (sections_in_turn ys zs)

-- of each packet the sections of its period stand in the broadcast
packet_tables : (plan : Plan) (clear : List (List ℕ)) (k : ℕ) → AreInRange plan.site → k < length clear →
    StandAmong (emms_of (period_at plan (period_of plan k))) (sections_in (sent plan clear ++ closing_of plan clear))
packet_tables plan clear k r within =
    let from : ℕ = k - k % crypto_length plan.site in
    let stand = tables_stand plan clear k within in
    let later : List Item = sent_from plan (take (k + 1) clear) (drop (k + 1) clear) in
    let whole : sent plan clear ≡ sent plan (take (k + 1) clear) ++ later =
    ap (sent plan) (sym (take-append-drop (k + 1) clear))
    ∙ sent_in_turn plan [] (take (k + 1) clear) (drop (k + 1) clear) in
    let prefix : List Item = sent plan (take from clear) in
    let rest : List Item = stand.0 ++ (later ++ closing_of plan clear) in
    let joined : sent plan clear ++ closing_of plan clear ≡ prefix ++ (tables_at plan from ++ rest) =
    ap (λ (xs : List Item). xs ++ closing_of plan clear)
    (whole ∙ ap (λ (xs : List Item). xs ++ later) stand.1)
    ∙ regroup prefix (tables_at plan from) stand.0 later (closing_of plan clear) in (
      sections_in prefix,
      sections_in rest,
      ap sections_in joined ∙ (middle prefix (tables_at plan from) rest
          ∙ ap (λ (emms : List Emm). sections_in prefix ++ (emms ++ sections_in rest))
          (tables_have plan from ∙ ap (λ (q : ℕ). emms_of (period_at plan q)) (period_begins plan k r))),
    )
  where
    regroup : (a b c d e : List Item) → ((a ++ (b ++ c)) ++ d) ++ e ≡ a ++ (b ++ (c ++ (d ++ e)))
    regroup a b c d e =
        append_assoc (a ++ (b ++ c)) d e ∙ (append_assoc a (b ++ c) (d ++ e)
        ∙ ap (λ (xs : List Item). a ++ xs) (append_assoc b c (d ++ e)))

-- where there is no packet they stand before the closing message
no_packet : (plan : Plan) (clear : List (List ℕ)) → length clear ≡ 0 →
    StandAmong (emms_of (period_at plan (period_of plan 0))) (sections_in (sent plan clear ++ closing_of plan clear))
unfolding closing_of
no_packet plan clear none =
    let test : (length clear == 0) ≡ true = grind (arith, nat_tests, none) in
    let parts : List Item = map Controls
    (parts_of (message_at plan clear (closing_number plan.site (length clear)) (length clear - 1) true)) in (
      sections_in (sent plan clear),
      sections_in parts,
      rw test (middle (sent plan clear) (tables_at plan 0) parts
          ∙ ap (λ (emms : List Emm). sections_in (sent plan clear) ++ (emms ++ sections_in parts))
          (tables_have plan 0)),
    )

-- so they do of each period that is reached
pub reached_stand : (plan : Plan) (clear : List (List ℕ)) (q : ℕ) → AreInRange plan.site →
    plan.site.first_period ≤ q → q ≤ period_of plan (length clear - 1) →
    StandAmong (emms_of (period_at plan q)) (sections_in (sent plan clear ++ closing_of plan clear))
reached_stand plan clear q r from within =
    let there = period_reached plan (length clear - 1) q r from within in
    let sections : List Emm = sections_in (sent plan clear ++ closing_of plan clear) in
    subst (λ (p : ℕ). StandAmong (emms_of (period_at plan p)) sections) there.2 (elim (cases_lt there.0
    (length clear)) [
      | inl inside ↦ packet_tables plan clear there.0 r inside
      | inr past ↦
          let none : length clear ≡ 0 = omega (arith, there.1, past) in
          let first : 0 ≡ there.0 = omega (arith, there.1, none) in
          subst (λ (k : ℕ). StandAmong (emms_of (period_at plan (period_of plan k))) sections) first
          (no_packet plan clear none)
    ])
