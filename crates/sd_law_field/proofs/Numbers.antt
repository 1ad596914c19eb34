-- The numbers of the clear packets that are sent rise.
use Rattle.std.proofs.Common.{◌≡◌, refl, ℕ, suc, ◌-◌, ◌/◌, ◌%◌, ◌<◌, ◌≤◌, ◌==◌, Bool, true, false}
use Rattle.std.proofs.Common.{List, [], ◌∷◌, ◌++◌, map, length, get_or, if◌then◌else◌}
use Rattle.std.proofs.Common.{arith, sym, ap, subst, ◌∙◌, inl, inr, append_assoc, length-append}
use Rattle.std.specs.Prelude.{All}
use Rattle.std.proofs.lemmas.Bool.{cases_lt}
use Rattle.std.proofs.lemmas.List.{get_or_append_left, get_or_push}
use Rattle.std.proofs.lemmas.List.Elements.{All-nil, All-cons, All-append, All-map, All-get_or}
use Rattle.std.proofs.Math.Seq.{get_or-append_right}
use Rattle.sd_message.specs.Period.{emms_of}
use Rattle.sd_message.specs.declared.emm.Emm.{Emm}
use Rattle.sd_message.specs.EcmParts.{parts_of}
use Rattle.sd_message.specs.declared.ecm_part.EcmPart.{EcmPart}
use Rattle.sd_spec.specs.Plan.{Plan, crypto_length, period_of}
use Rattle.sd_spec.specs.Carried.{carried}
use Rattle.sd_spec.specs.Messages.{period_at, message_at}
use Rattle.sd_spec.specs.Sent.{Item, Cat, Entitles, Controls, Carries, tables_at, tables_before}
use Rattle.sd_spec.specs.Sent.{message_before}
use Rattle.sd_spec.specs.Sent.{added, sent_from, sent}

-- the thing is a clear packet
abbrev pub carries : Item → Bool
carries Cat = false
carries (Entitles emm) = false
carries (Controls part) = false
carries (Carries j packet) = true

abbrev CarryNone : List Item → Type 0
CarryNone items = All (λ item. carries item ≡ false) items

-- the tables and the message before a packet are none
tables_carry_none : (plan : Plan) (k : ℕ) → CarryNone (tables_at plan k)
unfolding tables_at
tables_carry_none plan k =
    let emms : List Emm = emms_of (period_at plan (period_of plan k)) in
    All-cons (λ item. carries item ≡ false) Cat (map Entitles emms) refl
    (All-map (λ item. carries item ≡ false) Entitles emms (λ i d within. refl))

before_carry_none : (plan : Plan) (before : List (List ℕ)) →
    CarryNone (tables_before plan (length before) ++ message_before plan before)
before_carry_none plan before =
    All-append (λ item. carries item ≡ false) (tables_before plan (length before)) (message_before plan before)
    (by_tables (length before % crypto_length plan.site == 0)) (by_message (length before % plan.site.every == 0))
  where
    by_tables : (b : Bool) → CarryNone (if b then tables_at plan (length before) else [])
    by_tables true = tables_carry_none plan (length before)
    by_tables false = All-nil (λ item. carries item ≡ false)

    parts : List EcmPart
    parts = parts_of (message_at plan before (length before / plan.site.every) (length before) false)

    by_message : (b : Bool) → CarryNone (if b then map Controls parts else [])
    by_message true = All-map (λ item. carries item ≡ false) Controls parts (λ i d within. refl)
    by_message false = All-nil (λ item. carries item ≡ false)

-- the one clear packet stands last
last_carries : (first : List Item) (n i j : ℕ) (own packet : List ℕ) → CarryNone first →
    i < length (first ++ Carries n own ∷ []) → get_or (first ++ Carries n own ∷ []) i Cat ≡ Carries j packet →
    (suc i ≡ length (first ++ Carries n own ∷ [])) × (j ≡ n)
last_carries first n i j own packet none within is = elim (cases_lt i (length first)) [
  | inl inside ↦
      let here : get_or first i Cat ≡ Carries j packet =
      sym (get_or_append_left first (Carries n own ∷ []) Cat i inside) ∙ is in
      let not_one : carries (get_or first i Cat) ≡ false =
      All-get_or (λ item. carries item ≡ false) first i Cat inside none in
      absurd (cc (sym (ap carries here) ∙ not_one))
  | inr past ↦
      let long = length-append first (Carries n own ∷ []) in
      let end : length first ≡ i = omega (arith, within, past, long) in
      let same : Carries n own ≡ Carries j packet =
      sym (get_or_push first (Carries n own) Cat i end) ∙ is in
      (omega (arith, end, long), cc same)
]

-- what one packet adds
added_is : (plan : Plan) (before : List (List ℕ)) (packet : List ℕ) → added plan before packet
    ≡ (tables_before plan (length before) ++ message_before plan before)
    ++ Carries (length before) (carried plan.site before packet) ∷ []
unfolding added
added_is plan before packet =
    sym (append_assoc (tables_before plan (length before)) (message_before plan before)
    (Carries (length before) (carried plan.site before packet) ∷ []))

added_carries : (plan : Plan) (before : List (List ℕ)) (own : List ℕ) (i j : ℕ) (packet : List ℕ) →
    i < length (added plan before own) → get_or (added plan before own) i Cat ≡ Carries j packet →
    (suc i ≡ length (added plan before own)) × (j ≡ length before)
added_carries plan before own i j packet =
    subst (λ (items : List Item). i < length items → get_or items i Cat ≡ Carries j packet →
    (suc i ≡ length items) × (j ≡ length before)) (sym (added_is plan before own))
    (last_carries (tables_before plan (length before) ++ message_before plan before) (length before) i j
    (carried plan.site before own) packet (before_carry_none plan before))

-- no clear packet that is sent after others has a number of theirs
from_before : (plan : Plan) (before packets : List (List ℕ)) (i j : ℕ) (packet : List ℕ) →
    get_or (sent_from plan before packets) i Cat ≡ Carries j packet → length before ≤ j
unfolding sent_from
from_before plan before [] i j packet is = absurd (cc is)
from_before plan before (own ∷ packets) i j packet is =
    let rest : List Item = sent_from plan (before ++ own ∷ []) packets in
    elim (cases_lt i (length (added plan before own))) [
      | inl inside ↦
          let last = added_carries plan before own i j packet inside
          (sym (get_or_append_left (added plan before own) rest Cat i inside) ∙ is) in
          let number = last.1 in
          omega (arith, number)
      | inr past ↦
          let low = from_before plan (before ++ own ∷ []) packets (i - length (added plan before own)) j packet
          (sym (get_or-append_right (added plan before own) rest i Cat past) ∙ is) in
          omega (arith, low, length-append before (own ∷ []))
    ]

-- one after the other
from_rises : (plan : Plan) (before packets : List (List ℕ)) (i k j l : ℕ) (packet other : List ℕ) → i < k →
    get_or (sent_from plan before packets) i Cat ≡ Carries j packet →
    get_or (sent_from plan before packets) k Cat ≡ Carries l other → j < l
unfolding sent_from
from_rises plan before [] i k j l packet other first is same = absurd (cc is)
from_rises plan before (own ∷ packets) i k j l packet other first is same =
    let mine : List Item = added plan before own in
    let rest : List Item = sent_from plan (before ++ own ∷ []) packets in
    elim (cases_lt i (length mine)) [
      | inl inside ↦
          let last = added_carries plan before own i j packet inside
          (sym (get_or_append_left mine rest Cat i inside) ∙ is) in
          let end = last.0 in
          let number = last.1 in
          let past : length mine ≤ k = omega (arith, end, first) in
          let low = from_before plan (before ++ own ∷ []) packets (k - length mine) l other
          (sym (get_or-append_right mine rest k Cat past) ∙ same) in
          omega (arith, number, low, length-append before (own ∷ []))
      | inr past ↦
          let later : length mine ≤ k = omega (arith, past, first) in
          from_rises plan (before ++ own ∷ []) packets (i - length mine) (k - length mine) j l packet other
          (omega (arith, past, first)) (sym (get_or-append_right mine rest i Cat past) ∙ is)
          (sym (get_or-append_right mine rest k Cat later) ∙ same)
    ]

pub sent_rises : (plan : Plan) (clear : List (List ℕ)) (i k j l : ℕ) (packet other : List ℕ) → i < k →
    get_or (sent plan clear) i Cat ≡ Carries j packet → get_or (sent plan clear) k Cat ≡ Carries l other → j < l
sent_rises plan clear i k j l packet other first is same = from_rises plan [] clear i k j l packet other first is same
