-- What the loss of one thing costs.
use Rattle.std.proofs.Common.{◌≡◌, refl, ℕ, ◌+◌, ◌-◌, ◌*◌, ◌/◌, ◌%◌, ◌<◌, ◌≤◌, ◌==◌, ◌||◌, Bool}
use Rattle.std.proofs.Common.{true, false, if◌then◌else◌, subst}
use Rattle.std.proofs.Common.{List, [], ◌∷◌, ◌++◌, length, arith, sym, ap, ◌∙◌, inl, inr, ◌⊎◌}
use Rattle.std.specs.Prelude.{All, Contains}
use Rattle.std.specs.List.{list_any}
use Rattle.std.proofs.lemmas.Bool.{both_ways, cases_Bool, or_parts}
use Rattle.std.proofs.lemmas.Bool.Decides.{nat_tests}
use Rattle.std.proofs.lemmas.List.Elements.{All-head, All-contains}
use Rattle.std.proofs.Math.Nat.{div-lt_iff_lt-mul, le-div_iff_mul-le, mul-le-mul_right}
use Rattle.sd_message.specs.EcmParts.{Message, parts_of, part_at, part_count_of}
use Rattle.sd_message.specs.declared.ecm_part.EcmPart.{EcmPart}
use Rattle.sd_message.specs.declared.emm.Emm.{Emm}
use Rattle.sd_message.proofs.Pieces.{each_made}
use Rattle.sd_spec.specs.Plan.{Plan, IsPlan, crypto_length, period_of, closing_number}
use Rattle.sd_spec.specs.Messages.{message_at}
use Rattle.sd_spec.specs.Sent.{Item, Cat, Entitles, Controls, Carries, is_cat_item}
use Rattle.sd_spec.specs.Items.{IsOfBroadcast, part, closing}
use Rattle.sd_spec.proofs.Items.{all_are_of_broadcast}
use Rattle.sd_law_losses.specs.Kept.{after_cat, is_section_item}
use Rattle.sd_law_losses.specs.Confirmed.{is_confirmed_at, is_revoked_in}
use Rattle.sd_law_losses.proofs.Confirming.{confirms}
use Rattle.sd_law_losses.proofs.Lawful.{setting}
use Rattle.sd_law_losses.proofs.Lists.{split_all}
use Rattle.sd_law_losses.proofs.Remaining.{number_within}
use Rattle.sd_law_losses.proofs.Setting.{Setting}
use Rattle.sd_law_progress.specs.Cost.{AreConfirmedBut, AreConfirmedOutside, IsSentBetween, RiseNarrowly, cost}
use Rattle.sd_law_progress.proofs.Given.{IsSentTo}
use Rattle.sd_law_progress.proofs.CostCases as Cases
use Rattle.sd_law_progress.proofs.CostCat as First
use Rattle.sd_law_progress.proofs.CostSections as Sections

-- a part says of its message what the message does
part_says : (message : Message) (one : EcmPart) → Contains (parts_of message) one →
    (one.number ≡ message.number) × (one.closing ≡ message.closing)
unfolding parts_of part_at
part_says message one there =
    All-contains (λ (p : EcmPart). (p.number ≡ message.number) × (p.closing ≡ message.closing)) (parts_of message) one
    (each_made (λ (p : EcmPart). (p.number ≡ message.number) × (p.closing ≡ message.closing)) (part_at message)
    (part_count_of message) (λ n below. (refl, refl))) there

-- the parts of the closing message say that it closes, and those of the others that they don't
IsNumbered : Plan → List (List ℕ) → EcmPart → Type 0
IsNumbered plan clear one = (one.closing ≡ true → one.number ≡ closing_number plan.site (length clear))
    × (one.closing ≡ false → one.number < closing_number plan.site (length clear))

parts_numbered : (plan : Plan) (clear : List (List ℕ)) (u : ℕ) (one : EcmPart) → IsPlan plan →
    IsOfBroadcast plan clear (Controls one) → IsNumbered plan clear one
unfolding IsNumbered message_at
parts_numbered plan clear u one is (part k within due m) =
    let says = part_says _ one m in (
      λ closes. absurd (both_ways one.closing says.1 closes),
      λ goes_on. omega (arith, says.0, number_within (setting plan clear u) k is.site within),
    )
parts_numbered plan clear u one is (closing m) =
    let says = part_says _ one m in (λ closes. says.0, λ goes_on. absurd (both_ways one.closing goes_on says.1))

-- one thing is lost of a broadcast
module _ (plan : Plan) (clear : List (List ℕ)) (u : ℕ) (is : IsSentTo plan clear u) where
  abbrev s : Setting
  s = setting plan clear u

  -- if it isn't the first CAT, what is confirmed of all that is kept is confirmed of what is kept after the CAT
  still_told : (before : List Item) (x : Item) (after : List Item) (lost : IsSentBetween plan clear before x after) →
      (x ≡ Cat → before ≡ [] → ⊥) → (j : ℕ) → j < length clear → confirms s (before ++ after) j ≡ true →
      is_confirmed_at plan u clear (after_cat (before ++ after)) j ≡ true
  still_told before x after lost other j within told =
      by_first (Cases.first_is plan clear u is before x after lost (omega (arith, within)))
    where
      by_first : ((before ≡ []) × (x ≡ Cat)) ⊎ ((rest : List Item) × (before ≡ Cat ∷ rest)) →
          is_confirmed_at plan u clear (after_cat (before ++ after)) j ≡ true
      by_first (inl (none, is_cat)) = absurd (other is_cat none)
      by_first (inr (rest, first)) =
          Cases.confirms_after_cat plan clear u is before x after lost rest first j told

  -- a clear packet costs itself
  pub packet_told : (before : List Item) (i : ℕ) (packet : List ℕ) (after : List Item) →
      IsSentBetween plan clear before (Carries i packet) after → RiseNarrowly clear → (j : ℕ) → j < length clear →
      is_revoked_in plan u (period_of plan j) ≡ false → (j ≡ i → ⊥) →
      is_confirmed_at plan u clear (after_cat (before ++ after)) j ≡ true
  packet_told before i packet after lost narrow j within free other =
      still_told before (Carries i packet) after lost (λ is_cat. absurd (cc is_cat)) j within
      (Cases.packet_costs plan clear u is before (Carries i packet) after lost narrow i packet refl j
      within free other)

  -- a later CAT costs nothing
  pub cat_told : (before after : List Item) → IsSentBetween plan clear before Cat after →
      list_any is_cat_item before ≡ true → (j : ℕ) → j < length clear →
      is_revoked_in plan u (period_of plan j) ≡ false →
      is_confirmed_at plan u clear (after_cat (before ++ after)) j ≡ true
  cat_told before after lost there j within free =
      still_told before Cat after lost
      (λ is_cat none. absurd (cc (ap (list_any is_cat_item) (sym none) ∙ there))) j within
      (Cases.no_cat_costs plan clear u is before Cat after lost refl j within free)

  -- the first one costs the first crypto period
  pub first_cat_told : (before after : List Item) → IsSentBetween plan clear before Cat after →
      list_any is_cat_item before ≡ false → (j : ℕ) → j < length clear →
      is_revoked_in plan u (period_of plan j) ≡ false → crypto_length plan.site ≤ j →
      is_confirmed_at plan u clear (after_cat (before ++ after)) j ≡ true
  first_cat_told before after lost none j within free from =
      by_first (Cases.first_is plan clear u is before Cat after lost (omega (arith, within)))
    where
      by_first : ((before ≡ []) × (Cat ≡ Cat)) ⊎ ((rest : List Item) × (before ≡ Cat ∷ rest)) →
          is_confirmed_at plan u clear (after_cat (before ++ after)) j ≡ true
      by_first (inl (nothing, same)) =
          ap (λ (xs : List Item). is_confirmed_at plan u clear (after_cat (xs ++ after)) j) nothing
          ∙ First.first_cat_costs plan clear u is after
          (lost ∙ ap (λ (xs : List Item). xs ++ Cat ∷ after) nothing) j within free from
      by_first (inr (rest, first)) = absurd (cc (ap (list_any is_cat_item) (sym first) ∙ none))

  -- a section that was sent before costs nothing
  pub section_told : (before : List Item) (emm : Emm) (after : List Item) →
      IsSentBetween plan clear before (Entitles emm) after →
      list_any (is_section_item emm.period emm.index) before ≡ true → (j : ℕ) → j < length clear →
      is_revoked_in plan u (period_of plan j) ≡ false →
      is_confirmed_at plan u clear (after_cat (before ++ after)) j ≡ true
  section_told before emm after lost there j within free =
      still_told before (Entitles emm) after lost (λ is_cat. absurd (cc is_cat)) j within
      (Sections.again_costs plan clear u is before emm after lost there j within free)

  -- any other costs a crypto period at most
  pub first_section_told : (before : List Item) (emm : Emm) (after : List Item) →
      IsSentBetween plan clear before (Entitles emm) after → (n : ℕ)
      × AreConfirmedOutside plan u clear (before ++ after) (n * crypto_length plan.site) (crypto_length plan.site)
  first_section_told before emm after lost =
      let costs = Sections.section_costs plan clear u is before emm after lost in (
        costs.0,
        λ j within free apart. still_told before (Entitles emm) after lost (λ is_cat. absurd (cc is_cat)) j within
            (costs.1 j within free apart),
      )

  -- a part of a message costs at most what is beside the message
  pub part_told : (before : List Item) (one : EcmPart) (after : List Item) →
      IsSentBetween plan clear before (Controls one) after → (j : ℕ) → j < length clear →
      is_revoked_in plan u (period_of plan j) ≡ false → (j / plan.site.every ≡ one.number → ⊥) →
      (j / plan.site.every + 1 ≡ one.number → ⊥) →
      is_confirmed_at plan u clear (after_cat (before ++ after)) j ≡ true
  part_told before one after lost j within free here next =
      still_told before (Controls one) after lost (λ is_cat. absurd (cc is_cat)) j within
      (Cases.part_costs plan clear u is before (Controls one) after lost one refl j within free here
      next)

  of_broadcast : (before : List Item) (x : Item) (after : List Item) → IsSentBetween plan clear before x after →
      IsOfBroadcast plan clear x
  of_broadcast before x after lost =
      All-head (IsOfBroadcast plan clear) x after (split_all (IsOfBroadcast plan clear) before (x ∷ after)
      (subst (All (IsOfBroadcast plan clear)) lost (all_are_of_broadcast plan clear))).1

  -- and nothing within a crypto period
  pub within_told : (before : List Item) (one : EcmPart) (after : List Item) →
      IsSentBetween plan clear before (Controls one) after → plan.site.every ≤ 2048 → one.closing ≡ false →
      (one.number % plan.site.cryptos ≡ 0 → ⊥) → (plan.site.messages ≡ 1 → ⊥) → (j : ℕ) → j < length clear →
      is_revoked_in plan u (period_of plan j) ≡ false →
      is_confirmed_at plan u clear (after_cat (before ++ after)) j ≡ true
  unfolding IsNumbered
  within_told before one after lost short goes_on off version j within free =
      still_told before (Controls one) after lost (λ is_cat. absurd (cc is_cat)) j within
      (Cases.no_part_costs plan clear u is before (Controls one) after lost one refl
      ((parts_numbered plan clear u one is.plan (of_broadcast before (Controls one) after lost)).1 goes_on) short off
      version
      j within free)

  -- the packets beside a message
  beside : (b j : ℕ) → (j / plan.site.every ≡ b) ⊎ (j / plan.site.every + 1 ≡ b) →
      (j < (b - 1) * plan.site.every) ⊎ ((b - 1) * plan.site.every + 2 * plan.site.every ≤ j) → ⊥
  beside b j near far = by_far far
    where
      some : 0 < plan.site.every
      some = omega (arith, is.plan.site.every.0)

      low : j / plan.site.every * plan.site.every ≤ j
      low = (le-div_iff_mul-le some).0 (omega arith)

      high : j < (j / plan.site.every + 1) * plan.site.every
      high = (div-lt_iff_lt-mul some).0 (omega arith)

      two : (n e : ℕ) → (n + 2) * e ≡ n * e + 2 * e
      two n e = grind arith

      by_near : (j / plan.site.every ≡ b) ⊎ (j / plan.site.every + 1 ≡ b) →
          (b - 1 ≤ j / plan.site.every) × (j / plan.site.every + 1 ≤ b - 1 + 2)
      by_near (inl here) = (omega (arith, here), omega (arith, here))
      by_near (inr next) = (omega (arith, next), omega (arith, next))

      by_far : (j < (b - 1) * plan.site.every) ⊎ ((b - 1) * plan.site.every + 2 * plan.site.every ≤ j) → ⊥
      by_far (inl early) = omega (arith, early, low, mul-le-mul_right plan.site.every (by_near near).0)
      by_far (inr late) = omega (
        arith,
        late,
        high,
        mul-le-mul_right plan.site.every (by_near near).1,
        two (b - 1) plan.site.every,
      )

  -- so a part costs two stretches at most
  pub two_stretches : (before : List Item) (one : EcmPart) (after : List Item) →
      IsSentBetween plan clear before (Controls one) after →
      AreConfirmedOutside plan u clear (before ++ after) ((one.number - 1) * plan.site.every) (2 * plan.site.every)
  two_stretches before one after lost j within free apart =
      part_told before one after lost j within free (λ here. absurd (beside one.number j (inl here) apart))
      (λ next. absurd (beside one.number j (inr next) apart))

  -- one of the first message costs one
  pub first_stretch : (before : List Item) (one : EcmPart) (after : List Item) →
      IsSentBetween plan clear before (Controls one) after → one.number ≡ 0 →
      AreConfirmedOutside plan u clear (before ++ after) 0 plan.site.every
  first_stretch before one after lost first j within free apart =
      part_told before one after lost j within free (λ here. absurd (omega (arith, here, first, far apart)))
      (λ next. absurd (omega (arith, next, first)))
    where
      far : (j < 0) ⊎ (0 + plan.site.every ≤ j) → 1 ≤ j / plan.site.every
      far (inl early) = absurd (omega (arith, early))
      far (inr late) = (le-div_iff_mul-le (omega (arith, is.plan.site.every.0))).1 (omega (arith, late))

  -- and one of the last message
  pub last_stretch : (before : List Item) (one : EcmPart) (after : List Item) →
      IsSentBetween plan clear before (Controls one) after → one.closing ≡ true →
      AreConfirmedOutside plan u clear (before ++ after) ((one.number - 1) * plan.site.every) plan.site.every
  unfolding IsNumbered
  last_stretch before one after lost closes j within free apart =
      part_told before one after lost j within free
      (λ here. absurd (omega (arith, here, last, number_within s j is.plan.site within)))
      (λ next. absurd (far next apart))
    where
      some : 0 < plan.site.every
      some = omega (arith, is.plan.site.every.0)

      last : one.number ≡ closing_number plan.site (length clear)
      last = (parts_numbered plan clear u one is.plan (of_broadcast before (Controls one) after lost)).0 closes

      low : j / plan.site.every * plan.site.every ≤ j
      low = (le-div_iff_mul-le some).0 (omega arith)

      high : j < (j / plan.site.every + 1) * plan.site.every
      high = (div-lt_iff_lt-mul some).0 (omega arith)

      grown : (n e : ℕ) → (n + 1) * e ≡ n * e + e
      grown n e = grind arith

      same : j / plan.site.every + 1 ≡ one.number →
          (one.number - 1) * plan.site.every ≡ j / plan.site.every * plan.site.every
      same next = ap (λ (n : ℕ). n * plan.site.every) (omega (arith, next))

      far : j / plan.site.every + 1 ≡ one.number →
          (j < (one.number - 1) * plan.site.every) ⊎ ((one.number - 1) * plan.site.every + plan.site.every ≤ j) → ⊥
      far next (inl early) = omega (arith, early, low, same next)
      far next (inr late) = omega (arith, late, high, same next, grown (j / plan.site.every) plan.site.every)

  one_stretch : (before : List Item) (one : EcmPart) (after : List Item) →
      IsSentBetween plan clear before (Controls one) after → ((one.number == 0) || one.closing) ≡ true →
      AreConfirmedBut plan u clear (before ++ after) plan.site.every
  one_stretch before one after lost ends = by_first (cases_Bool (one.number == 0))
    where
      by_first : ((one.number == 0) ≡ true) ⊎ ((one.number == 0) ≡ false) →
          AreConfirmedBut plan u clear (before ++ after) plan.site.every
      by_first (inl first) = (0, first_stretch before one after lost (grind (arith, nat_tests, first)))
      by_first (inr other) = (
        (one.number - 1) * plan.site.every,
        last_stretch before one after lost (ap (λ (b : Bool). b || one.closing) (sym other) ∙ ends),
      )

  -- what the loss of one thing costs
  pub confirmed_but : plan.site.every ≤ 2048 → RiseNarrowly clear → (before : List Item) (x : Item)
      (after : List Item) → IsSentBetween plan clear before x after →
      AreConfirmedBut plan u clear (before ++ after) (cost plan.site before x)
  unfolding cost
  confirmed_but short narrow before (Carries i packet) after lost = (
    i,
    λ j within free apart. packet_told before i packet after lost narrow j within free (λ same. not_far j same apart),
  )
    where
      not_far : (j : ℕ) → j ≡ i → (j < i) ⊎ (i + 1 ≤ j) → ⊥
      not_far j same (inl early) = omega (arith, same, early)
      not_far j same (inr late) = omega (arith, same, late)
  confirmed_but short narrow before Cat after lost = by_test (list_any is_cat_item before) refl
    where
      by_test : (b : Bool) → list_any is_cat_item before ≡ b →
          AreConfirmedBut plan u clear (before ++ after) (if b then 0 else crypto_length plan.site)
      by_test true there = (0, λ j within free apart. cat_told before after lost there j within free)
      by_test false none = (0, λ j within free apart. first_cat_told before after lost none j within free (far j apart))
        where
          far : (j : ℕ) → (j < 0) ⊎ (0 + crypto_length plan.site ≤ j) → crypto_length plan.site ≤ j
          far j (inl early) = absurd (omega (arith, early))
          far j (inr late) = omega (arith, late)
  confirmed_but short narrow before (Entitles emm) after lost =
      by_test (list_any (is_section_item emm.period emm.index) before) refl
    where
      by_test : (b : Bool) → list_any (is_section_item emm.period emm.index) before ≡ b →
          AreConfirmedBut plan u clear (before ++ after) (if b then 0 else crypto_length plan.site)
      by_test true there = (0, λ j within free apart. section_told before emm after lost there j within free)
      by_test false none =
          let costs = first_section_told before emm after lost in (costs.0 * crypto_length plan.site, costs.1)
  confirmed_but short narrow before (Controls one) after lost =
      by_ends ((one.number == 0) || one.closing)
      ((one.number % plan.site.cryptos == 0) || (plan.site.messages == 1)) refl refl
    where
      by_ends : (ends first : Bool) → ((one.number == 0) || one.closing) ≡ ends →
          ((one.number % plan.site.cryptos == 0) || (plan.site.messages == 1)) ≡ first →
          AreConfirmedBut plan u clear (before ++ after)
          (if ends then plan.site.every else (if first then 2 * plan.site.every else 0))
      by_ends true first ends begins = one_stretch before one after lost ends
      by_ends false true ends begins =
          ((one.number - 1) * plan.site.every, two_stretches before one after lost)
      by_ends false false ends begins =
          let outer = or_parts (one.number == 0) one.closing ends in
          let inner = or_parts (one.number % plan.site.cryptos == 0) (plan.site.messages == 1) begins in (
            0,
            λ j within free apart. within_told before one after lost short outer.1
                (λ none. absurd (both_ways (one.number % plan.site.cryptos == 0) inner.0
                (grind (arith, nat_tests, none))))
                (λ oldest. absurd (both_ways (plan.site.messages == 1) inner.1 (grind (arith, nat_tests, oldest))))
                j within free,
          )
