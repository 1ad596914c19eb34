-- The laws on lost things, each from what a lost thing is.
use Rattle.std.proofs.Common.{◌≡◌, ◌≢◌, ℕ, ◌+◌, ◌-◌, ◌*◌, ◌%◌, ◌<◌, ◌≤◌, Bool, true, false, List, [], ◌++◌, length}
use Rattle.std.proofs.Common.{inl, inr, ◌⊎◌, arith}
use Rattle.std.specs.List.{list_any}
use Rattle.sd_site_cards.specs.CardFields.{site_card}
use Rattle.sd_message.specs.declared.emm.Emm.{Emm}
use Rattle.sd_message.specs.declared.ecm_part.EcmPart.{EcmPart}
use Rattle.sd_spec.specs.Plan.{Plan, crypto_length}
use Rattle.sd_spec.specs.Offered.{out_from}
use Rattle.sd_spec.specs.Sent.{Item, Cat, Entitles, Controls, Carries, broadcast, is_cat_item}
use Rattle.sd_law_losses.specs.Chosen.{chosen}
use Rattle.sd_law_losses.specs.Kept.{is_section_item}
use Rattle.sd_law_losses.specs.Confirmed.{confirmed, opened_by}
use Rattle.sd_law_progress.specs.Cost.{AreConfirmedBut, AreConfirmedOutside, IsLost, RiseByAtMost, RiseNarrowly, cost}
use Rattle.sd_law_progress.specs.Cost.{without}
use Rattle.sd_law_progress.proofs.Given.{IsSentTo, sent_to}
use Rattle.sd_law_progress.proofs.CostReceived.{received_but}
use Rattle.sd_law_progress.proofs.CostRows.{count_but, nothing_lost, part_but}
use Rattle.sd_law_progress.proofs.CostTotals as Totals

-- rises by at most 8 are narrow
pub eight_are_narrow : (clear : List (List ℕ)) → RiseByAtMost 8 clear → RiseNarrowly clear
eight_are_narrow clear slow = record {
  one = λ pid j placed. omega (arith, slow pid j placed);
  two = λ pid j k placed after same. omega (arith, slow pid j placed, slow pid k placed, same);
}

module _ (plan : Plan) (clear : List (List ℕ)) (u : ℕ) (before : List Item) where
  given : {item : Item} {after : List Item} → IsLost plan clear u before item after → IsSentTo plan clear u
  given l = sent_to l.is_plan l.is_sendable l.are_whole l.leaf

  pub received_told : (item : Item) (after : List Item) → IsLost plan clear u before item after →
      out_from (site_card plan.site u) [] (without (length before)
      (broadcast plan clear)) ≡ confirmed plan u clear (before ++ after)
  received_told item after l =
      received_but plan clear u before item after (given l) l.place

  pub part_of_due : (item : Item) (after : List Item) → IsLost plan clear u before item after →
      (parts : List Bool) × (confirmed plan u clear (before ++ after) ≡ chosen parts (opened_by plan u clear))
  part_of_due item after l = part_but plan clear u before item after l.is_plan l.leaf l.place

  pub stretch_told : (item : Item) (after : List Item) → IsLost plan clear u before item after →
      plan.site.every ≤ 2048 → RiseNarrowly clear →
      AreConfirmedBut plan u clear (before ++ after) (cost plan.site before item)
  stretch_told item after l short narrow =
      Totals.confirmed_but plan clear u (given l) short narrow before item after l.place

  pub count_told : (item : Item) (after : List Item) → IsLost plan clear u before item after →
      plan.site.every ≤ 2048 → RiseNarrowly clear → length (opened_by plan u clear)
      ≤ length (confirmed plan u clear (before ++ after)) + cost plan.site before item
  count_told item after l short narrow =
      count_but plan clear u (before ++ after) (cost plan.site before item) (stretch_told item after l short narrow)

  pub packet_told : (i : ℕ) (packet : List ℕ) (after : List Item) →
      IsLost plan clear u before (Carries i packet) after → RiseNarrowly clear →
      AreConfirmedOutside plan u clear (before ++ after) i 1
  packet_told i packet after l narrow j within free apart =
      Totals.packet_told plan clear u (given l) before i packet after l.place narrow j
      within free (λ same. differ same apart)
    where
      differ : j ≡ i → (j < i) ⊎ (i + 1 ≤ j) → ⊥
      differ same (inl early) = omega (arith, same, early)
      differ same (inr late) = omega (arith, same, late)

  pub cat_told : (after : List Item) → IsLost plan clear u before Cat after → list_any is_cat_item before ≡ false →
      AreConfirmedOutside plan u clear (before ++ after) 0 (crypto_length plan.site)
  cat_told after l none j within free apart =
      Totals.first_cat_told plan clear u (given l) before after l.place none j within free (far apart)
    where
      far : (j < 0) ⊎ (0 + crypto_length plan.site ≤ j) → crypto_length plan.site ≤ j
      far (inl early) = absurd (omega (arith, early))
      far (inr late) = omega (arith, late)

  pub cat_again_told : (after : List Item) → IsLost plan clear u before Cat after →
      list_any is_cat_item before ≡ true → confirmed plan u clear (before ++ after) ≡ opened_by plan u clear
  cat_again_told after l there =
      nothing_lost plan clear u before Cat after l.is_plan l.leaf l.place
      (Totals.cat_told plan clear u (given l) before after l.place there)

  pub section_told : (emm : Emm) (after : List Item) → IsLost plan clear u before (Entitles emm) after → (n : ℕ)
      × AreConfirmedOutside plan u clear (before ++ after) (n * crypto_length plan.site) (crypto_length plan.site)
  section_told emm after l =
      Totals.first_section_told plan clear u (given l) before emm after l.place

  pub section_again_told : (emm : Emm) (after : List Item) → IsLost plan clear u before (Entitles emm) after →
      list_any (is_section_item emm.period emm.index) before ≡ true →
      confirmed plan u clear (before ++ after) ≡ opened_by plan u clear
  section_again_told emm after l there =
      nothing_lost plan clear u before (Entitles emm) after l.is_plan l.leaf l.place
      (Totals.section_told plan clear u (given l) before emm after l.place there)

  module _ (part : EcmPart) (after : List Item) (l : IsLost plan clear u before (Controls part) after) where
    pub part_told : AreConfirmedOutside plan u clear (before ++ after) ((part.number - 1) * plan.site.every)
        (2 * plan.site.every)
    part_told = Totals.two_stretches plan clear u (given l) before part after l.place

    pub first_told : part.number ≡ 0 → AreConfirmedOutside plan u clear (before ++ after) 0 plan.site.every
    first_told = Totals.first_stretch plan clear u (given l) before part after l.place

    pub closing_told : part.closing ≡ true →
        AreConfirmedOutside plan u clear (before ++ after) ((part.number - 1) * plan.site.every) plan.site.every
    closing_told = Totals.last_stretch plan clear u (given l) before part after l.place

    pub within_told : part.closing ≡ false → part.number % plan.site.cryptos ≢ 0 → plan.site.messages ≢ 1 →
        plan.site.every ≤ 2048 → confirmed plan u clear (before ++ after) ≡ opened_by plan u clear
    within_told goes_on off version short =
        nothing_lost plan clear u before (Controls part) after l.is_plan l.leaf l.place
        (Totals.within_told plan clear u (given l) before part after l.place short goes_on
        off version)
