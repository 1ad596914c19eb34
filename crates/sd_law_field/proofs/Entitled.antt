-- What is confirmed is of periods in which the leaf isn't revoked.
use Rattle.std.proofs.Common.{◌≡◌, ℕ, ◌<◌, ◌^◌, Bool, true, false}
use Rattle.std.proofs.Common.{List, filter, length, get_or, sym, subst}
use Rattle.std.proofs.Common.{inl}
use Rattle.std.proofs.Common.{inr}
use Rattle.std.specs.Prelude.{All}
use Rattle.std.specs.List.{range_with_len}
use Rattle.std.proofs.lemmas.Bool.{cases_lt}
use Rattle.std.proofs.lemmas.List.Elements.{All-get_or, All-map, All-weaker, filter_passes}
use Rattle.std.proofs.lemmas.List.{get_or_past}
use Rattle.sd_base.proofs.Bools.{false_from_not}
use Rattle.sd_base.proofs.Lists.{all_first}
use Rattle.sd_spec.specs.Plan.{Plan, IsPlan, period_of}
use Rattle.sd_spec.specs.Sent.{Cat, sent, closing_of}
use Rattle.sd_spec.specs.Items.{IsOfBroadcast, cat}
use Rattle.sd_spec.proofs.Items.{all_are_of_broadcast}
use Rattle.sd_law_losses.specs.Confirmed.{is_confirmed_at}
use Rattle.sd_law_losses.specs.Confirmed.{is_revoked_in}
use Rattle.sd_law_losses.proofs.Opened.{after_all, confirmed_open}
use Rattle.sd_spec.specs.Watch.{at_places}
use Rattle.sd_law_field.specs.Times.{kept_at, confirmed_places_in}

-- what is at any places of what is sent is of the broadcast
places_of_broadcast : (plan : Plan) (clear : List (List ℕ)) (places : List ℕ) →
    All (IsOfBroadcast plan clear) (at_places Cat (sent plan clear) places)
unfolding at_places
places_of_broadcast plan clear places =
    All-map (IsOfBroadcast plan clear) (λ i. get_or (sent plan clear) i Cat) places
    (λ k d within. at (get_or places k d))
  where
    at : (i : ℕ) → IsOfBroadcast plan clear (get_or (sent plan clear) i Cat)
    at i = elim (cases_lt i (length (sent plan clear))) [
      | inl inside ↦ All-get_or (IsOfBroadcast plan clear) (sent plan clear) i Cat inside
          (all_first (IsOfBroadcast plan clear) (sent plan clear) (closing_of plan clear)
          (all_are_of_broadcast plan clear))
      | inr past ↦ subst (IsOfBroadcast plan clear) (sym (get_or_past (sent plan clear) i Cat past)) cat
    ]

-- so what is confirmed in a time is of such periods
pub places_are_entitled : (plan : Plan) (clear : List (List ℕ)) (u : ℕ) (places : List ℕ) → IsPlan plan →
    u < 2 ^ plan.site.height →
    All (λ j. is_revoked_in plan u (period_of plan j) ≡ false) (confirmed_places_in plan u clear places)
unfolding confirmed_places_in
places_are_entitled plan clear u places is leaf =
    let test : ℕ → Bool = is_confirmed_at plan u clear (kept_at plan clear places) in
    All-weaker (λ j. test j ≡ true) (λ j. is_revoked_in plan u (period_of plan j) ≡ false)
    (λ j told. false_from_not (is_revoked_in plan u (period_of plan j))
    (confirmed_open plan clear u j (kept_at plan clear places) is leaf
    (after_all (IsOfBroadcast plan clear) (at_places Cat (sent plan clear) places)
    (places_of_broadcast plan clear places)) told))
    (filter test (range_with_len 0 (length clear))) (filter_passes test (range_with_len 0 (length clear)))
