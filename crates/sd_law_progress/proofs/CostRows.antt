-- What each kind of lost thing costs, and how many packets that is.
use Rattle.std.proofs.Common.{◌≡◌, ℕ, ◌+◌, ◌<◌, ◌≤◌, ◌^◌, Bool}
use Rattle.std.proofs.Common.{true, false, not}
use Rattle.std.proofs.Common.{List, ◌++◌, filter, length, arith, sym, ap, ◌∙◌, inl, inr, ◌⊎◌, subst}
use Rattle.std.specs.Prelude.{All}
use Rattle.std.specs.List.{range_with_len}
use Rattle.std.proofs.lemmas.Bool.{both_ways, cases_Bool, false_from_ne_true}
use Rattle.std.proofs.lemmas.List.{length-map}
use Rattle.sd_base.proofs.Bools.{false_from_not}
use Rattle.sd_base.proofs.Ranges.{filter_range}
use Rattle.sd_spec.specs.Plan.{Plan, IsPlan, period_of}
use Rattle.sd_spec.specs.Sent.{Item, sent, closing_of}
use Rattle.sd_spec.specs.Items.{IsOfBroadcast}
use Rattle.sd_spec.proofs.Items.{all_are_of_broadcast}
use Rattle.sd_law_losses.specs.Chosen.{chosen}
use Rattle.sd_law_losses.specs.Kept.{after_cat}
use Rattle.sd_law_losses.specs.Confirmed.{is_confirmed_at, confirmed, is_revoked_in, opened_by, packet_at, packets_at}
use Rattle.sd_law_losses.proofs.Later.{chosen_all_of}
use Rattle.sd_law_losses.proofs.Opened.{after_all, confirmed_are_opened, confirmed_open}
use Rattle.sd_law_progress.specs.Cost.{AreConfirmedBut, IsSentBetween}
use Rattle.sd_law_progress.proofs.CostLists.{all_but, chosen_but, few_between}

-- so many packets that are due aren't written, at most
pub count_but : (plan : Plan) (clear : List (List ℕ)) (u : ℕ) (kept : List Item) (n : ℕ) →
    AreConfirmedBut plan u clear kept n → length (opened_by plan u clear) ≤ length (confirmed plan u clear kept) + n
unfolding opened_by confirmed
count_but plan clear u kept n (low, told) =
    omega (
      arith,
      length-map (filter due (range_with_len 0 (length clear))) (packet_at clear),
      length-map (filter confirms_it (range_with_len 0 (length clear))) (packet_at clear),
      few_between due confirms_it low n 0 (length clear)
          (λ j from to is apart. told j (omega (arith, to))
          (false_from_not (is_revoked_in plan u (period_of plan j)) is)
          apart),
    )
  where
    due : ℕ → Bool
    due j = not (is_revoked_in plan u (period_of plan j))

    confirms_it : ℕ → Bool
    confirms_it = is_confirmed_at plan u clear (after_cat kept)

-- and no others are written
pub part_but : (plan : Plan) (clear : List (List ℕ)) (u : ℕ) (before : List Item) (x : Item) (after : List Item) →
    IsPlan plan → u < 2 ^ plan.site.height → IsSentBetween plan clear before x after →
    (parts : List Bool) × (confirmed plan u clear (before ++ after) ≡ chosen parts (opened_by plan u clear))
part_but plan clear u before x after is leaf lost =
    let (parts, same) = confirmed_are_opened plan clear u (all_but before after) is leaf in (
      parts,
      ap (confirmed plan u clear) (sym (ap (chosen (all_but before after)) lost ∙ chosen_but before x after)) ∙ same,
    )

-- where all is confirmed that is due, just that is written
pub nothing_lost : (plan : Plan) (clear : List (List ℕ)) (u : ℕ) (before : List Item) (x : Item) (after : List Item) →
    IsPlan plan → u < 2 ^ plan.site.height → IsSentBetween plan clear before x after →
    ((j : ℕ) → j < length clear → is_revoked_in plan u (period_of plan j) ≡ false →
    is_confirmed_at plan u clear (after_cat (before ++ after)) j ≡ true) →
    confirmed plan u clear (before ++ after) ≡ opened_by plan u clear
unfolding opened_by confirmed
nothing_lost plan clear u before x after is leaf lost told =
    ap (packets_at clear) (filter_range (is_confirmed_at plan u clear kept)
    (λ j. not (is_revoked_in plan u (period_of plan j))) 0 (length clear)
    (λ j from to. by_revoked j (omega (arith, to)) (cases_Bool (is_revoked_in plan u (period_of plan j)))))
  where
    kept : List Item
    kept = after_cat (before ++ after)

    of_broadcast : All (IsOfBroadcast plan clear) kept
    of_broadcast = after_all (IsOfBroadcast plan clear) (before ++ after)
        (subst (All (IsOfBroadcast plan clear)) (ap (chosen (all_but before after)) lost ∙ chosen_but before x after)
        (chosen_all_of (IsOfBroadcast plan clear) (all_but before after) (sent plan clear ++ closing_of plan clear)
        (all_are_of_broadcast plan clear)))

    by_revoked : (j : ℕ) → j < length clear → (is_revoked_in plan u (period_of plan j) ≡ true)
        ⊎ (is_revoked_in plan u (period_of plan j) ≡ false) →
        is_confirmed_at plan u clear kept j ≡ not (is_revoked_in plan u (period_of plan j))
    by_revoked j within (inl revoked) =
        false_from_ne_true (is_confirmed_at plan u clear kept j)
        (λ confirms. both_ways (not (is_revoked_in plan u (period_of plan j))) (ap not revoked)
        (confirmed_open plan clear u j kept is leaf of_broadcast confirms))
        ∙ ap not (sym revoked)
    by_revoked j within (inr free) = told j within free ∙ ap not (sym free)
