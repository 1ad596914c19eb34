-- What a receiver writes in several times that it is on.
use Rattle.std.proofs.Common.{◌≡◌, refl, ℕ, ◌<◌, ◌^◌, List, [], ◌∷◌, ◌++◌, length}
use Rattle.std.proofs.Common.{arith, sym, ap, ◌∙◌}
use Rattle.std.specs.Prelude.{All, Contains}
use Rattle.std.specs.List.{concat, flat_map, range_with_len}
use Rattle.std.proofs.lemmas.List.{map-append}
use Rattle.std.proofs.lemmas.List.Elements.{All-nil, All-append, All-contains, All-filter}
use Rattle.std.proofs.lemmas.List.Elements.{Contains-append_left, Contains-append_right}
use Rattle.std.proofs.lemmas.List.FromFn.{get_or-range_with_len, length-range_with_len}
use Rattle.sd_base.proofs.Lists.{all_by, all_first}
use Rattle.sd_spec.specs.Plan.{Plan, IsPlan}
use Rattle.sd_spec.specs.Refused.{IsClear}
use Rattle.sd_spec.specs.Sent.{sent}
use Rattle.sd_law_broadcast.specs.Packets.{AreWholePackets}
use Rattle.sd_law_broadcast.specs.Synced.{AreSynced}
use Rattle.sd_spec.specs.Offered.{out_from}
use Rattle.sd_law_losses.specs.Confirmed.{packet_at, packets_at, is_confirmed_at}
use Rattle.sd_law_losses.proofs.Losses.{all_second}
use Rattle.sd_spec.specs.Watch.{stream, at_places}
use Rattle.sd_law_field.specs.Times.{plan_card, kept_at, confirmed_places_in}
use Rattle.sd_law_field.proofs.Rising.{Rises, rises_first, rises_second, rises_apart, rises_both, rises_increase}
use Rattle.sd_law_field.proofs.Rising.{range_rises}
use Rattle.sd_law_field.proofs.Kept.{kept_apart}
use Rattle.sd_law_field.proofs.OneTime.{time_writes}

-- each time writes what is confirmed in it
pub times_write : (plan : Plan) (clear : List (List ℕ)) (u : ℕ) → IsPlan plan → IsClear plan.site clear →
    AreWholePackets clear → AreSynced clear → u < 2 ^ plan.site.height → (xss : List (List ℕ)) →
    Rises 0 (concat xss) → All (λ i. i < length (sent plan clear)) (concat xss) →
    flat_map (λ places. out_from (plan_card plan u) [] (at_places [] (stream plan clear) places)) xss
    ≡ packets_at clear (flat_map (confirmed_places_in plan u clear) xss)
times_write plan clear u is all whole synced leaf [] rises below = refl
times_write plan clear u is all whole synced leaf (xs ∷ xss) rises below =
    let out : List ℕ → List (List ℕ) =
    λ places. out_from (plan_card plan u) [] (at_places [] (stream plan clear) places) in
    ap (λ (first : List (List ℕ)). first ++ flat_map out xss)
    (time_writes plan clear u xs is all whole synced leaf
    (rises_increase 0 xs (rises_first 0 xs (concat xss) rises))
    (all_first (λ i. i < length (sent plan clear)) xs (concat xss) below))
    ∙ (ap (λ (rest : List (List ℕ)). packets_at clear (confirmed_places_in plan u clear xs) ++ rest)
    (times_write plan clear u is all whole synced leaf xss (rises_second 0 xs (concat xss) rises)
    (all_second (λ i. i < length (sent plan clear)) xs (concat xss) below))
    ∙ sym (map-append (packet_at clear) (confirmed_places_in plan u clear xs)
    (flat_map (confirmed_places_in plan u clear) xss)))

module _ (plan : Plan) (clear : List (List ℕ)) (u : ℕ) where
  -- what holds in each time holds in all
  pub each_time : (P : ℕ → Type 0) → ((xs : List ℕ) → All P (confirmed_places_in plan u clear xs)) →
      (xss : List (List ℕ)) →
      All P (flat_map (confirmed_places_in plan u clear) xss)
  each_time P each [] = All-nil P
  each_time P each (xs ∷ xss) =
      All-append P (confirmed_places_in plan u clear xs) (flat_map (confirmed_places_in plan u clear) xss) (each xs)
      (each_time P each xss)

  -- the packets of one time were sent
  pub places_inside : (xs : List ℕ) → All (λ j. j < length clear) (confirmed_places_in plan u clear xs)
  unfolding confirmed_places_in
  places_inside xs =
      All-filter (is_confirmed_at plan u clear (kept_at plan clear xs)) (λ j. j < length clear)
      (range_with_len 0 (length clear)) below
    where
      below : All (λ j. j < length clear) (range_with_len 0 (length clear))
      below k d within =
          let long = length-range_with_len 0 (length clear) in
          let here : k < length clear = omega (arith, long, within) in
          rw (get_or-range_with_len 0 (length clear) k d here) (omega (arith, here))

  -- those of later times are later ones
  later_above : (xs : List ℕ) (xss : List (List ℕ)) →
      ((i k : ℕ) → Contains xs i → Contains (concat xss) k → i < k) → (j : ℕ) →
      Contains (confirmed_places_in plan u clear xs) j → All (λ l. j < l)
      (flat_map (confirmed_places_in plan u clear) xss)
  later_above xs [] before j here = All-nil (λ l. j < l)
  later_above xs (ys ∷ xss) before j here =
      All-append (λ l. j < l) (confirmed_places_in plan u clear ys) (flat_map (confirmed_places_in plan u clear) xss)
      (all_by (λ l. j < l) (confirmed_places_in plan u clear ys) (λ l there. kept_apart plan clear u j l xs ys
      (λ i k at last. before i k at (Contains-append_left ys (concat xss) k last)) here there))
      (later_above xs xss (λ i k at last. before i k at (Contains-append_right ys (concat xss) k last)) j here)

  time_rises : (xs : List ℕ) → Rises 0 (confirmed_places_in plan u clear xs)
  unfolding confirmed_places_in
  time_rises xs = range_rises (is_confirmed_at plan u clear (kept_at plan clear xs)) 0 (length clear)

  -- so they rise in all times together
  pub places_rise : (xss : List (List ℕ)) → Rises 0 (concat xss) →
      Rises 0 (flat_map (confirmed_places_in plan u clear) xss)
  places_rise [] rises = tt
  places_rise (xs ∷ xss) rises =
      let apart = rises_apart 0 xs (concat xss) rises in
      rises_both 0 (confirmed_places_in plan u clear xs) (flat_map (confirmed_places_in plan u clear) xss)
      (time_rises xs)
      (places_rise xss (rises_second 0 xs (concat xss) rises))
      (all_by (λ j. All (λ l. j < l) (flat_map (confirmed_places_in plan u clear) xss))
      (confirmed_places_in plan u clear xs)
      (later_above xs xss (λ i k at last. All-contains (λ y. i < y) (concat xss) k
      (All-contains (λ x. All (λ y. x < y) (concat xss)) xs i apart at) last)))
