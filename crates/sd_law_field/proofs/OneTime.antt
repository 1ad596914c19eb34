-- What a receiver writes in one time that it is on.
use Rattle.std.proofs.Common.{◌≡◌, ℕ, ◌<◌, ◌^◌, Bool, List, [], ◌++◌, length, sym, ap, subst, ◌∙◌}
use Rattle.std.specs.Prelude.{All, None}
use Rattle.std.specs.List.Sorted.{IsStrictlyIncreasing}
use Rattle.sd_spec.specs.Plan.{Plan, IsPlan}
use Rattle.sd_spec.specs.Refused.{IsClear}
use Rattle.sd_spec.specs.Sent.{Cat, sent, closing_of, packets_from, body, broadcast}
use Rattle.sd_spec.proofs.Sending.{packets_in_turn}
use Rattle.sd_spec.proofs.Bodies.{packets_many}
use Rattle.sd_law_broadcast.specs.Packets.{AreWholePackets}
use Rattle.sd_law_broadcast.specs.Synced.{AreSynced}
use Rattle.sd_law_broadcast.proofs.Sendable.{clear_sendable}
use Rattle.sd_spec.specs.Offered.{out_from, break_from}
use Rattle.sd_law_losses.specs.Chosen.{chosen}
use Rattle.sd_law_losses.specs.Confirmed.{packets_at, confirmed}
use Rattle.sd_law_losses.proofs.Theorem.{confirmed_alone, none_refused as none_of_choice}
use Rattle.sd_spec.specs.Watch.{stream, at_places}
use Rattle.sd_law_field.specs.Times.{plan_card, arrived_flags, confirmed_places_in}
use Rattle.sd_law_field.proofs.Chosen.{packets_chosen_of_more, items_chosen_of_more}
use Rattle.sd_law_field.proofs.Streams.{stream_is}

module _ (plan : Plan) (clear : List (List ℕ)) (places : List ℕ) (up : IsStrictlyIncreasing places)
    (below : All (λ i. i < length (sent plan clear)) places) where
  -- the choice of the broadcast
  abbrev flags : List Bool
  flags = arrived_flags places (length (sent plan clear))

  body_chosen : chosen flags (broadcast plan clear) ≡ at_places [] (body plan clear) places
  unfolding body broadcast
  body_chosen =
      let first : List (List ℕ) = packets_from plan.site [] (sent plan clear) in
      let rest : List (List ℕ) = packets_from plan.site (sent plan clear) (closing_of plan clear) in
      let long : length first ≡ length (sent plan clear) = packets_many plan.site [] (sent plan clear) in
      ap (chosen flags) (packets_in_turn plan.site [] (sent plan clear) (closing_of plan clear))
      ∙ (ap (λ (n : ℕ). chosen (arrived_flags places n) (first ++ rest)) (sym long)
      ∙ packets_chosen_of_more first rest places up
      (subst (λ (n : ℕ). All (λ i. i < n) places) (sym long) below))

  -- and of what is heeded
  items_kept : chosen flags (sent plan clear ++ closing_of plan clear) ≡ at_places Cat (sent plan clear) places
  items_kept = items_chosen_of_more (sent plan clear) (closing_of plan clear) places up below

  stream_chosen : IsPlan plan → IsClear plan.site clear → AreWholePackets clear → AreSynced clear →
      at_places [] (stream plan clear) places ≡ chosen flags (broadcast plan clear)
  stream_chosen is all whole synced =
      ap (λ (packets : List (List ℕ)). at_places [] packets places) (stream_is plan clear is all whole synced)
      ∙ sym body_chosen

-- it refuses nothing
pub none_refused : (plan : Plan) (clear : List (List ℕ)) (u : ℕ) (places : List ℕ) → IsPlan plan →
    IsClear plan.site clear → AreWholePackets clear → AreSynced clear → u < 2 ^ plan.site.height →
    IsStrictlyIncreasing places → All (λ i. i < length (sent plan clear)) places →
    break_from (plan_card plan u) [] (at_places [] (stream plan clear) places) ≡ None
none_refused plan clear u places is all whole synced leaf up below =
    ap (break_from (plan_card plan u) []) (stream_chosen plan clear places up below is all whole synced)
    ∙ none_of_choice plan clear u (arrived_flags places (length (sent plan clear))) is
    (clear_sendable plan.site clear all) whole leaf

-- and writes what is confirmed to it
pub time_writes : (plan : Plan) (clear : List (List ℕ)) (u : ℕ) (places : List ℕ) → IsPlan plan →
    IsClear plan.site clear → AreWholePackets clear → AreSynced clear → u < 2 ^ plan.site.height →
    IsStrictlyIncreasing places → All (λ i. i < length (sent plan clear)) places →
    out_from (plan_card plan u) [] (at_places [] (stream plan clear) places)
    ≡ packets_at clear (confirmed_places_in plan u clear places)
unfolding confirmed confirmed_places_in
time_writes plan clear u places is all whole synced leaf up below =
    ap (out_from (plan_card plan u) []) (stream_chosen plan clear places up below is all whole synced)
    ∙ (confirmed_alone plan clear u (arrived_flags places (length (sent plan clear))) is
    (clear_sendable plan.site clear all) whole leaf
    ∙ ap (confirmed plan u clear) (items_kept plan clear places up below))
