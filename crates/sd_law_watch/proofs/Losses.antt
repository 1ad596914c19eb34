-- What is written of what counts of broadcasts.
use Rattle.std.proofs.Common.{◌≡◌, ℕ, ◌<◌, ◌^◌, Bool, false, List, [], ◌∷◌, map, reverse, None, sym, ap, ◌∙◌}
use Rattle.sd_site_cards.specs.CardFields.{CardFields}
use Rattle.sd_spec.specs.Offered.{out_from, break_from}
use Rattle.sd_spec.specs.Ending.{ending_of}
use Rattle.sd_spec.specs.Counting.{counting}
use Rattle.sd_spec.specs.Reports.{tally_from}
use Rattle.sd_law_losses.specs.Chosen.{chosen}
use Rattle.sd_law_losses.specs.Channel.{Arrival, Channel, AreRunsOf, arriving, all_sent, channel_card}
use Rattle.sd_law_losses.specs.Many.{confirmed_from, opened_of_all}
use Rattle.sd_law_losses.specs.Ends.{ending_of_all, whole_ending_of}
use Rattle.sd_law_losses.specs.Together.{joined_to}
use Rattle.sd_spec.specs.declared.ending.Ending.TheVariants.{Opened}
use Rattle.sd_law_losses.proofs.Whole.{runs_part, wholes, whole_stream, are_whole, whole_out}
use Rattle.sd_law_losses.proofs.WholeEnds.{whole_end}
use Rattle.sd_law_losses.proofs.Finishing.{runs_out, runs_break, runs_end}
use Rattle.sd_law_watch.specs.Fewer.{AreFewerOf}
use Rattle.sd_law_watch.proofs.Fewer.{flags_of, counting_chosen, fewer_of, fewer_arrive, are_fewer, fewer_are_runs}
use Rattle.sd_law_watch.proofs.Fewer.{opened_same}
use Rattle.sd_law_watch.proofs.Going.{same_out, same_ending}
use Rattle.sd_law_watch.proofs.Unrefused.{none_refused}

-- the card of a leaf
abbrev pub card_for : Channel → ℕ → CardFields
card_for channel u = channel_card channel u

-- what counts, as broadcasts of which fewer packets arrive
pub counted_of : CardFields → List Arrival → List Arrival
counted_of card runs = fewer_of (flags_of card [] (arriving runs)) runs

counted_arrive : (card : CardFields) (runs : List Arrival) →
    counting card [] (arriving runs) ≡ arriving (counted_of card runs)
unfolding counted_of
counted_arrive card runs =
    counting_chosen card [] (arriving runs) ∙ fewer_arrive (flags_of card [] (arriving runs)) runs

counted_are_fewer : (card : CardFields) (runs : List Arrival) → AreFewerOf runs (counted_of card runs)
unfolding counted_of
counted_are_fewer card runs = are_fewer (flags_of card [] (arriving runs)) runs

counted_are_runs : (channel : Channel) (card : CardFields) (runs : List Arrival) → AreRunsOf channel runs →
    AreRunsOf channel (counted_of card runs)
unfolding counted_of
counted_are_runs channel card runs are = fewer_are_runs channel (flags_of card [] (arriving runs)) runs are

counted_opened : (card : CardFields) (u : ℕ) (runs : List Arrival) →
    opened_of_all u (counted_of card runs) ≡ opened_of_all u runs
unfolding counted_of
counted_opened card u runs = opened_same u (flags_of card [] (arriving runs)) runs

counted_out : (channel : Channel) (runs : List Arrival) (u : ℕ) → AreRunsOf channel runs → u < 2 ^ channel.height →
    out_from (card_for channel u) [] (counting (card_for channel u) [] (arriving runs))
    ≡ confirmed_from false u (counted_of (card_for channel u) runs)
counted_out channel runs u are leaf =
    ap (out_from (card_for channel u) []) (counted_arrive (card_for channel u) runs)
    ∙ runs_out channel (counted_of (card_for channel u) runs) u
    (counted_are_runs channel (card_for channel u) runs are) leaf

pub counts_as_fewer : (channel : Channel) (runs : List Arrival) (u : ℕ) → AreRunsOf channel runs →
    u < 2 ^ channel.height →
    (fewer : List Arrival) × AreFewerOf runs fewer
    × (counting (channel_card channel u) [] (arriving runs) ≡ arriving fewer)
    × (out_from (channel_card channel u) []
    (counting (channel_card channel u) [] (arriving runs))
    ≡ confirmed_from false u fewer)
counts_as_fewer channel runs u are leaf = (
  counted_of (card_for channel u) runs,
  counted_are_fewer (card_for channel u) runs,
  counted_arrive (card_for channel u) runs,
  counted_out channel runs u are leaf,
)

pub true_packets : (channel : Channel) (runs : List Arrival) (u : ℕ) → AreRunsOf channel runs →
    u < 2 ^ channel.height →
    (parts : List Bool)
    × (out_from (channel_card channel u) []
    (counting (channel_card channel u) [] (arriving runs))
    ≡ chosen parts (opened_of_all u runs))
true_packets channel runs u are leaf =
    let fewer : List Arrival = counted_of (card_for channel u) runs in
    let part = runs_part channel fewer u (counted_are_runs channel (card_for channel u) runs are) leaf in (
      part.0,
      counted_out channel runs u are leaf
          ∙ (part.1 ∙ ap (chosen part.0) (counted_opened (card_for channel u) u runs)),
    )

-- whatever else is lost, nothing is refused
pub none_refused_of : (channel : Channel) (runs : List Arrival) (u : ℕ) → AreRunsOf channel runs →
    u < 2 ^ channel.height → (flags : List Bool) →
    break_from (card_for channel u) [] (chosen flags (arriving runs)) ≡ None
none_refused_of channel runs u are leaf flags =
    ap (break_from (card_for channel u) []) (fewer_arrive flags runs)
    ∙ runs_break channel (fewer_of flags runs) u (fewer_are_runs channel flags runs are) leaf

pub written_as_ever : (channel : Channel) (runs : List Arrival) (u : ℕ) → AreRunsOf channel runs →
    u < 2 ^ channel.height →
    (tally_from (channel_card channel u) 0 [] (arriving runs)).marked ≡ 0 →
    (tally_from (channel_card channel u) 0 [] (arriving runs)).doubled ≡ 0 →
    out_from (channel_card channel u) []
    (counting (channel_card channel u) [] (arriving runs))
    ≡ confirmed_from false u runs
written_as_ever channel runs u are leaf unmarked once =
    same_out (card_for channel u) (arriving runs) (none_refused_of channel runs u are leaf) unmarked once
    ∙ runs_out channel runs u are leaf

pub ends_as_ever : (channel : Channel) (runs : List Arrival) (u : ℕ) → AreRunsOf channel runs →
    u < 2 ^ channel.height →
    (tally_from (channel_card channel u) 0 [] (arriving runs)).marked ≡ 0 →
    (tally_from (channel_card channel u) 0 [] (arriving runs)).doubled ≡ 0 →
    ending_of (channel_card channel u)
    (reverse (counting (channel_card channel u) [] (arriving runs)))
    ≡ ending_of_all u runs
ends_as_ever channel runs u are leaf unmarked once =
    same_ending (card_for channel u) (arriving runs) (none_refused_of channel runs u are leaf) unmarked once
    ∙ runs_end channel runs u are leaf

pub none_is_refused : (channel : Channel) (runs : List Arrival) (u : ℕ) → AreRunsOf channel runs →
    u < 2 ^ channel.height →
    (tally_from (channel_card channel u) 0 [] (arriving runs)).refused ≡ 0
none_is_refused channel runs u are leaf =
    none_refused (card_for channel u) (arriving runs) (none_refused_of channel runs u are leaf)

-- whole broadcasts
whole_sound : (channel : Channel) (runs : List Arrival) (u : ℕ) → AreRunsOf channel runs → u < 2 ^ channel.height →
    (flags : List Bool) → break_from (card_for channel u) [] (chosen flags (all_sent runs)) ≡ None
whole_sound channel runs u are leaf flags =
    ap (λ (packets : List (List ℕ)). break_from (card_for channel u) [] (chosen flags packets))
    (sym (whole_stream runs))
    ∙ none_refused_of channel (wholes runs) u (are_whole channel runs are) leaf flags

pub wholes_written : (channel : Channel) (runs : List Arrival) (u : ℕ) → AreRunsOf channel runs →
    u < 2 ^ channel.height →
    (tally_from (channel_card channel u) 0 [] (all_sent runs)).marked ≡ 0 →
    (tally_from (channel_card channel u) 0 [] (all_sent runs)).doubled ≡ 0 →
    out_from (channel_card channel u) []
    (counting (channel_card channel u) [] (all_sent runs))
    ≡ opened_of_all u runs
wholes_written channel runs u are leaf unmarked once =
    same_out (card_for channel u) (all_sent runs) (whole_sound channel runs u are leaf) unmarked once
    ∙ whole_out channel runs u are leaf

pub wholes_end : (channel : Channel) (run : Arrival) (runs : List Arrival) (u : ℕ) → AreRunsOf channel (run ∷ runs) →
    u < 2 ^ channel.height →
    (tally_from (channel_card channel u) 0 [] (all_sent (run ∷ runs))).marked ≡ 0 →
    (tally_from (channel_card channel u) 0 [] (all_sent (run ∷ runs))).doubled ≡ 0 →
    ending_of (channel_card channel u)
    (reverse (counting (channel_card channel u) [] (all_sent (run ∷ runs))))
    ≡ joined_to Opened (map (whole_ending_of u) (run ∷ runs))
wholes_end channel run runs u are leaf unmarked once =
    same_ending (card_for channel u) (all_sent (run ∷ runs)) (whole_sound channel (run ∷ runs) u are leaf) unmarked once
    ∙ whole_end channel run runs u are leaf
