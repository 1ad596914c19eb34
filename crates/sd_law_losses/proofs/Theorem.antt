-- Whatever is lost of a broadcast of a site, the receiver of a leaf of it writes exactly what is confirmed.
use Rattle.std.proofs.Common.{◌+◌, ◌-◌, not}
use Rattle.std.proofs.Common.{◌≡◌, refl, ℕ, ◌<◌, ◌^◌, ◌&&◌, ◌++◌, Bool, true, List, [], map, reverse, length, None}
use Rattle.std.proofs.Common.{arith}
use Rattle.std.proofs.Common.{sym, ap, ◌∙◌}
use Rattle.std.specs.List.{range_with_len}
use Rattle.sd_site_cards.specs.CardFields.{card_of, site_card}
use Rattle.sd_spec.specs.Plan.{Plan, IsPlan}
use Rattle.sd_spec.specs.Refused.{IsSendable}
use Rattle.sd_spec.specs.Sent.{Item, sent, closing_of, broadcast}
use Rattle.sd_law_broadcast.specs.Packets.{AreWholePackets}
use Rattle.sd_spec.specs.Offered.{out_from, break_from}
use Rattle.sd_law_losses.specs.Chosen.{chosen}
use Rattle.sd_law_losses.specs.Confirmed.{confirmed, opened_by}
use Rattle.sd_law_losses.specs.Endings.{ending_told, first_revoked, is_on_air, whole_ending}
use Rattle.sd_spec.specs.Ending.{ending_of}
use Rattle.sd_law_losses.specs.Kept.{entitles, after_cat}
use Rattle.sd_law_losses.specs.Confirmed.{is_revoked_in}
use Rattle.sd_law_losses.specs.Taken.{taken_keys, how_many}
use Rattle.sd_spec.specs.Plan.{period_of}
use Rattle.sd_spec.proofs.Bodies.{packets_many}
use Rattle.std.specs.List.{list_any}
use Rattle.sd_law_losses.proofs.Endings.{losses_end, losses_take}
use Rattle.sd_law_losses.proofs.WholeEnding.{whole_ends, keys_whole}
use Rattle.sd_law_losses.proofs.AllOpened.{chosen_true, all_are_opened}
use Rattle.sd_law_losses.proofs.Losses.{AreWritten}
use Rattle.sd_law_losses.proofs.AnyLoss.{losses_are_confirmed}
use Rattle.sd_law_losses.proofs.Lawful.{setting, laws_hold, can_be_heard}

-- what is written, and that nothing is refused
alone : (plan : Plan) (clear : List (List ℕ)) (u : ℕ) (flags : List Bool) → IsPlan plan →
    IsSendable plan.site clear → AreWholePackets clear → u < 2 ^ plan.site.height →
    AreWritten (setting plan clear u) [] (chosen flags (broadcast plan clear))
    (confirmed plan (setting plan clear u).card.leaf clear (chosen flags (sent plan clear ++ closing_of plan clear)))
alone plan clear u flags is all whole leaf =
    losses_are_confirmed (setting plan clear u) (laws_hold plan clear u is all whole leaf)
    (can_be_heard plan clear u is all whole) flags

pub confirmed_alone : (plan : Plan) (clear : List (List ℕ)) (u : ℕ) (flags : List Bool) → IsPlan plan →
    IsSendable plan.site clear → AreWholePackets clear → u < 2 ^ plan.site.height →
    out_from (site_card plan.site u) [] (chosen flags (broadcast plan clear))
    ≡ confirmed plan u clear (chosen flags (sent plan clear ++ closing_of plan clear))
unfolding card_of
confirmed_alone plan clear u flags is all whole leaf = (alone plan clear u flags is all whole leaf).out

pub none_refused : (plan : Plan) (clear : List (List ℕ)) (u : ℕ) (flags : List Bool) → IsPlan plan →
    IsSendable plan.site clear → AreWholePackets clear → u < 2 ^ plan.site.height →
    break_from (site_card plan.site u) [] (chosen flags
    (broadcast plan clear)) ≡ None
none_refused plan clear u flags is all whole leaf = (alone plan clear u flags is all whole leaf).none

-- and how it ends
pub ends_as_told : (plan : Plan) (clear : List (List ℕ)) (u : ℕ) (flags : List Bool) → IsPlan plan →
    IsSendable plan.site clear → AreWholePackets clear → u < 2 ^ plan.site.height →
    ending_of (site_card plan.site u) (reverse (chosen flags (broadcast plan clear)))
    ≡ ending_told plan u clear (chosen flags (sent plan clear ++ closing_of plan clear))
unfolding card_of
ends_as_told plan clear u flags is all whole leaf =
    losses_end (setting plan clear u) (laws_hold plan clear u is all whole leaf)
    (can_be_heard plan clear u is all whole) flags

-- a choice of all things
all_flags : ℕ → List Bool
all_flags n = map (λ (j : ℕ). true) (range_with_len 0 n)

all_chosen : {A : Type 0} (xs : List A) (n : ℕ) → length xs ≡ n → chosen (all_flags n) xs ≡ xs
unfolding all_flags
all_chosen xs n long = chosen_true (λ j. true) 0 n xs (λ j low high. refl) (omega (arith, long))

long_broadcast : (plan : Plan) (clear : List (List ℕ)) → length (broadcast plan clear) ≡ length
    (sent plan clear ++ closing_of plan clear)
unfolding broadcast
long_broadcast plan clear = packets_many plan.site [] (sent plan clear ++ closing_of plan clear)

-- of a whole broadcast all that the leaf is entitled to is written
pub whole_opened : (plan : Plan) (clear : List (List ℕ)) (u : ℕ) → IsPlan plan → IsSendable plan.site clear →
    AreWholePackets clear → u < 2 ^ plan.site.height →
    out_from (site_card plan.site u) []
    (broadcast plan clear) ≡ opened_by plan u clear
whole_opened plan clear u is all whole leaf =
    ap (out_from (site_card plan.site u) []) (sym (all_chosen
    (broadcast plan clear) n refl))
    ∙ (confirmed_alone plan clear u (all_flags n) is all whole leaf
    ∙ (ap (confirmed plan u clear) (all_chosen (sent plan clear ++ closing_of plan clear) n (sym
    (long_broadcast plan clear)))
    ∙ all_are_opened plan clear u is all whole leaf))
  where
    n : ℕ
    n = length (broadcast plan clear)

-- and nothing of it is refused
pub whole_refused : (plan : Plan) (clear : List (List ℕ)) (u : ℕ) → IsPlan plan → IsSendable plan.site clear →
    AreWholePackets clear → u < 2 ^ plan.site.height →
    break_from (site_card plan.site u) [] (broadcast plan clear) ≡ None
whole_refused plan clear u is all whole leaf =
    ap (break_from (site_card plan.site u) [])
    (sym (all_chosen (broadcast plan clear) (length (broadcast plan clear)) refl))
    ∙ none_refused plan clear u (all_flags (length (broadcast plan clear))) is all whole leaf

-- and how it ends
pub whole_ended : (plan : Plan) (clear : List (List ℕ)) (u : ℕ) → IsPlan plan → IsSendable plan.site clear →
    AreWholePackets clear → u < 2 ^ plan.site.height →
    ending_of (site_card plan.site u) (reverse (broadcast plan clear))
    ≡ whole_ending (first_revoked plan u clear)
whole_ended plan clear u is all whole leaf =
    ap (λ (packets : List (List ℕ)). ending_of (site_card plan.site u)
    (reverse packets))
    (sym (all_chosen (broadcast plan clear) n refl))
    ∙ (ends_as_told plan clear u (all_flags n) is all whole leaf
    ∙ (ap (ending_told plan u clear) (all_chosen (sent plan clear ++ closing_of plan clear) n (sym
    (long_broadcast plan clear)))
    ∙ whole_ends plan clear u is all whole leaf))
  where
    n : ℕ
    n = length (broadcast plan clear)

-- how many keys are taken
pub keys_taken : (plan : Plan) (clear : List (List ℕ)) (u : ℕ) (flags : List Bool) → IsPlan plan →
    IsSendable plan.site clear → AreWholePackets clear → u < 2 ^ plan.site.height →
    taken_keys (site_card plan.site u) [] (chosen flags (broadcast plan clear))
    ≡ how_many (λ q. list_any (entitles plan.site.height u q) (after_cat (chosen flags
    (sent plan clear ++ closing_of plan clear))))
    (period_of plan (length clear - 1) + 1)
unfolding card_of
keys_taken plan clear u flags is all whole leaf =
    losses_take (setting plan clear u) (laws_hold plan clear u is all whole leaf)
    (can_be_heard plan clear u is all whole) flags

pub whole_keys_taken : (plan : Plan) (clear : List (List ℕ)) (u : ℕ) → IsPlan plan → IsSendable plan.site clear →
    AreWholePackets clear → u < 2 ^ plan.site.height →
    taken_keys (site_card plan.site u) [] (broadcast plan clear)
    ≡ how_many (λ q. is_on_air plan q && not (is_revoked_in plan u q)) (period_of plan (length clear - 1) + 1)
whole_keys_taken plan clear u is all whole leaf =
    ap (taken_keys (site_card plan.site u) []) (sym (all_chosen
    (broadcast plan clear) n refl))
    ∙ (keys_taken plan clear u (all_flags n) is all whole leaf
    ∙ (ap (λ (items : List Item). how_many (λ q. list_any (entitles plan.site.height u q) (after_cat items))
    (period_of plan (length clear - 1) + 1))
    (all_chosen (sent plan clear ++ closing_of plan clear) n (sym (long_broadcast plan clear)))
    ∙ keys_whole plan clear u is all whole leaf))
  where
    n : ℕ
    n = length (broadcast plan clear)
