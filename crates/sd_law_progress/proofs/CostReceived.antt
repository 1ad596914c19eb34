-- What a receiver writes of a broadcast of which one packet is lost.
use Rattle.std.proofs.Common.{◌≡◌, ℕ, ◌+◌}
use Rattle.std.proofs.Common.{List, [], ◌∷◌, ◌++◌, length, drop, arith, sym, ap, ◌∙◌, append_assoc}
use Rattle.std.proofs.Common.{length-append}
use Rattle.std.proofs.lemmas.List.{take_at, drop_at}
use Rattle.sd_site_cards.specs.CardFields.{site_card}
use Rattle.sd_spec.specs.Plan.{Plan}
use Rattle.sd_spec.specs.Offered.{out_from}
use Rattle.sd_spec.specs.Sent.{Item, item_packet, packets_from, broadcast}
use Rattle.sd_spec.proofs.Bodies.{packets_many}
use Rattle.sd_spec.proofs.Sending.{packets_in_turn}
use Rattle.sd_law_losses.specs.Chosen.{chosen}
use Rattle.sd_law_losses.specs.Confirmed.{confirmed}
use Rattle.sd_law_losses.proofs.Theorem.{confirmed_alone}
use Rattle.sd_law_progress.specs.Cost.{IsSentBetween, without}
use Rattle.sd_law_progress.proofs.Given.{IsSentTo}
use Rattle.sd_law_progress.proofs.CostLists.{all_but, chosen_but, chosen_beside}

-- so a receiver writes of the packets but this one what is confirmed of the things but this one
pub received_but : (plan : Plan) (clear : List (List ℕ)) (u : ℕ) (before : List Item) (x : Item) (after : List Item) →
    IsSentTo plan clear u → IsSentBetween plan clear before x after →
    out_from (site_card plan.site u) [] (without (length before)
    (broadcast plan clear)) ≡ confirmed plan u clear (before ++ after)
unfolding broadcast packets_from
received_but plan clear u before x after is lost =
    ap (out_from (site_card plan.site u) []) (sym left_out)
    ∙ (confirmed_alone plan clear u (all_but before after) is.plan is.sendable is.whole is.leaf
    ∙ ap (confirmed plan u clear) (ap (chosen (all_but before after)) lost ∙ chosen_but before x after))
  where
    ps : List (List ℕ)
    ps = packets_from plan.site [] before

    p : List ℕ
    p = item_packet plan.site before x

    qs : List (List ℕ)
    qs = packets_from plan.site (before ++ x ∷ []) after

    all_packets : broadcast plan clear ≡ ps ++ p ∷ qs
    all_packets = ap (packets_from plan.site []) lost ∙ packets_in_turn plan.site [] before (x ∷ after)

    first : length ps ≡ length before
    first = packets_many plan.site [] before

    next : length (ps ++ p ∷ []) ≡ length before + 1
    next = omega (arith, length-append ps (p ∷ []), first)

    left_out : chosen (all_but before after) (broadcast plan clear) ≡ without (length before) (broadcast plan clear)
    left_out =
        ap (chosen (all_but before after)) all_packets
        ∙ (chosen_beside before after ps p qs first (packets_many plan.site (before ++ x ∷ []) after)
        ∙ sym (ap (without (length before)) all_packets
        ∙ (ap (λ (xs : List (List ℕ)). xs ++ drop (length before + 1) (ps ++ p ∷ qs))
        (take_at ps (p ∷ qs) (length before) first)
        ∙ ap (λ (xs : List (List ℕ)). ps ++ xs)
        (ap (drop (length before + 1)) (sym (append_assoc ps (p ∷ []) qs))
        ∙ drop_at (ps ++ p ∷ []) qs (length before + 1) next))))
