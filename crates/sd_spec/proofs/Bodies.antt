-- The bytes of a broadcast, packet by packet.
use Rattle.std.proofs.Common.{◌≡◌, refl, ℕ, suc, List, [], ◌∷◌, ◌++◌, length, ap, sym, ◌∙◌}
use Rattle.std.specs.List.{concat}
use Rattle.std.proofs.lemmas.List.Folds.{concat-append}
use Rattle.sd_site_cards.specs.SiteFields.{SiteFields}
use Rattle.sd_spec.specs.Plan.{Plan}
use Rattle.sd_spec.specs.Sent.{Item, added, bytes_added, sent_bytes_from, sent, sent_from, packets_from, body}
use Rattle.sd_spec.specs.Sent.{broadcast, closing_of}
use Rattle.sd_spec.proofs.Sending.{packets_in_turn, sent_more}

pub body_in_turn : (plan : Plan) (before ps : List (List ℕ))
    → concat (packets_from plan.site (sent plan before) (sent_from plan before ps)) ≡ sent_bytes_from plan before ps
unfolding sent_from packets_from sent_bytes_from
body_in_turn plan before [] = refl
body_in_turn plan before (p ∷ ps) =
    ap concat (packets_in_turn plan.site (sent plan before) (added plan before p) (sent_from plan (before
    ++ p ∷ []) ps))
    ∙ (concat-append (packets_from plan.site (sent plan before) (added plan before p))
    (packets_from plan.site (sent plan before ++ added plan before p) (sent_from plan (before ++ p ∷ []) ps))
    ∙ ap (λ (rest : List ℕ). bytes_added plan before p ++ rest)
    (ap (λ earlier. concat (packets_from plan.site earlier (sent_from plan (before ++ p ∷ []) ps)))
    (sym (sent_more plan before p)) ∙ body_in_turn plan (before ++ p ∷ []) ps))

-- so a broadcast's bytes are what its packets add, one after the other
pub body_bytes : (plan : Plan) (clear : List (List ℕ)) → concat (body plan clear) ≡ sent_bytes_from plan [] clear
unfolding body sent_from
body_bytes plan clear = body_in_turn plan [] clear

-- as many packets as things are sent
pub packets_many : (site : SiteFields) (earlier items : List Item) →
    length (packets_from site earlier items) ≡ length items
unfolding packets_from
packets_many site earlier [] = refl
packets_many site earlier (item ∷ items) = ap suc (packets_many site (earlier ++ item ∷ []) items)

-- a broadcast is its body and the closing message
pub closed_bytes : (plan : Plan) (clear : List (List ℕ)) →
    concat (broadcast plan clear) ≡ concat (body plan clear) ++ concat (packets_from plan.site (sent plan clear)
    (closing_of plan clear))
unfolding body broadcast
closed_bytes plan clear =
    ap concat (packets_in_turn plan.site [] (sent plan clear) (closing_of plan clear))
    ∙ concat-append (packets_from plan.site [] (sent plan clear)) (packets_from plan.site (sent plan clear)
    (closing_of plan clear))
