-- What is sent for packets that come one after the other.
use Rattle.std.proofs.Common.{◌≡◌, ℕ, List, [], ◌∷◌, ◌++◌, ap, sym, ◌∙◌, append_assoc, append-nil}
use Rattle.sd_spec.specs.Plan.{Plan}
use Rattle.sd_site_cards.specs.SiteFields.{SiteFields}
use Rattle.sd_spec.specs.Sent.{Item, added, sent, sent_from, item_packet, packets_from}

pub sent_in_turn : (plan : Plan) (before xs ys : List (List ℕ))
    → sent_from plan before (xs ++ ys) ≡ sent_from plan before xs ++ sent_from plan (before ++ xs) ys
unfolding sent_from
sent_in_turn plan before [] ys = ap (λ (b : List (List ℕ)). sent_from plan b ys) (sym (append-nil before))
sent_in_turn plan before (x ∷ xs) ys =
    ap (λ (rest : List Item). added plan before x ++ rest) (sent_in_turn plan (before ++ x ∷ []) xs ys
    ∙ ap (λ (b : List (List ℕ)). sent_from plan (before ++ x ∷ []) xs
    ++ sent_from plan b ys) (append_assoc before (x ∷ []) xs))
    ∙ sym (append_assoc (added plan before x) (sent_from plan (before ++ x ∷ []) xs) (sent_from plan (before
    ++ (x ∷ xs)) ys))

-- and so are their packets
pub packets_in_turn : (site : SiteFields) (earlier xs ys : List Item)
    → packets_from site earlier (xs ++ ys) ≡ packets_from site earlier xs ++ packets_from site (earlier ++ xs) ys
unfolding packets_from
packets_in_turn site earlier [] ys = ap (λ (b : List Item). packets_from site b ys) (sym (append-nil earlier))
packets_in_turn site earlier (x ∷ xs) ys =
    ap (λ (rest : List (List ℕ)). item_packet site earlier x ∷ rest) (packets_in_turn site (earlier ++ x ∷ []) xs ys
    ∙ ap (λ (b : List Item). packets_from site (earlier ++ x ∷ []) xs
    ++ packets_from site b ys) (append_assoc earlier (x ∷ []) xs))

-- one packet more
pub sent_more : (plan : Plan) (before : List (List ℕ)) (p : List ℕ) → sent plan (before ++ p ∷ []) ≡ sent plan before
    ++ added plan before p
unfolding sent_from
sent_more plan before p = sent_in_turn plan [] before (p ∷ [])
    ∙ ap (λ (rest : List Item). sent_from plan [] before ++ rest) (append-nil (added plan before p))
