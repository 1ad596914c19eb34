-- What is written of a stream is what is written of its pieces.
use Rattle.std.proofs.Common.{◌≡◌, refl, ℕ, ◌+◌, ◌-◌, ◌++◌, Bool, true, false, List, [], ◌∷◌, length, Option, Some}
use Rattle.std.proofs.Common.{None, is_none, sym, ap, ◌∙◌, arith, append-nil, append_assoc}
use Rattle.std.specs.Prelude.{if◌then◌else◌, option_map}
use Rattle.std.specs.Option.{option_map_or}
use Rattle.sd_base.proofs.Bools.{tested}
use Rattle.sd_site_cards.specs.CardFields.{CardFields}
use Rattle.sd_message.specs.declared.stream_fault.StreamFault.{StreamFault}
use Rattle.sd_psi.specs.OurCat.{cat_tuning}
use Rattle.sd_psi.specs.declared.our_cat.Tuning.{Tuning}
use Rattle.sd_spec.specs.Runs.{run_name_in, are_two}
use Rattle.sd_spec.specs.Offered.{heard, Offering, offered, out_from, break_from}
use Rattle.sd_law_losses.specs.Pieces.{packet_run_name, with_packet, pieces_after}
use Rattle.sd_law_losses.specs.Together.{fault_later, out_with}
use Rattle.sd_law_losses.proofs.Offerings.{offering_later}
use Rattle.sd_law_losses.proofs.Agreeing.{Agrees, offered_later, agrees_more, turn_offered, turn_agrees}
use Rattle.sd_law_losses.proofs.Agreeing.{name_stays}
use Rattle.sd_law_losses.proofs.Agreeing.{name_turns, turn_is}
use Rattle.sd_law_losses.proofs.Pieces.{pieces_stay, pieces_turn, IsSome, some_piece, cat_out, cat_break, HasCat}
use Rattle.sd_law_losses.proofs.Pieces.{turn_count}

-- what is written of pieces, of the first from some place of it on
abbrev pub out_going : CardFields → List ℕ → List (List ℕ) → List (List (List ℕ)) → List (List ℕ)
out_going card cat alone [] = []
out_going card cat alone (first ∷ rest) =
    out_from card alone first ++ (if is_none (break_from card alone first) then out_with card cat rest else [])

glued : (fault next : Option StreamFault) (wrote a b : List (List ℕ)) →
    (wrote ++ (if is_none fault then a else []))
    ++ (if is_none (option_map_or Some fault next) then b else [])
    ≡ wrote ++ (if is_none fault then a ++ (if is_none next then b else []) else [])
glued None next wrote a b = append_assoc wrote a (if is_none next then b else [])
glued (Some fault) next wrote a b = append-nil (wrote ++ [])

out_first : (card : CardFields) (cat packet : List ℕ) (alone : List (List ℕ)) (pieces : List (List (List ℕ))) →
    IsSome pieces →
    out_going card cat alone (with_packet packet pieces)
    ≡ (offered card alone packet).wrote
    ++ (if is_none (offered card alone packet).fault then out_going card cat (packet ∷ alone) pieces else [])
unfolding out_from break_from
out_first card cat packet alone pieces (first, rest, is) =
    ap (λ (these : List (List (List ℕ))). out_going card cat alone (with_packet packet these)) is
    ∙ (glued (offered card alone packet).fault (break_from card (packet ∷ alone) first)
    (offered card alone packet).wrote (out_from card (packet ∷ alone) first) (out_with card cat rest)
    ∙ ap (λ (these : List (List (List ℕ))). (offered card alone packet).wrote
    ++ (if is_none (offered card alone packet).fault then out_going card cat (packet ∷ alone) these else [])) (sym is))

pub out_begun : (card : CardFields) (cat : List ℕ) (pieces : List (List (List ℕ))) →
    out_with card cat pieces ≡ out_going card cat (cat ∷ []) pieces
out_begun card cat [] = refl
out_begun card cat (first ∷ rest) =
    ap (λ (wrote : List (List ℕ)). wrote
    ++ (if is_none (break_from card [] (cat ∷ first)) then out_with card cat rest else [])) (cat_out card cat first)
    ∙ ap (λ (fault : Option StreamFault). out_from card (cat ∷ []) first
    ++ (if is_none fault then out_with card cat rest else [])) (cat_break card cat first)

none_later : (k : ℕ) (fault : Option StreamFault) → is_none (option_map (fault_later k) fault) ≡ is_none fault
none_later k None = refl
none_later k (Some fault) = refl

-- what a packet more writes, where the same is written of it by itself
out_step : (card : CardFields) (cat packet : List ℕ) (k : ℕ) (past alone packets : List (List ℕ))
    (pieces : List (List (List ℕ))) → IsSome pieces →
    offered card past packet ≡ offering_later k (offered card alone packet) →
    out_from card (packet ∷ past) packets ≡ out_going card cat (packet ∷ alone) pieces →
    out_from card past (packet ∷ packets) ≡ out_going card cat alone (with_packet packet pieces)
unfolding out_from
out_step card cat packet k past alone packets pieces some same rest =
    ap (λ (o : Offering). o.wrote ++ (if is_none o.fault then out_from card (packet ∷ past) packets else [])) same
    ∙ (ap (λ (none : Bool). (offered card alone packet).wrote
    ++ (if none then out_from card (packet ∷ past) packets else [])) (none_later k (offered card alone packet).fault)
    ∙ (ap (λ (out : List (List ℕ)). (offered card alone packet).wrote
    ++ (if is_none (offered card alone packet).fault then out else [])) rest
    ∙ sym (out_first card cat packet alone pieces some)))

-- where a packet is of the run at hand, and where it is the first message of another
out_stays : (card : CardFields) (tuning : Tuning) (cat packet : List ℕ) (packets : List (List ℕ)) (k : ℕ)
    (past alone : List (List ℕ)) → Agrees card tuning k past alone →
    are_two (run_name_in (heard card alone)) (packet_run_name card.height tuning packet) ≡ false →
    out_from card (packet ∷ past) packets
    ≡ out_going card cat (packet ∷ alone)
    (pieces_after card.height tuning (run_name_in (heard card (packet ∷ alone))) packets) →
    out_from card past (packet ∷ packets)
    ≡ out_going card cat alone (pieces_after card.height tuning (run_name_in (heard card alone)) (packet ∷ packets))
out_stays card tuning cat packet packets k past alone agrees one rest =
    let next : Option (Option ℕ) = run_name_in (heard card (packet ∷ alone)) in
    out_step card cat packet k past alone packets (pieces_after card.height tuning next packets)
    (some_piece card.height tuning next packets) (offered_later card tuning k past alone packet agrees) rest
    ∙ ap (out_going card cat alone) (sym (pieces_stay card.height tuning (run_name_in (heard card alone)) next packet
    packets one (name_stays card tuning alone packet agrees.alone_tuned one)))

out_turns : (card : CardFields) (tuning : Tuning) (cat packet : List ℕ) (packets : List (List ℕ)) (k : ℕ)
    (past alone : List (List ℕ)) → cat_tuning card.ca cat ≡ Some tuning → HasCat alone →
    Agrees card tuning k past alone →
    are_two (run_name_in (heard card alone)) (packet_run_name card.height tuning packet) ≡ true →
    out_from card (packet ∷ past) packets
    ≡ out_going card cat (packet ∷ cat ∷ [])
    (pieces_after card.height tuning (run_name_in (heard card (packet ∷ cat ∷ []))) packets) →
    out_from card past (packet ∷ packets)
    ≡ out_going card cat alone (pieces_after card.height tuning (run_name_in (heard card alone)) (packet ∷ packets))
unfolding out_from break_from
out_turns card tuning cat packet packets k past alone is some agrees two rest =
    let last : Option (Option ℕ) = run_name_in (heard card alone) in
    let next : Option (Option ℕ) = run_name_in (heard card (packet ∷ cat ∷ [])) in
    let j : ℕ = k + length alone - 1 in
    let count : length past ≡ j + 1 = turn_count k (length past) (length alone) agrees.count some in
    let turns = turn_is card tuning k past alone packet agrees ∙ two in
    out_step card cat packet j past (cat ∷ []) packets (pieces_after card.height tuning next packets)
    (some_piece card.height tuning next packets)
    (turn_offered card tuning j past cat packet agrees.tuned is count turns) rest
    ∙ (sym (out_begun card cat (with_packet packet (pieces_after card.height tuning next packets)))
    ∙ ap (out_going card cat alone) (sym (pieces_turn card.height tuning last next packet packets two
    (name_turns card tuning last cat packet is two))))

pub out_goes : (card : CardFields) (tuning : Tuning) (cat : List ℕ) (packets : List (List ℕ)) (k : ℕ)
    (past alone : List (List ℕ)) → cat_tuning card.ca cat ≡ Some tuning → HasCat alone →
    Agrees card tuning k past alone →
    out_from card past packets
    ≡ out_going card cat alone (pieces_after card.height tuning (run_name_in (heard card alone)) packets)
unfolding out_from break_from pieces_after
out_goes card tuning cat [] k past alone is some agrees = refl
out_goes card tuning cat (packet ∷ packets) k past alone is some agrees =
    let j : ℕ = k + length alone - 1 in
    let count : length past ≡ j + 1 = turn_count k (length past) (length alone) agrees.count some in
    tested (are_two (run_name_in (heard card alone)) (packet_run_name card.height tuning packet))
    (λ two. out_turns card tuning cat packet packets k past alone is some agrees two
    (out_goes card tuning cat packets j (packet ∷ past) (packet ∷ cat ∷ []) is (omega arith)
    (turn_agrees card tuning j past cat packet agrees.tuned is count
    (turn_is card tuning k past alone packet agrees ∙ two))))
    (λ one. out_stays card tuning cat packet packets k past alone agrees one
    (out_goes card tuning cat packets k (packet ∷ past) (packet ∷ alone) is (omega (arith, some))
    (agrees_more card tuning k past alone packet agrees)))
