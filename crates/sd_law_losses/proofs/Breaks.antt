-- Why a stream is refused is why its pieces are.
use Rattle.std.proofs.Common.{◌≡◌, refl, ℕ, ◌+◌, ◌-◌, true, false, List, [], ◌∷◌, length, Option, Some, None, sym, ap}
use Rattle.std.proofs.Common.{◌∙◌, arith}
use Rattle.std.specs.Prelude.{suc, option_map}
use Rattle.std.specs.Option.{option_map_or}
use Rattle.sd_base.proofs.Bools.{tested}
use Rattle.sd_site_cards.specs.CardFields.{CardFields}
use Rattle.sd_message.specs.declared.stream_fault.StreamFault.{StreamFault}
use Rattle.sd_psi.specs.OurCat.{cat_tuning}
use Rattle.sd_psi.specs.declared.our_cat.Tuning.{Tuning}
use Rattle.sd_spec.specs.Runs.{run_name_in, are_two}
use Rattle.sd_spec.specs.Offered.{heard, Offering, offered, break_from}
use Rattle.sd_law_losses.specs.Pieces.{packet_run_name, with_packet, pieces_after}
use Rattle.sd_law_losses.specs.Together.{fault_later, break_with}
use Rattle.sd_law_losses.proofs.Offerings.{offering_later}
use Rattle.sd_law_losses.proofs.Agreeing.{Agrees, offered_later, agrees_more, turn_offered, turn_agrees}
use Rattle.sd_law_losses.proofs.Agreeing.{name_stays}
use Rattle.sd_law_losses.proofs.Agreeing.{name_turns, turn_is}
use Rattle.sd_law_losses.proofs.Pieces.{pieces_stay, pieces_turn, IsSome, some_piece, cat_break, HasCat, turn_count}

-- why pieces are refused, the first of them from some place of it on
abbrev pub break_going : CardFields → List ℕ → ℕ → List (List ℕ) → List (List (List ℕ)) → Option StreamFault
break_going card cat k alone [] = None
break_going card cat k alone (first ∷ rest) =
    option_map_or (λ (fault : StreamFault). Some (fault_later k fault)) (break_from card alone first)
    (break_with card cat (k + length alone + length first - 1) rest)

refused_first : (k : ℕ) (fault next other : Option StreamFault) →
    option_map_or (λ (f : StreamFault). Some (fault_later k f)) (option_map_or Some fault next) other
    ≡ option_map_or Some (option_map (fault_later k) fault)
    (option_map_or (λ (f : StreamFault). Some (fault_later k f)) next other)
refused_first k None next other = refl
refused_first k (Some fault) next other = refl

break_first : (card : CardFields) (cat packet : List ℕ) (k : ℕ) (alone : List (List ℕ))
    (pieces : List (List (List ℕ))) → IsSome pieces →
    break_going card cat k alone (with_packet packet pieces)
    ≡ option_map_or Some (option_map (fault_later k) (offered card alone packet).fault)
    (break_going card cat k (packet ∷ alone) pieces)
unfolding break_from
break_first card cat packet k alone pieces (first, rest, is) =
    let same : k + length alone + suc (length first) - 1 ≡ k + suc (length alone) + length first - 1 = omega arith in
    ap (λ (these : List (List (List ℕ))). break_going card cat k alone (with_packet packet these)) is
    ∙ (refused_first k (offered card alone packet).fault (break_from card (packet ∷ alone) first)
    (break_with card cat (k + length alone + suc (length first) - 1) rest)
    ∙ (ap (λ (j : ℕ). option_map_or Some (option_map (fault_later k) (offered card alone packet).fault)
    (option_map_or (λ (f : StreamFault). Some (fault_later k f)) (break_from card (packet ∷ alone) first)
    (break_with card cat j rest))) same
    ∙ ap (λ (these : List (List (List ℕ))).
    option_map_or Some (option_map (fault_later k) (offered card alone packet).fault)
    (break_going card cat k (packet ∷ alone) these)) (sym is)))

pub break_begun : (card : CardFields) (cat : List ℕ) (k : ℕ) (pieces : List (List (List ℕ))) →
    break_with card cat k pieces ≡ break_going card cat k (cat ∷ []) pieces
break_begun card cat k [] = refl
break_begun card cat k (first ∷ rest) =
    let same : k + length first ≡ k + 1 + length first - 1 = omega arith in
    ap (λ (fault : Option StreamFault). option_map_or (λ (f : StreamFault). Some (fault_later k f)) fault
    (break_with card cat (k + length first) rest)) (cat_break card cat first)
    ∙ ap (λ (j : ℕ). option_map_or (λ (f : StreamFault). Some (fault_later k f)) (break_from card (cat ∷ []) first)
    (break_with card cat j rest)) same

break_step : (card : CardFields) (cat packet : List ℕ) (k : ℕ) (past alone packets : List (List ℕ))
    (pieces : List (List (List ℕ))) → IsSome pieces →
    offered card past packet ≡ offering_later k (offered card alone packet) →
    break_from card (packet ∷ past) packets ≡ break_going card cat k (packet ∷ alone) pieces →
    break_from card past (packet ∷ packets) ≡ break_going card cat k alone (with_packet packet pieces)
unfolding break_from
break_step card cat packet k past alone packets pieces some same rest =
    ap (λ (o : Offering). option_map_or Some o.fault (break_from card (packet ∷ past) packets)) same
    ∙ (ap (option_map_or Some (option_map (fault_later k) (offered card alone packet).fault)) rest
    ∙ sym (break_first card cat packet k alone pieces some))

-- where a packet is of the run at hand, and where it is the first message of another
break_stays : (card : CardFields) (tuning : Tuning) (cat packet : List ℕ) (packets : List (List ℕ)) (k : ℕ)
    (past alone : List (List ℕ)) → Agrees card tuning k past alone →
    are_two (run_name_in (heard card alone)) (packet_run_name card.height tuning packet) ≡ false →
    break_from card (packet ∷ past) packets
    ≡ break_going card cat k (packet ∷ alone)
    (pieces_after card.height tuning (run_name_in (heard card (packet ∷ alone))) packets) →
    break_from card past (packet ∷ packets)
    ≡ break_going card cat k alone (pieces_after card.height tuning (run_name_in (heard card alone)) (packet ∷ packets))
break_stays card tuning cat packet packets k past alone agrees one rest =
    let next : Option (Option ℕ) = run_name_in (heard card (packet ∷ alone)) in
    break_step card cat packet k past alone packets (pieces_after card.height tuning next packets)
    (some_piece card.height tuning next packets) (offered_later card tuning k past alone packet agrees) rest
    ∙ ap (break_going card cat k alone) (sym (pieces_stay card.height tuning (run_name_in (heard card alone)) next
    packet
    packets one (name_stays card tuning alone packet agrees.alone_tuned one)))

break_turns : (card : CardFields) (tuning : Tuning) (cat packet : List ℕ) (packets : List (List ℕ)) (k : ℕ)
    (past alone : List (List ℕ)) → cat_tuning card.ca cat ≡ Some tuning → HasCat alone →
    Agrees card tuning k past alone →
    are_two (run_name_in (heard card alone)) (packet_run_name card.height tuning packet) ≡ true →
    break_from card (packet ∷ past) packets
    ≡ break_going card cat (k + length alone - 1) (packet ∷ cat ∷ [])
    (pieces_after card.height tuning (run_name_in (heard card (packet ∷ cat ∷ []))) packets) →
    break_from card past (packet ∷ packets)
    ≡ break_going card cat k alone (pieces_after card.height tuning (run_name_in (heard card alone)) (packet ∷ packets))
unfolding break_from
break_turns card tuning cat packet packets k past alone is some agrees two rest =
    let last : Option (Option ℕ) = run_name_in (heard card alone) in
    let next : Option (Option ℕ) = run_name_in (heard card (packet ∷ cat ∷ [])) in
    let j : ℕ = k + length alone - 1 in
    let count : length past ≡ j + 1 = turn_count k (length past) (length alone) agrees.count some in
    let turns = turn_is card tuning k past alone packet agrees ∙ two in
    let begins : j ≡ k + length alone + 0 - 1 = omega arith in
    break_step card cat packet j past (cat ∷ []) packets (pieces_after card.height tuning next packets)
    (some_piece card.height tuning next packets)
    (turn_offered card tuning j past cat packet agrees.tuned is count turns) rest
    ∙ (sym (break_begun card cat j (with_packet packet (pieces_after card.height tuning next packets)))
    ∙ (ap (λ (m : ℕ). break_with card cat m (with_packet packet (pieces_after card.height tuning next packets))) begins
    ∙ ap (break_going card cat k alone) (sym (pieces_turn card.height tuning last next packet packets two
    (name_turns card tuning last cat packet is two)))))

pub break_goes : (card : CardFields) (tuning : Tuning) (cat : List ℕ) (packets : List (List ℕ)) (k : ℕ)
    (past alone : List (List ℕ)) → cat_tuning card.ca cat ≡ Some tuning → HasCat alone →
    Agrees card tuning k past alone →
    break_from card past packets
    ≡ break_going card cat k alone (pieces_after card.height tuning (run_name_in (heard card alone)) packets)
unfolding break_from pieces_after
break_goes card tuning cat [] k past alone is some agrees = refl
break_goes card tuning cat (packet ∷ packets) k past alone is some agrees =
    let j : ℕ = k + length alone - 1 in
    let count : length past ≡ j + 1 = turn_count k (length past) (length alone) agrees.count some in
    tested (are_two (run_name_in (heard card alone)) (packet_run_name card.height tuning packet))
    (λ two. break_turns card tuning cat packet packets k past alone is some agrees two
    (break_goes card tuning cat packets j (packet ∷ past) (packet ∷ cat ∷ []) is (omega arith)
    (turn_agrees card tuning j past cat packet agrees.tuned is count
    (turn_is card tuning k past alone packet agrees ∙ two))))
    (λ one. break_stays card tuning cat packet packets k past alone agrees one
    (break_goes card tuning cat packets k (packet ∷ past) (packet ∷ alone) is (omega (arith, some))
    (agrees_more card tuning k past alone packet agrees)))
