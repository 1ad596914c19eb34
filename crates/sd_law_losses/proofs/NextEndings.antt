-- A stream ends as its pieces do, together.
use Rattle.std.proofs.Common.{◌≡◌, refl, ℕ, ◌+◌, ◌-◌, ◌++◌, Bool, true, false, List, [], ◌∷◌, map, length, reverse}
use Rattle.std.proofs.Common.{Option, Some, is_none, sym, ap, ◌∙◌, arith, append_assoc, append-nil}
use Rattle.std.specs.Prelude.{if◌then◌else◌}
use Rattle.std.specs.Option.{option_map_or}
use Rattle.std.proofs.lemmas.List.{reverse-append}
use Rattle.sd_base.proofs.Bools.{tested}
use Rattle.sd_site_cards.specs.CardFields.{CardFields}
use Rattle.sd_spec.specs.declared.ending.Ending.{Ending}
use Rattle.sd_spec.specs.declared.ending.Ending.TheVariants.{Opened, NoCat}
use Rattle.sd_psi.specs.OurCat.{cat_tuning}
use Rattle.sd_psi.specs.declared.our_cat.Tuning.{Tuning}
use Rattle.sd_spec.specs.Tuned.{tuning_of}
use Rattle.sd_spec.specs.Heard.{Heard, hears}
use Rattle.sd_spec.specs.Runs.{run_name_in, are_two, is_turn}
use Rattle.sd_spec.specs.Offered.{heard, Offering, offered}
use Rattle.sd_spec.specs.Ending.{run_ending, endings_joined, turns_at, run_wrote, ended_before, ending_of}
use Rattle.sd_spec.proofs.Runs.{ended_on, ended_now, opened_joins}
use Rattle.sd_law_losses.specs.Pieces.{packet_run_name, with_packet, pieces_after}
use Rattle.sd_law_losses.specs.Together.{joined_to, piece_ending}
use Rattle.sd_law_losses.proofs.NextLater.{things_later}
use Rattle.sd_law_losses.proofs.Offerings.{offering_later, ending_later}
use Rattle.sd_law_losses.proofs.Agreeing.{Agrees, offered_later, agrees_more, cat_tuned, cat_unheard}
use Rattle.sd_law_losses.proofs.Agreeing.{turn_offered}
use Rattle.sd_law_losses.proofs.Agreeing.{turn_agrees, name_stays, name_turns, turn_is, turn_alone}
use Rattle.sd_law_losses.proofs.Pieces.{pieces_stay, pieces_turn, IsSome, some_piece, cat_nothing, HasCat}
use Rattle.sd_law_losses.proofs.Pieces.{turn_count}

-- these packets, the oldest first, put to what came before, the newest first
abbrev pub onto : List (List ℕ) → List (List ℕ) → List (List ℕ)
onto [] past = past
onto (packet ∷ packets) past = onto packets (packet ∷ past)

pub reversed : (packets past : List (List ℕ)) → reverse packets ++ past ≡ onto packets past
reversed [] past = refl
reversed (packet ∷ packets) past =
    ap (λ (ps : List (List ℕ)). ps ++ past) (reverse-append (packet ∷ []) packets)
    ∙ (append_assoc (reverse packets) (packet ∷ []) past ∙ reversed packets (packet ∷ past))

-- The runs before are none, and of the run at hand so many packets were written as by itself.
pub record EndsAlike (card : CardFields) (past alone : List (List ℕ)) : Type 0 where
  pub none : ended_before card alone ≡ Opened
  pub wrote : run_wrote card past ≡ run_wrote card alone

pub ending_by : (card : CardFields) (tuning : Tuning) (past : List (List ℕ)) → tuning_of card.ca past ≡ Some tuning →
    ending_of card past ≡ endings_joined (ended_before card past) (run_ending card (heard card past)
    (run_wrote card past))
unfolding ending_of
ending_by card tuning past tuned =
    ap (λ (t : Option Tuning). if is_none t then NoCat
    else endings_joined (ended_before card past) (run_ending card (heard card past) (run_wrote card past))) tuned

-- the run at hand ends as it does by itself
run_alone : (card : CardFields) (tuning : Tuning) (k : ℕ) (past alone : List (List ℕ)) →
    Agrees card tuning k past alone → EndsAlike card past alone →
    run_ending card (heard card past) (run_wrote card past) ≡ ending_of card alone
run_alone card tuning k past alone agrees alike =
    ap (λ (hs : List Heard). run_ending card hs (run_wrote card past)) agrees.heard_is
    ∙ (ap (run_ending card (things_later k (heard card alone))) alike.wrote
    ∙ (ending_later k (run_wrote card alone) card (heard card alone)
    ∙ sym (ending_by card tuning alone agrees.alone_tuned
    ∙ (ap (λ (e : Ending). endings_joined e (run_ending card (heard card alone) (run_wrote card alone))) alike.none
    ∙ opened_joins (run_ending card (heard card alone) (run_wrote card alone))))))

pub turns_by : (card : CardFields) (tuning : Tuning) (past : List (List ℕ)) (packet : List ℕ) →
    tuning_of card.ca past ≡ Some tuning →
    turns_at card past packet ≡ is_turn (heard card past) (hears card.height tuning (length past) packet)
unfolding turns_at
turns_by card tuning past packet tuned =
    ap (λ (t : Option Tuning). option_map_or
    (λ (it : Tuning). is_turn (heard card past) (hears card.height it (length past) packet)) t false) tuned

-- a packet of the run at hand
pub wrote_on : (card : CardFields) (past : List (List ℕ)) (packet : List ℕ) → turns_at card past packet ≡ false →
    run_wrote card (packet ∷ past) ≡ run_wrote card past + length (offered card past packet).wrote
unfolding run_wrote
wrote_on card past packet stays =
    ap (λ (t : Bool). (if t then 0 else run_wrote card past) + length (offered card past packet).wrote) stays

alike_more : (card : CardFields) (tuning : Tuning) (k : ℕ) (past alone : List (List ℕ)) (packet : List ℕ) →
    Agrees card tuning k past alone → EndsAlike card past alone → turns_at card past packet ≡ false →
    turns_at card alone packet ≡ false → EndsAlike card (packet ∷ past) (packet ∷ alone)
alike_more card tuning k past alone packet agrees alike stays stays_alone = record {
  none = ended_on card alone packet stays_alone ∙ alike.none;
  wrote = wrote_on card past packet stays
      ∙ (ap (λ (n : ℕ). n + length (offered card past packet).wrote) alike.wrote
      ∙ (ap {B = ℕ} (λ (o : Offering). run_wrote card alone + length o.wrote)
      (offered_later card tuning k past alone packet agrees)
      ∙ sym (wrote_on card alone packet stays_alone)));
}

-- the first message of another run
pub wrote_anew : (card : CardFields) (past : List (List ℕ)) (packet : List ℕ) → turns_at card past packet ≡ true →
    run_wrote card (packet ∷ past) ≡ 0 + length (offered card past packet).wrote
unfolding run_wrote
wrote_anew card past packet turns =
    ap (λ (t : Bool). (if t then 0 else run_wrote card past) + length (offered card past packet).wrote) turns

-- the CAT alone
pub cat_alike : (card : CardFields) (cat : List ℕ) →
    (ended_before card (cat ∷ []) ≡ Opened) × (run_wrote card (cat ∷ []) ≡ 0)
unfolding ended_before run_wrote turns_at tuning_of
cat_alike card cat = (refl, ap {B = ℕ} (λ (o : Offering). 0 + length o.wrote) (cat_nothing card cat))

never_first : (thing : Heard) → is_turn [] thing ≡ false
unfolding is_turn run_name_in
never_first thing = refl

cat_stays : (card : CardFields) (tuning : Tuning) (cat packet : List ℕ) → cat_tuning card.ca cat ≡ Some tuning →
    turns_at card (cat ∷ []) packet ≡ false
cat_stays card tuning cat packet is =
    turns_by card tuning (cat ∷ []) packet (cat_tuned card tuning cat is)
    ∙ (ap (λ (hs : List Heard). is_turn hs (hears card.height tuning 1 packet)) (cat_unheard card cat)
    ∙ never_first (hears card.height tuning 1 packet))

turn_alike : (card : CardFields) (tuning : Tuning) (k : ℕ) (past : List (List ℕ)) (cat packet : List ℕ) →
    cat_tuning card.ca cat ≡ Some tuning → turns_at card past packet ≡ true →
    offered card past packet ≡ offering_later k (offered card (cat ∷ []) packet) →
    EndsAlike card (packet ∷ past) (packet ∷ cat ∷ [])
turn_alike card tuning k past cat packet is turns same =
    let stays = cat_stays card tuning cat packet is in
    record {
      none = ended_on card (cat ∷ []) packet stays ∙ (cat_alike card cat).0;
      wrote = wrote_anew card past packet turns
          ∙ (ap {B = ℕ} (λ (o : Offering). 0 + length o.wrote) same
          ∙ sym (wrote_on card (cat ∷ []) packet stays
          ∙ ap (λ (n : ℕ). n + length (offered card (cat ∷ []) packet).wrote) (cat_alike card cat).1));
    }

-- how pieces end after earlier ones, the first of them from some place of it on
abbrev pub ending_going : CardFields → List ℕ → Ending → List (List ℕ) → List (List (List ℕ)) → Ending
ending_going card cat earlier alone [] = earlier
ending_going card cat earlier alone (first ∷ rest) =
    joined_to (endings_joined earlier (ending_of card (onto first alone))) (map (piece_ending card cat) rest)

ending_first : (card : CardFields) (cat packet : List ℕ) (earlier : Ending) (alone : List (List ℕ))
    (pieces : List (List (List ℕ))) → IsSome pieces →
    ending_going card cat earlier alone (with_packet packet pieces)
    ≡ ending_going card cat earlier (packet ∷ alone) pieces
ending_first card cat packet earlier alone pieces (first, rest, is) =
    ap (λ (these : List (List (List ℕ))). ending_going card cat earlier alone (with_packet packet these)) is
    ∙ ap (ending_going card cat earlier (packet ∷ alone)) (sym is)

piece_ends : (card : CardFields) (cat : List ℕ) (piece : List (List ℕ)) →
    piece_ending card cat piece ≡ ending_of card (onto piece (cat ∷ []))
piece_ends card cat piece =
    ap (ending_of card) (sym (append-nil (reverse (cat ∷ piece))) ∙ reversed (cat ∷ piece) [])

pub ending_begun : (card : CardFields) (cat : List ℕ) (earlier : Ending) (pieces : List (List (List ℕ))) →
    joined_to earlier (map (piece_ending card cat) pieces) ≡ ending_going card cat earlier (cat ∷ []) pieces
ending_begun card cat earlier [] = refl
ending_begun card cat earlier (first ∷ rest) =
    ap (λ (e : Ending). joined_to (endings_joined earlier e) (map (piece_ending card cat) rest))
    (piece_ends card cat first)

-- where a packet is of the run at hand, and where it is the first message of another
ending_stays : (card : CardFields) (tuning : Tuning) (cat packet : List ℕ) (packets : List (List ℕ)) (k : ℕ)
    (past alone : List (List ℕ)) → Agrees card tuning k past alone → turns_at card past packet ≡ false →
    are_two (run_name_in (heard card alone)) (packet_run_name card.height tuning packet) ≡ false →
    ending_of card (onto packets (packet ∷ past))
    ≡ ending_going card cat (ended_before card (packet ∷ past)) (packet ∷ alone)
    (pieces_after card.height tuning (run_name_in (heard card (packet ∷ alone))) packets) →
    ending_of card (onto (packet ∷ packets) past)
    ≡ ending_going card cat (ended_before card past) alone
    (pieces_after card.height tuning (run_name_in (heard card alone)) (packet ∷ packets))
ending_stays card tuning cat packet packets k past alone agrees stays one rest =
    let next : Option (Option ℕ) = run_name_in (heard card (packet ∷ alone)) in
    let pieces : List (List (List ℕ)) = pieces_after card.height tuning next packets in
    rest
    ∙ (ap (λ (e : Ending). ending_going card cat e (packet ∷ alone) pieces) (ended_on card past packet stays)
    ∙ (sym (ending_first card cat packet (ended_before card past) alone pieces
    (some_piece card.height tuning next packets))
    ∙ ap (ending_going card cat (ended_before card past) alone) (sym (pieces_stay card.height tuning
    (run_name_in (heard card alone)) next packet packets one
    (name_stays card tuning alone packet agrees.alone_tuned one)))))

ending_turns : (card : CardFields) (tuning : Tuning) (cat packet : List ℕ) (packets : List (List ℕ)) (k : ℕ)
    (past alone : List (List ℕ)) → cat_tuning card.ca cat ≡ Some tuning → Agrees card tuning k past alone →
    EndsAlike card past alone → turns_at card past packet ≡ true →
    are_two (run_name_in (heard card alone)) (packet_run_name card.height tuning packet) ≡ true →
    ending_of card (onto packets (packet ∷ past))
    ≡ ending_going card cat (ended_before card (packet ∷ past)) (packet ∷ cat ∷ [])
    (pieces_after card.height tuning (run_name_in (heard card (packet ∷ cat ∷ []))) packets) →
    ending_of card (onto (packet ∷ packets) past)
    ≡ ending_going card cat (ended_before card past) alone
    (pieces_after card.height tuning (run_name_in (heard card alone)) (packet ∷ packets))
ending_turns card tuning cat packet packets k past alone is agrees alike turns two rest =
    let last : Option (Option ℕ) = run_name_in (heard card alone) in
    let next : Option (Option ℕ) = run_name_in (heard card (packet ∷ cat ∷ [])) in
    let pieces : List (List (List ℕ)) = pieces_after card.height tuning next packets in
    let before : Ending = endings_joined (ended_before card past) (ending_of card alone) in
    rest
    ∙ (ap (λ (e : Ending). ending_going card cat e (packet ∷ cat ∷ []) pieces) (ended_now card past packet turns
    ∙ ap (endings_joined (ended_before card past)) (run_alone card tuning k past alone agrees alike))
    ∙ (sym (ending_first card cat packet before (cat ∷ []) pieces (some_piece card.height tuning next packets))
    ∙ (sym (ending_begun card cat before (with_packet packet pieces))
    ∙ ap (ending_going card cat (ended_before card past) alone) (sym (pieces_turn card.height tuning last next packet
    packets two (name_turns card tuning last cat packet is two))))))

pub ending_goes : (card : CardFields) (tuning : Tuning) (cat : List ℕ) (packets : List (List ℕ)) (k : ℕ)
    (past alone : List (List ℕ)) → cat_tuning card.ca cat ≡ Some tuning → HasCat alone →
    Agrees card tuning k past alone → EndsAlike card past alone →
    ending_of card (onto packets past)
    ≡ ending_going card cat (ended_before card past) alone
    (pieces_after card.height tuning (run_name_in (heard card alone)) packets)
unfolding pieces_after
ending_goes card tuning cat [] k past alone is some agrees alike =
    ending_by card tuning past agrees.tuned
    ∙ ap (endings_joined (ended_before card past)) (run_alone card tuning k past alone agrees alike)
ending_goes card tuning cat (packet ∷ packets) k past alone is some agrees alike =
    let j : ℕ = k + length alone - 1 in
    let count : length past ≡ j + 1 = turn_count k (length past) (length alone) agrees.count some in
    let here = turn_is card tuning k past alone packet agrees in
    let turns_here = turns_by card tuning past packet agrees.tuned ∙ here in
    tested (are_two (run_name_in (heard card alone)) (packet_run_name card.height tuning packet))
    (λ two. ending_turns card tuning cat packet packets k past alone is agrees alike (turns_here ∙ two) two
    (ending_goes card tuning cat packets j (packet ∷ past) (packet ∷ cat ∷ []) is (omega arith)
    (turn_agrees card tuning j past cat packet agrees.tuned is count (here ∙ two))
    (turn_alike card tuning j past cat packet is (turns_here ∙ two)
    (turn_offered card tuning j past cat packet agrees.tuned is count (here ∙ two)))))
    (λ one. ending_stays card tuning cat packet packets k past alone agrees (turns_here ∙ one) one
    (ending_goes card tuning cat packets k (packet ∷ past) (packet ∷ alone) is (omega (arith, some))
    (agrees_more card tuning k past alone packet agrees)
    (alike_more card tuning k past alone packet agrees alike (turns_here ∙ one)
    (turns_by card tuning alone packet agrees.alone_tuned
    ∙ (turn_alone card tuning alone packet ∙ one)))))
