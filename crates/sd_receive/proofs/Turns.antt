-- What is written and refused of packets, of one packet more, and what is heard of it.
use Rattle.std.proofs.Common.{◌≡◌, ℕ, ◌++◌, List, [], ◌∷◌, length, append_assoc, refl, sym, ap, ◌∙◌, true}
use Rattle.std.proofs.Common.{false, ◌+◌}
use Rattle.std.specs.Prelude.{Option, Some, None, reverse, is_none, if◌then◌else◌}
use Rattle.std.specs.Option.{option_map_or, option_or}
use Rattle.std.proofs.lemmas.Bool.{false≢true}
use Rattle.sd_base.proofs.Bools.{tested}
use Rattle.sd_base.proofs.Lists.{reversed, last_out, first_none, rest_none}
use Rattle.sd_site_cards.specs.CardFields.{CardFields}
use Rattle.sd_message.specs.declared.stream_fault.StreamFault.{StreamFault}
use Rattle.sd_spec.specs.Tuned.{tuning_of}
use Rattle.sd_psi.specs.declared.our_cat.Tuning.{Tuning}
use Rattle.sd_spec.specs.Heard.{Heard, hears}
use Rattle.sd_spec.specs.Stretches.{is_closed}
use Rattle.sd_spec.specs.Runs.{run_name_heard, name_or, run_name_in, are_two, is_turn, of_run}
use Rattle.sd_spec.specs.Offered.{no_offering, heard, offered, heard_offering, out_from, break_from}
use Rattle.sd_spec.specs.Ending.{turns_at, run_wrote}
use Rattle.sd_spec.proofs.Runs.{same_run}

option_same : (fault : Option StreamFault) → option_map_or Some fault None ≡ fault
option_same None = refl
option_same (Some f) = refl

-- what one packet more writes, and why it is refused
pub out_more : (card : CardFields) (past packets : List (List ℕ)) (packet : List ℕ) →
    break_from card past packets ≡ None →
    out_from card past (packets ++ packet ∷ []) ≡ out_from card past packets ++
    (offered card (reverse packets ++ past) packet).wrote
unfolding out_from break_from
out_more card past [] packet none = last_out (offered card past packet).wrote (is_none (offered card past packet).fault)
out_more card past (first ∷ packets) packet none =
    let here = first_none (offered card past first).fault (break_from card (first ∷ past) packets) none in
    let there = out_more card (first ∷ past) packets packet (rest_none (offered card past first).fault
    (break_from card (first ∷ past) packets) none) in
    rw (here, there)
    (ap (λ (before : List (List ℕ)). (offered card past first).wrote ++
    (out_from card (first ∷ past) packets ++ (offered card before packet).wrote))
    (sym (reversed first packets past))
    ∙ sym (append_assoc (offered card past first).wrote (out_from card (first ∷ past) packets)
    (offered card (reverse (first ∷ packets) ++ past) packet).wrote))

pub break_more : (card : CardFields) (past packets : List (List ℕ)) (packet : List ℕ) →
    break_from card past packets ≡ None →
    break_from card past (packets ++ packet ∷ []) ≡ (offered card (reverse packets ++ past) packet).fault
unfolding break_from
break_more card past [] packet none = option_same (offered card past packet).fault
break_more card past (first ∷ packets) packet none =
    let here = first_none (offered card past first).fault (break_from card (first ∷ past) packets) none in
    let there = break_more card (first ∷ past) packets packet
    (rest_none (offered card past first).fault (break_from card (first ∷ past) packets) none) in
    rw here (there ∙ ap (λ (before : List (List ℕ)). (offered card before packet).fault)
    (sym (reversed first packets past)))

-- a packet before the CAT
pub not_tuned : (card : CardFields) (past : List (List ℕ)) (packet : List ℕ) → tuning_of card.ca past ≡ None →
    (offered card past packet ≡ no_offering) × (heard card (packet ∷ past) ≡ heard card past)
unfolding offered heard
not_tuned card past packet none = (rw none refl, rw none refl)

-- a packet after the closing message of its run
pub was_closed : (card : CardFields) (past : List (List ℕ)) (packet : List ℕ) (tuning : Tuning) →
    tuning_of card.ca past ≡ Some tuning →
    is_closed (of_run (heard card past) (hears card.height tuning (length past) packet)) ≡ true →
    (offered card past packet ≡ no_offering) × (heard card (packet ∷ past) ≡ heard card past)
unfolding offered heard
was_closed card past packet tuning is closed = (rw (is, closed) refl, rw (is, closed) refl)

-- a packet before it
pub was_heard : (card : CardFields) (past : List (List ℕ)) (packet : List ℕ) (tuning : Tuning) →
    tuning_of card.ca past ≡ Some tuning →
    is_closed (of_run (heard card past) (hears card.height tuning (length past) packet)) ≡ false →
    (offered card past packet ≡ heard_offering card tuning (length past)
    (of_run (heard card past) (hears card.height tuning (length past) packet))
    (hears card.height tuning (length past) packet))
    × (heard card (packet ∷ past) ≡ hears card.height tuning (length past) packet
    ∷ of_run (heard card past) (hears card.height tuning (length past) packet))
unfolding offered heard
was_heard card past packet tuning is unclosed = (rw (is, unclosed) refl, rw (is, unclosed) refl)

-- whether a packet ends the run at hand
pub turns_is : (card : CardFields) (past : List (List ℕ)) (packet : List ℕ) (tuning : Tuning) →
    tuning_of card.ca past ≡ Some tuning →
    turns_at card past packet ≡ is_turn (heard card past) (hears card.height tuning (length past) packet)
unfolding turns_at
turns_is card past packet tuning is = rw is refl

or_same : (a b : Option (Option ℕ)) → option_or a b ≡ name_or a b
or_same None b = refl
or_same (Some a) b = refl

or_any : (before a b c : Option (Option ℕ)) → are_two before a ≡ true → name_or a b ≡ name_or a c
or_any before (Some a) b c two = refl
or_any None None b c two = absurd (false≢true two)
or_any (Some n) None b c two = absurd (false≢true two)

-- the name of the run at hand, once a thing is heard
pub name_now : (past : List Heard) (thing : Heard) (name : Option (Option ℕ)) → name ≡ run_name_heard thing →
    option_or name (run_name_in past) ≡ run_name_in (thing ∷ of_run past thing)
unfolding run_name_in is_turn
name_now past thing name is =
    or_same name (run_name_in past) ∙ (ap (λ (n : Option (Option ℕ)). name_or n (run_name_in past)) is
    ∙ tested (is_turn past thing)
    (λ turns. or_any (run_name_in past) (run_name_heard thing) (run_name_in past) (run_name_in (of_run past thing))
    turns)
    (λ stays. ap (λ (p : List Heard). name_or (run_name_heard thing) (run_name_in p))
    (sym (same_run past thing stays))))

-- how many packets were written of the run that is at hand with a packet, before it
abbrev pub wrote_before : CardFields → List (List ℕ) → List ℕ → ℕ
wrote_before card past packet = if turns_at card past packet then 0 else run_wrote card past

pub wrote_now : (card : CardFields) (past : List (List ℕ)) (packet : List ℕ) →
    run_wrote card (packet ∷ past) ≡ wrote_before card past packet + length (offered card past packet).wrote
unfolding run_wrote
wrote_now card past packet = refl
