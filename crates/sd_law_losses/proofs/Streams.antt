-- What comes of any stream is what comes of its pieces.
use Rattle.std.proofs.Common.{◌≡◌, refl, ℕ, suc, ◌++◌, false, List, [], ◌∷◌, map, length, reverse, Option, Some, None}
use Rattle.std.proofs.Common.{is_none, sym, ap, ◌∙◌, arith, append-nil}
use Rattle.std.specs.Prelude.{if◌then◌else◌}
use Rattle.std.specs.Option.{option_map_or}
use Rattle.sd_site_cards.specs.CardFields.{CardFields}
use Rattle.sd_spec.specs.declared.ending.Ending.{Ending}
use Rattle.sd_spec.specs.declared.ending.Ending.TheVariants.{Opened, NoCat}
use Rattle.sd_spec.specs.Tuned.{tuned_by, tuning_of}
use Rattle.sd_psi.specs.OurCat.{cat_tuning}
use Rattle.sd_psi.specs.declared.our_cat.Tuning.{Tuning}
use Rattle.sd_spec.specs.Runs.{run_name_in}
use Rattle.sd_spec.specs.Offered.{heard, heard_with, Offering, no_offering, offered, tuned_offering, out_from}
use Rattle.sd_spec.specs.Offered.{break_from}
use Rattle.sd_spec.specs.Ending.{turns_at, run_wrote, ended_before, ending_of}
use Rattle.sd_law_losses.specs.Pieces.{Tuned, tuned_or, first_cat, pieces_after, pieces_of}
use Rattle.sd_law_losses.specs.Together.{out_with, break_with, joined_to, piece_ending, written_out, run_break_of}
use Rattle.sd_law_losses.specs.Together.{run_end_of}
use Rattle.sd_law_losses.proofs.NextLater.{things_later}
use Rattle.sd_law_losses.proofs.Agreeing.{Agrees, cat_tuned, cat_unheard}
use Rattle.sd_law_losses.proofs.Outs.{out_begun, out_goes}
use Rattle.sd_law_losses.proofs.Breaks.{break_begun, break_goes}
use Rattle.sd_law_losses.proofs.NextEndings.{onto, reversed, cat_alike, ending_going, ending_begun, ending_goes}

-- No CAT for the system came.
pub record IsUntuned (card : CardFields) (past : List (List ℕ)) : Type 0 where
  pub tuned : tuning_of card.ca past ≡ None
  pub heard_is : heard card past ≡ []
  pub ended : ended_before card past ≡ Opened
  pub wrote : run_wrote card past ≡ 0

pub offered_none : (card : CardFields) (past : List (List ℕ)) (packet : List ℕ) → IsUntuned card past →
    offered card past packet ≡ no_offering
unfolding offered
offered_none card past packet none =
    ap (λ (t : Option Tuning). tuned_offering card t (length past) (heard card past) packet) none.tuned

pub tuned_next : (card : CardFields) (past : List (List ℕ)) (packet : List ℕ) (tuning : Option Tuning) →
    IsUntuned card past → cat_tuning card.ca packet ≡ tuning → tuning_of card.ca (packet ∷ past) ≡ tuning
unfolding tuning_of
tuned_next card past packet tuning none is =
    ap (λ (t : Option Tuning). tuned_by t (cat_tuning card.ca packet)) none.tuned ∙ is

pub heard_none : (card : CardFields) (past : List (List ℕ)) (packet : List ℕ) → IsUntuned card past →
    heard card (packet ∷ past) ≡ []
unfolding heard
heard_none card past packet none =
    ap (λ (t : Option Tuning). heard_with card t (length past) packet (heard card past)) none.tuned ∙ none.heard_is

never_turns : (card : CardFields) (past : List (List ℕ)) (packet : List ℕ) → IsUntuned card past →
    turns_at card past packet ≡ false
unfolding turns_at
never_turns card past packet none = rw none.tuned refl

pub ended_none : (card : CardFields) (past : List (List ℕ)) (packet : List ℕ) → IsUntuned card past →
    ended_before card (packet ∷ past) ≡ Opened
unfolding ended_before
ended_none card past packet none = rw (never_turns card past packet none) none.ended

pub wrote_none : (card : CardFields) (past : List (List ℕ)) (packet : List ℕ) → IsUntuned card past →
    run_wrote card (packet ∷ past) ≡ 0
unfolding run_wrote
wrote_none card past packet none =
    rw (never_turns card past packet none, offered_none card past packet none) (omega (arith, none.wrote))

pub untuned_more : (card : CardFields) (past : List (List ℕ)) (packet : List ℕ) → IsUntuned card past →
    cat_tuning card.ca packet ≡ None → IsUntuned card (packet ∷ past)
untuned_more card past packet none is = record {
  tuned = tuned_next card past packet None none is;
  heard_is = heard_none card past packet none;
  ended = ended_none card past packet none;
  wrote = wrote_none card past packet none;
}

-- the CAT itself
pub cat_agrees : (card : CardFields) (tuning : Tuning) (n : ℕ) (past : List (List ℕ)) (cat : List ℕ) →
    IsUntuned card past → length past ≡ n → cat_tuning card.ca cat ≡ Some tuning →
    Agrees card tuning n (cat ∷ past) (cat ∷ [])
cat_agrees card tuning n past cat none count is = record {
  tuned = tuned_next card past cat (Some tuning) none is;
  alone_tuned = cat_tuned card tuning cat is;
  count = omega (arith, count);
  heard_is = heard_none card past cat none ∙ ap (things_later n) (sym (cat_unheard card cat));
}

pub no_name : (card : CardFields) (cat : List ℕ) → run_name_in (heard card (cat ∷ [])) ≡ None
unfolding run_name_in
no_name card cat = ap run_name_in (cat_unheard card cat)

-- what is written
out_next : (card : CardFields) (past packets : List (List ℕ)) (packet : List ℕ) → IsUntuned card past →
    out_from card past (packet ∷ packets) ≡ out_from card (packet ∷ past) packets
unfolding out_from
out_next card past packets packet none =
    ap (λ (o : Offering). o.wrote ++ (if is_none o.fault then out_from card (packet ∷ past) packets else []))
    (offered_none card past packet none)

out_upto : (card : CardFields) (packets past : List (List ℕ)) (n : ℕ) → IsUntuned card past → length past ≡ n →
    out_from card past packets
    ≡ option_map_or (λ (t : Tuned). out_with card t.cat (pieces_of card.height t)) (first_cat card.ca n packets) []
unfolding out_from first_cat
out_upto card [] past n none count = refl
out_upto card (packet ∷ packets) past n none count =
    out_next card past packets packet none ∙ by_cat (cat_tuning card.ca packet) refl
    (λ is. out_upto card packets (packet ∷ past) (suc n) (untuned_more card past packet none is) (omega (arith, count)))
  where
    by_cat : (tuning : Option Tuning) → cat_tuning card.ca packet ≡ tuning →
        (cat_tuning card.ca packet ≡ None → out_from card (packet ∷ past) packets
        ≡ option_map_or (λ (t : Tuned). out_with card t.cat (pieces_of card.height t))
        (first_cat card.ca (suc n) packets) []) →
        out_from card (packet ∷ past) packets
        ≡ option_map_or (λ (t : Tuned). out_with card t.cat (pieces_of card.height t))
        (tuned_or tuning n packet packets (first_cat card.ca (suc n) packets)) []
    by_cat None is rest = rest is
    by_cat (Some tuning) is rest =
        out_goes card tuning packet packets n (packet ∷ past) (packet ∷ []) is (omega arith)
        (cat_agrees card tuning n past packet none count is)
        ∙ (sym (out_begun card packet (pieces_after card.height tuning (run_name_in (heard card (packet ∷ [])))
        packets))
        ∙ ap (λ (name : Option (Option ℕ)). out_with card packet (pieces_after card.height tuning name packets))
        (no_name card packet))

-- why it is refused
break_next : (card : CardFields) (past packets : List (List ℕ)) (packet : List ℕ) → IsUntuned card past →
    break_from card past (packet ∷ packets) ≡ break_from card (packet ∷ past) packets
unfolding break_from
break_next card past packets packet none =
    ap (λ (o : Offering). option_map_or Some o.fault (break_from card (packet ∷ past) packets))
    (offered_none card past packet none)

break_upto : (card : CardFields) (packets past : List (List ℕ)) (n : ℕ) → IsUntuned card past → length past ≡ n →
    break_from card past packets
    ≡ option_map_or (λ (t : Tuned). break_with card t.cat t.number (pieces_of card.height t))
    (first_cat card.ca n packets) None
unfolding break_from first_cat
break_upto card [] past n none count = refl
break_upto card (packet ∷ packets) past n none count =
    break_next card past packets packet none ∙ by_cat (cat_tuning card.ca packet) refl
    (λ is. break_upto card packets (packet ∷ past) (suc n) (untuned_more card past packet none is)
    (omega (arith, count)))
  where
    by_cat : (tuning : Option Tuning) → cat_tuning card.ca packet ≡ tuning →
        (cat_tuning card.ca packet ≡ None → break_from card (packet ∷ past) packets
        ≡ option_map_or (λ (t : Tuned). break_with card t.cat t.number (pieces_of card.height t))
        (first_cat card.ca (suc n) packets) None) →
        break_from card (packet ∷ past) packets
        ≡ option_map_or (λ (t : Tuned). break_with card t.cat t.number (pieces_of card.height t))
        (tuned_or tuning n packet packets (first_cat card.ca (suc n) packets)) None
    by_cat None is rest = rest is
    by_cat (Some tuning) is rest =
        break_goes card tuning packet packets n (packet ∷ past) (packet ∷ []) is (omega arith)
        (cat_agrees card tuning n past packet none count is)
        ∙ (sym (break_begun card packet n
        (pieces_after card.height tuning (run_name_in (heard card (packet ∷ []))) packets))
        ∙ ap (λ (name : Option (Option ℕ)). break_with card packet n (pieces_after card.height tuning name packets))
        (no_name card packet))

-- how it ends
pub ending_none : (card : CardFields) (past : List (List ℕ)) → IsUntuned card past → ending_of card past ≡ NoCat
unfolding ending_of
ending_none card past none = rw none.tuned refl

end_upto : (card : CardFields) (packets past : List (List ℕ)) (n : ℕ) → IsUntuned card past → length past ≡ n →
    ending_of card (onto packets past)
    ≡ option_map_or (λ (t : Tuned). joined_to Opened (map (piece_ending card t.cat) (pieces_of card.height t)))
    (first_cat card.ca n packets) NoCat
unfolding first_cat
end_upto card [] past n none count = ending_none card past none
end_upto card (packet ∷ packets) past n none count =
    by_cat (cat_tuning card.ca packet) refl
    (λ is. end_upto card packets (packet ∷ past) (suc n) (untuned_more card past packet none is) (omega (arith, count)))
  where
    by_cat : (tuning : Option Tuning) → cat_tuning card.ca packet ≡ tuning →
        (cat_tuning card.ca packet ≡ None → ending_of card (onto packets (packet ∷ past))
        ≡ option_map_or (λ (t : Tuned). joined_to Opened (map (piece_ending card t.cat) (pieces_of card.height t)))
        (first_cat card.ca (suc n) packets) NoCat) →
        ending_of card (onto packets (packet ∷ past))
        ≡ option_map_or (λ (t : Tuned). joined_to Opened (map (piece_ending card t.cat) (pieces_of card.height t)))
        (tuned_or tuning n packet packets (first_cat card.ca (suc n) packets)) NoCat
    by_cat None is rest = rest is
    by_cat (Some tuning) is rest =
        ending_goes card tuning packet packets n (packet ∷ past) (packet ∷ []) is (omega arith)
        (cat_agrees card tuning n past packet none count is)
        (record {
          none = (cat_alike card packet).0;
          wrote = wrote_none card past packet none ∙ sym (cat_alike card packet).1;
        })
        ∙ (ap (λ (e : Ending). ending_going card packet e (packet ∷ [])
        (pieces_after card.height tuning (run_name_in (heard card (packet ∷ []))) packets))
        (ended_none card past packet none)
        ∙ (sym (ending_begun card packet Opened
        (pieces_after card.height tuning (run_name_in (heard card (packet ∷ []))) packets))
        ∙ ap (λ (name : Option (Option ℕ)).
        joined_to Opened (map (piece_ending card packet) (pieces_after card.height tuning name packets)))
        (no_name card packet)))

pub nothing_came : (card : CardFields) → IsUntuned card []
unfolding tuning_of heard ended_before run_wrote
nothing_came card = record { tuned = refl; heard_is = refl; ended = refl; wrote = refl }

pub out_is : (card : CardFields) (packets : List (List ℕ)) → out_from card [] packets ≡ written_out card packets
unfolding written_out
out_is card packets = out_upto card packets [] 0 (nothing_came card) refl

pub break_is : (card : CardFields) (packets : List (List ℕ)) → break_from card [] packets ≡ run_break_of card packets
unfolding run_break_of
break_is card packets = break_upto card packets [] 0 (nothing_came card) refl

pub end_is : (card : CardFields) (packets : List (List ℕ)) → ending_of card (reverse packets) ≡ run_end_of card packets
unfolding run_end_of
end_is card packets =
    ap (ending_of card) (sym (append-nil (reverse packets)) ∙ reversed packets [])
    ∙ end_upto card packets [] 0 (nothing_came card) refl
