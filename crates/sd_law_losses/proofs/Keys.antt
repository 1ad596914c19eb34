-- The packets of a stream that take a key are those of its pieces that do.
use Rattle.std.proofs.Common.{◌≡◌, refl, ℕ, suc, ◌+◌, ◌-◌, Bool, true, false, List, [], ◌∷◌, length, Option, Some, None}
use Rattle.std.proofs.Common.{sym, ap, ◌∙◌, arith}
use Rattle.std.specs.Prelude.{if◌then◌else◌}
use Rattle.std.specs.Option.{option_map_or}
use Rattle.sd_base.proofs.Bools.{tested}
use Rattle.sd_site_cards.specs.CardFields.{CardFields}
use Rattle.sd_spec.specs.Tuned.{tuning_of}
use Rattle.sd_psi.specs.OurCat.{cat_tuning}
use Rattle.sd_psi.specs.declared.our_cat.Tuning.{Tuning}
use Rattle.sd_spec.specs.Runs.{run_name_in, are_two}
use Rattle.sd_spec.specs.Offered.{heard}
use Rattle.sd_spec.specs.Taken.{takes_key_at, taken_keys}
use Rattle.sd_law_losses.specs.Pieces.{Tuned, packet_run_name, with_packet, tuned_or, first_cat, pieces_after}
use Rattle.sd_law_losses.specs.Pieces.{pieces_of}
use Rattle.sd_law_losses.specs.Keys.{taken_with, count_keys_taken}
use Rattle.sd_law_losses.proofs.Agreeing.{Agrees, agrees_more, turn_agrees, name_stays, name_turns, turn_is}
use Rattle.sd_law_losses.proofs.Pieces.{pieces_stay, pieces_turn, IsSome, some_piece, HasCat, turn_count}
use Rattle.sd_law_losses.proofs.Streams.{IsUntuned, untuned_more, cat_agrees, no_name, nothing_came}
use Rattle.sd_law_losses.proofs.NextTaking.{untuned_takes, agrees_taken, turn_taken}

-- the number of keys that pieces take, of the first from some place of it on
abbrev pub taken_going : CardFields → List ℕ → List (List ℕ) → List (List (List ℕ)) → ℕ
taken_going card cat alone [] = 0
taken_going card cat alone (first ∷ rest) = taken_keys card alone first + taken_with card cat rest

-- a packet that takes no key
pub takes_none : (card : CardFields) (past packets : List (List ℕ)) (packet : List ℕ) →
    takes_key_at card past packet ≡ false →
    taken_keys card past (packet ∷ packets) ≡ taken_keys card (packet ∷ past) packets
unfolding taken_keys
takes_none card past packets packet none =
    let n : ℕ = taken_keys card (packet ∷ past) packets in
    let zero_more : 0 + n ≡ n = omega arith in
    ap (λ (takes : Bool). (if takes then 1 else 0) + n) none ∙ zero_more

-- before all packets no CAT was taken
nothing_tuned : (card : CardFields) → tuning_of card.ca [] ≡ None
unfolding tuning_of
nothing_tuned card = refl

-- the CAT takes no key
pub cat_taken : (card : CardFields) (cat : List ℕ) (piece : List (List ℕ)) →
    taken_keys card [] (cat ∷ piece) ≡ taken_keys card (cat ∷ []) piece
cat_taken card cat piece = takes_none card [] piece cat (untuned_takes card [] cat (nothing_tuned card))

-- a piece is gone through from the CAT on
taken_begun : (card : CardFields) (cat : List ℕ) (pieces : List (List (List ℕ))) →
    taken_with card cat pieces ≡ taken_going card cat (cat ∷ []) pieces
taken_begun card cat [] = refl
taken_begun card cat (first ∷ rest) =
    ap (λ (n : ℕ). n + taken_with card cat rest) (cat_taken card cat first)

-- the keys of a first piece with one packet more before it
taken_first : (card : CardFields) (cat packet : List ℕ) (alone : List (List ℕ)) (pieces : List (List (List ℕ))) →
    IsSome pieces →
    taken_going card cat alone (with_packet packet pieces)
    ≡ (if takes_key_at card alone packet then 1 else 0) + taken_going card cat (packet ∷ alone) pieces
unfolding taken_keys
taken_first card cat packet alone pieces (first, rest, is) =
    let one : ℕ = if takes_key_at card alone packet then 1 else 0 in
    let a : ℕ = taken_keys card (packet ∷ alone) first in
    let b : ℕ = taken_with card cat rest in
    let grouped : (one + a) + b ≡ one + (a + b) = omega arith in
    ap (λ (these : List (List (List ℕ))). taken_going card cat alone (with_packet packet these)) is
    ∙ (grouped ∙ ap (λ (these : List (List (List ℕ))). one + taken_going card cat (packet ∷ alone) these) (sym is))

-- one packet more that takes a key if it does so by itself
taken_step : (card : CardFields) (cat packet : List ℕ) (past alone packets : List (List ℕ))
    (pieces : List (List (List ℕ))) → IsSome pieces →
    takes_key_at card past packet ≡ takes_key_at card alone packet →
    taken_keys card (packet ∷ past) packets ≡ taken_going card cat (packet ∷ alone) pieces →
    taken_keys card past (packet ∷ packets) ≡ taken_going card cat alone (with_packet packet pieces)
unfolding taken_keys
taken_step card cat packet past alone packets pieces some same rest =
    ap (λ (takes : Bool). (if takes then 1 else 0) + taken_keys card (packet ∷ past) packets) same
    ∙ (ap (λ (n : ℕ). (if takes_key_at card alone packet then 1 else 0) + n) rest
    ∙ sym (taken_first card cat packet alone pieces some))

-- a packet of the run at hand is of the same piece
taken_stays : (card : CardFields) (tuning : Tuning) (cat packet : List ℕ) (packets : List (List ℕ)) (k : ℕ)
    (past alone : List (List ℕ)) → Agrees card tuning k past alone →
    are_two (run_name_in (heard card alone)) (packet_run_name card.height tuning packet) ≡ false →
    taken_keys card (packet ∷ past) packets
    ≡ taken_going card cat (packet ∷ alone)
    (pieces_after card.height tuning (run_name_in (heard card (packet ∷ alone))) packets) →
    taken_keys card past (packet ∷ packets)
    ≡ taken_going card cat alone (pieces_after card.height tuning (run_name_in (heard card alone)) (packet ∷ packets))
taken_stays card tuning cat packet packets k past alone agrees one rest =
    let next : Option (Option ℕ) = run_name_in (heard card (packet ∷ alone)) in
    taken_step card cat packet past alone packets (pieces_after card.height tuning next packets)
    (some_piece card.height tuning next packets) (agrees_taken card tuning k past alone packet agrees) rest
    ∙ ap (taken_going card cat alone) (sym (pieces_stay card.height tuning (run_name_in (heard card alone)) next packet
    packets one (name_stays card tuning alone packet agrees.alone_tuned one)))

-- the first message of another run begins a piece
taken_turns : (card : CardFields) (tuning : Tuning) (cat packet : List ℕ) (packets : List (List ℕ)) (k : ℕ)
    (past alone : List (List ℕ)) → cat_tuning card.ca cat ≡ Some tuning → HasCat alone →
    Agrees card tuning k past alone →
    are_two (run_name_in (heard card alone)) (packet_run_name card.height tuning packet) ≡ true →
    taken_keys card (packet ∷ past) packets
    ≡ taken_going card cat (packet ∷ cat ∷ [])
    (pieces_after card.height tuning (run_name_in (heard card (packet ∷ cat ∷ []))) packets) →
    taken_keys card past (packet ∷ packets)
    ≡ taken_going card cat alone (pieces_after card.height tuning (run_name_in (heard card alone)) (packet ∷ packets))
unfolding taken_keys
taken_turns card tuning cat packet packets k past alone is some agrees two rest =
    let last : Option (Option ℕ) = run_name_in (heard card alone) in
    let next : Option (Option ℕ) = run_name_in (heard card (packet ∷ cat ∷ [])) in
    let these : List (List (List ℕ)) = with_packet packet (pieces_after card.height tuning next packets) in
    let j : ℕ = k + length alone - 1 in
    let count : length past ≡ j + 1 = turn_count k (length past) (length alone) agrees.count some in
    let turns = turn_is card tuning k past alone packet agrees ∙ two in
    let zero_more : taken_with card cat these ≡ 0 + taken_with card cat these = omega arith in
    taken_step card cat packet past (cat ∷ []) packets (pieces_after card.height tuning next packets)
    (some_piece card.height tuning next packets)
    (turn_taken card tuning j past cat packet agrees.tuned is count turns) rest
    ∙ (sym (taken_begun card cat these) ∙ (zero_more
    ∙ ap (taken_going card cat alone) (sym (pieces_turn card.height tuning last next packet packets two
    (name_turns card tuning last cat packet is two)))))

-- the keys of packets behind the CAT are those of their pieces
taken_goes : (card : CardFields) (tuning : Tuning) (cat : List ℕ) (packets : List (List ℕ)) (k : ℕ)
    (past alone : List (List ℕ)) → cat_tuning card.ca cat ≡ Some tuning → HasCat alone →
    Agrees card tuning k past alone →
    taken_keys card past packets
    ≡ taken_going card cat alone (pieces_after card.height tuning (run_name_in (heard card alone)) packets)
unfolding taken_keys pieces_after
taken_goes card tuning cat [] k past alone is some agrees = refl
taken_goes card tuning cat (packet ∷ packets) k past alone is some agrees =
    let j : ℕ = k + length alone - 1 in
    let count : length past ≡ j + 1 = turn_count k (length past) (length alone) agrees.count some in
    tested (are_two (run_name_in (heard card alone)) (packet_run_name card.height tuning packet))
    (λ two. taken_turns card tuning cat packet packets k past alone is some agrees two
    (taken_goes card tuning cat packets j (packet ∷ past) (packet ∷ cat ∷ []) is (omega arith)
    (turn_agrees card tuning j past cat packet agrees.tuned is count
    (turn_is card tuning k past alone packet agrees ∙ two))))
    (λ one. taken_stays card tuning cat packet packets k past alone agrees one
    (taken_goes card tuning cat packets k (packet ∷ past) (packet ∷ alone) is (omega (arith, some))
    (agrees_more card tuning k past alone packet agrees)))

-- before the CAT no packet takes a key
taken_upto : (card : CardFields) (packets past : List (List ℕ)) (n : ℕ) → IsUntuned card past → length past ≡ n →
    taken_keys card past packets
    ≡ option_map_or (λ (t : Tuned). taken_with card t.cat (pieces_of card.height t)) (first_cat card.ca n packets) 0
unfolding taken_keys first_cat
taken_upto card [] past n none count = refl
taken_upto card (packet ∷ packets) past n none count =
    takes_none card past packets packet (untuned_takes card past packet none.tuned)
    ∙ by_cat (cat_tuning card.ca packet) refl
    (λ is. taken_upto card packets (packet ∷ past) (suc n) (untuned_more card past packet none is)
    (omega (arith, count)))
  where
    by_cat : (tuning : Option Tuning) → cat_tuning card.ca packet ≡ tuning →
        (cat_tuning card.ca packet ≡ None → taken_keys card (packet ∷ past) packets
        ≡ option_map_or (λ (t : Tuned). taken_with card t.cat (pieces_of card.height t))
        (first_cat card.ca (suc n) packets) 0) →
        taken_keys card (packet ∷ past) packets
        ≡ option_map_or (λ (t : Tuned). taken_with card t.cat (pieces_of card.height t))
        (tuned_or tuning n packet packets (first_cat card.ca (suc n) packets)) 0
    by_cat None is rest = rest is
    by_cat (Some tuning) is rest =
        taken_goes card tuning packet packets n (packet ∷ past) (packet ∷ []) is (omega arith)
        (cat_agrees card tuning n past packet none count is)
        ∙ (sym (taken_begun card packet
        (pieces_after card.height tuning (run_name_in (heard card (packet ∷ []))) packets))
        ∙ ap (λ (name : Option (Option ℕ)). taken_with card packet (pieces_after card.height tuning name packets))
        (no_name card packet))

-- the keys of a stream are those of its pieces
pub taken_is : (card : CardFields) (packets : List (List ℕ)) →
    taken_keys card [] packets ≡ count_keys_taken card packets
unfolding count_keys_taken
taken_is card packets = taken_upto card packets [] 0 (nothing_came card) refl
