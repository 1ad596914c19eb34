-- How a stream is cut, and what comes of the CAT that stands before each piece.
use Rattle.std.proofs.Common.{◌≡◌, refl, ℕ, ◌+◌, ◌-◌, ◌≤◌, ◌++◌, Bool, true, false, List, [], ◌∷◌, length, Option, Some}
use Rattle.std.proofs.Common.{is_none, ap, ◌∙◌, arith}
use Rattle.std.specs.Prelude.{if◌then◌else◌}
use Rattle.std.specs.Option.{option_map_or}
use Rattle.sd_site_cards.specs.CardFields.{CardFields}
use Rattle.sd_spec.specs.Tuned.{tuning_of}
use Rattle.sd_psi.specs.declared.our_cat.Tuning.{Tuning}
use Rattle.sd_spec.specs.Runs.{name_or, are_two}
use Rattle.sd_spec.specs.Offered.{Offering, no_offering, offered, out_from, break_from}
use Rattle.sd_law_losses.specs.Pieces.{packet_run_name, with_packet, pieces_after}

-- how a list is cut at its first packet
pub pieces_stay : (h : ℕ) (tuning : Tuning) (last next : Option (Option ℕ)) (packet : List ℕ)
    (packets : List (List ℕ)) →
    are_two last (packet_run_name h tuning packet) ≡ false → name_or (packet_run_name h tuning packet) last ≡ next →
    pieces_after h tuning last (packet ∷ packets) ≡ with_packet packet (pieces_after h tuning next packets)
unfolding pieces_after
pieces_stay h tuning last next packet packets one named =
    let these : List (List (List ℕ)) =
    with_packet packet (pieces_after h tuning (name_or (packet_run_name h tuning packet) last) packets) in
    ap (λ (two : Bool). if two then [] ∷ these else these) one
    ∙ ap (λ (name : Option (Option ℕ)). with_packet packet (pieces_after h tuning name packets)) named

pub pieces_turn : (h : ℕ) (tuning : Tuning) (last next : Option (Option ℕ)) (packet : List ℕ)
    (packets : List (List ℕ)) →
    are_two last (packet_run_name h tuning packet) ≡ true → name_or (packet_run_name h tuning packet) last ≡ next →
    pieces_after h tuning last (packet ∷ packets) ≡ [] ∷ with_packet packet (pieces_after h tuning next packets)
unfolding pieces_after
pieces_turn h tuning last next packet packets two named =
    let these : List (List (List ℕ)) =
    with_packet packet (pieces_after h tuning (name_or (packet_run_name h tuning packet) last) packets) in
    ap (λ (two : Bool). if two then [] ∷ these else these) two
    ∙ ap (λ (name : Option (Option ℕ)). [] ∷ with_packet packet (pieces_after h tuning name packets)) named

-- there is always a first piece
abbrev pub IsSome : List (List (List ℕ)) → Type 0
IsSome pieces = (first : List (List ℕ)) × (rest : List (List (List ℕ))) × (pieces ≡ first ∷ rest)

with_some : (packet : List ℕ) (pieces : List (List (List ℕ))) → IsSome (with_packet packet pieces)
with_some packet [] = (packet ∷ [], [], refl)
with_some packet (piece ∷ pieces) = (packet ∷ piece, pieces, refl)

cut_some : (two : Bool) (pieces : List (List (List ℕ))) → IsSome pieces → IsSome (if two then [] ∷ pieces else pieces)
cut_some true pieces some = ([], pieces, refl)
cut_some false pieces some = some

pub some_piece : (h : ℕ) (tuning : Tuning) (last : Option (Option ℕ)) (packets : List (List ℕ)) →
    IsSome (pieces_after h tuning last packets)
unfolding pieces_after
some_piece h tuning last [] = ([], [], refl)
some_piece h tuning last (packet ∷ packets) =
    cut_some (are_two last (packet_run_name h tuning packet))
    (with_packet packet (pieces_after h tuning (name_or (packet_run_name h tuning packet) last) packets))
    (with_some packet (pieces_after h tuning (name_or (packet_run_name h tuning packet) last) packets))

-- nothing comes of the CAT
pub cat_nothing : (card : CardFields) (cat : List ℕ) → offered card [] cat ≡ no_offering
unfolding offered tuning_of
cat_nothing card cat = refl

pub cat_out : (card : CardFields) (cat : List ℕ) (piece : List (List ℕ)) →
    out_from card [] (cat ∷ piece) ≡ out_from card (cat ∷ []) piece
unfolding out_from
cat_out card cat piece =
    ap (λ (o : Offering). o.wrote ++ (if is_none o.fault then out_from card (cat ∷ []) piece else []))
    (cat_nothing card cat)

pub cat_break : (card : CardFields) (cat : List ℕ) (piece : List (List ℕ)) →
    break_from card [] (cat ∷ piece) ≡ break_from card (cat ∷ []) piece
unfolding break_from
cat_break card cat piece =
    ap (λ (o : Offering). option_map_or Some o.fault (break_from card (cat ∷ []) piece)) (cat_nothing card cat)

-- some packet came: the CAT
abbrev pub HasCat : List (List ℕ) → Type 0
HasCat alone = 1 ≤ length alone

-- the number of the last packet that came
pub turn_count : (k n m : ℕ) → n ≡ k + m → 1 ≤ m → n ≡ (k + m - 1) + 1
turn_count k n m is some = omega (arith, is, some)
