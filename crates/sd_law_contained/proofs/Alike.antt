-- Clear packets that differ only in what the head end doesn't read come to the same positions, kinds and messages.
use Rattle.std.proofs.Common.{◌≡◌, refl, ℕ, zero, suc, ◌==◌, ◌++◌, Bool, true, false, List, [], ◌∷◌, length, map}
use Rattle.std.proofs.Common.{Option, Some, ap, ◌∙◌, arith}
use Rattle.std.specs.Prelude.{if◌then◌else◌, nat_lt, nat_eq, find, reverse, slice_index, get_or, take}
use Rattle.std.specs.List.{list_any}
use Rattle.std.specs.Option.{option_map_or}
use Rattle.std.proofs.lemmas.Bool.{and_parts}
use Rattle.std.proofs.lemmas.Bool.Decides.{nat_tests}
use Rattle.std.proofs.lemmas.List.Elements.{filter_agree}
use Rattle.std.proofs.lemmas.List.{reverse-append}
use Rattle.sd_base.proofs.Bools.{tested}
use Rattle.sd_packet.specs.Header.{pid_of, counter_of, payload_start_of, has_payload}
use Rattle.sd_packet.specs.Positions.{is_moving, is_placed, advanced, moved, moved_by, position_of}
use Rattle.sd_packet.specs.Positions.{first_position}
use Rattle.sd_psi.specs.Tables.{pmt_pids_of}
use Rattle.sd_psi.specs.Forms.{section_in}
use Rattle.sd_message.specs.declared.ecm_part.Place.{Place}
use Rattle.sd_spec.specs.Plan.{Plan}
use Rattle.sd_spec.specs.declared.kind.Kind.TheVariants.{Passed, Pmt, Scrambled}
use Rattle.sd_spec.specs.Kinds.{is_current_pat, pat_in_force, pmts_in, kind_of, has_moved, moved_pids, positional_pids}
use Rattle.sd_spec.specs.Messages.{places_after, message_at}
use Rattle.sd_spec.specs.Carried.{place_after}
use Rattle.sd_law_contained.proofs.Masks.{counter_by}

-- two packets that differ only in what the head end doesn't read
pub record IsAlike (packet other : List ℕ) : Type 0 where
  pub pid : pid_of other ≡ pid_of packet
  pub fourth : slice_index other 3 ≡ slice_index packet 3
  pub start : payload_start_of other ≡ payload_start_of packet
  pub table : pid_of packet ≡ 0 → other ≡ packet

-- the packets of two lists, one by one
abbrev pub AreAlike : List (List ℕ) → List (List ℕ) → Type 0
AreAlike [] [] = Unit {0}
AreAlike [] (other ∷ others) = ⊥
AreAlike (packet ∷ packets) [] = ⊥
AreAlike (packet ∷ packets) (other ∷ others) = IsAlike packet other × AreAlike packets others

pub alike_itself : (packet : List ℕ) → IsAlike packet packet
alike_itself packet = record { pid = refl; fourth = refl; start = refl; table = λ zero. refl }

pub alike_length : (packets others : List (List ℕ)) → AreAlike packets others → length others ≡ length packets
alike_length [] [] are = refl
alike_length [] (other ∷ others) are = absurd are
alike_length (packet ∷ packets) [] are = absurd are
alike_length (packet ∷ packets) (other ∷ others) are = ap suc (alike_length packets others are.1)

pub alike_more : (packets others more rest : List (List ℕ)) → AreAlike packets others → AreAlike more rest →
    AreAlike (packets ++ more) (others ++ rest)
alike_more [] [] more rest are these = these
alike_more [] (other ∷ others) more rest are these = absurd are
alike_more (packet ∷ packets) [] more rest are these = absurd are
alike_more (packet ∷ packets) (other ∷ others) more rest are these =
    (are.0, alike_more packets others more rest are.1 these)

alike_back : (packets others : List (List ℕ)) → AreAlike packets others → AreAlike (reverse packets) (reverse others)
alike_back [] [] are = tt
alike_back [] (other ∷ others) are = absurd are
alike_back (packet ∷ packets) [] are = absurd are
alike_back (packet ∷ packets) (other ∷ others) are =
    rw (reverse-append (packet ∷ []) packets, reverse-append (other ∷ []) others)
    (alike_more (reverse packets) (reverse others) (packet ∷ []) (other ∷ []) (alike_back packets others are.1)
    (are.0, tt))

pub alike_first : (n : ℕ) (packets others : List (List ℕ)) → AreAlike packets others →
    AreAlike (take n packets) (take n others)
alike_first zero packets others are = tt
alike_first (suc n) [] [] are = tt
alike_first (suc n) [] (other ∷ others) are = absurd are
alike_first (suc n) (packet ∷ packets) [] are = absurd are
alike_first (suc n) (packet ∷ packets) (other ∷ others) are = (are.0, alike_first n packets others are.1)

pub alike_at : (n : ℕ) (packets others : List (List ℕ)) → AreAlike packets others →
    IsAlike (get_or packets n []) (get_or others n [])
alike_at n [] [] are = alike_itself []
alike_at n [] (other ∷ others) are = absurd are
alike_at n (packet ∷ packets) [] are = absurd are
alike_at zero (packet ∷ packets) (other ∷ others) are = are.0
alike_at (suc n) (packet ∷ packets) (other ∷ others) are = alike_at n packets others are.1

-- positions
pub same_payload : (packet other : List ℕ) → IsAlike packet other → has_payload other ≡ has_payload packet
same_payload packet other is = ap (λ (start : ℕ). nat_lt start 188) is.start

pub same_placed : (packet other : List ℕ) → IsAlike packet other → is_placed other ≡ is_placed packet
same_placed packet other is = rw (is.pid, same_payload packet other is) refl

same_moving : (pid : ℕ) (packet other : List ℕ) → IsAlike packet other → is_moving pid other ≡ is_moving pid packet
same_moving pid packet other is = rw (is.pid, same_payload packet other is) refl

pub same_moved : (pid position : ℕ) (packet other : List ℕ) → IsAlike packet other →
    moved pid position other ≡ moved pid position packet
same_moved pid position packet other is =
    ap (λ (moves : Bool). if moves then advanced position (counter_of other) else position)
    (same_moving pid packet other is)
    ∙ ap (λ (counter : ℕ). if is_moving pid packet then advanced position counter else position)
    (counter_by other packet is.fourth)

pub same_moved_by : (pid position : ℕ) (packets others : List (List ℕ)) → AreAlike packets others →
    moved_by pid position others ≡ moved_by pid position packets
unfolding moved_by
same_moved_by pid position [] [] are = refl
same_moved_by pid position [] (other ∷ others) are = absurd are
same_moved_by pid position (packet ∷ packets) [] are = absurd are
same_moved_by pid position (packet ∷ packets) (other ∷ others) are =
    ap (λ (p : ℕ). moved_by pid p others) (same_moved pid position packet other are.0)
    ∙ same_moved_by pid (moved pid position packet) packets others are.1

pub same_position : (pid : ℕ) (packets others : List (List ℕ)) → AreAlike packets others →
    position_of pid others ≡ position_of pid packets
same_position pid packets others are = same_moved_by pid first_position packets others are

pub same_place : (before after : List (List ℕ)) (packet other : List ℕ) → AreAlike before after →
    IsAlike packet other → place_after after other ≡ place_after before packet
same_place before after packet other are is =
    same_moved (pid_of other) (position_of (pid_of other) after) packet other is
    ∙ (ap (λ (pid : ℕ). moved pid (position_of pid after) packet) is.pid
    ∙ ap (λ (position : ℕ). moved (pid_of packet) position packet) (same_position (pid_of packet) before after are))

-- places in messages
pub same_has_moved : (pid : ℕ) (packets others : List (List ℕ)) → AreAlike packets others →
    has_moved others pid ≡ has_moved packets pid
same_has_moved pid [] [] are = refl
same_has_moved pid [] (other ∷ others) are = absurd are
same_has_moved pid (packet ∷ packets) [] are = absurd are
same_has_moved pid (packet ∷ packets) (other ∷ others) are =
    rw (same_moving pid packet other are.0, same_has_moved pid packets others are.1) refl

pub same_moved_pids : (packets others : List (List ℕ)) → AreAlike packets others →
    moved_pids others ≡ moved_pids packets
unfolding moved_pids
same_moved_pids packets others are =
    filter_agree (has_moved others) (has_moved packets) (λ pid. same_has_moved pid packets others are) positional_pids

abbrev place_of : List (List ℕ) → ℕ → Place
place_of packets pid = record { pid = pid; position = position_of pid packets }

places_by : (packets others : List (List ℕ)) (pids : List ℕ) → AreAlike packets others →
    map (place_of others) pids ≡ map (place_of packets) pids
places_by packets others [] are = refl
places_by packets others (pid ∷ pids) are =
    ap (λ (position : ℕ). record { pid = pid; position = position } ∷ map (place_of others) pids)
    (same_position pid packets others are)
    ∙ ap (λ (places : List Place). place_of packets pid ∷ places) (places_by packets others pids are)

pub same_places : (packets others : List (List ℕ)) → AreAlike packets others →
    places_after others ≡ places_after packets
unfolding places_after
same_places packets others are =
    places_by packets others (moved_pids others) are
    ∙ ap (map (place_of packets)) (same_moved_pids packets others are)

pub same_message : (plan : Plan) (packets others : List (List ℕ)) (a k : ℕ) (closing : Bool) →
    AreAlike packets others → message_at plan others a k closing ≡ message_at plan packets a k closing
unfolding message_at
same_message plan packets others a k closing are =
    rw (alike_length packets others are, same_places packets others are) refl

-- kinds
same_pat : (packet other : List ℕ) → IsAlike packet other → is_current_pat other ≡ is_current_pat packet
unfolding is_current_pat
same_pat packet other is = tested (pid_of packet == 0)
    (λ here.
    let zero : pid_of packet ≡ 0 = grind (arith, nat_tests, here) in
    ap is_current_pat (is.table zero))
    (λ off. rw (is.pid, off) refl)

found_by : (here : Bool) (packet other : List ℕ) (rest more : Option (List ℕ)) → is_current_pat packet ≡ here →
    IsAlike packet other → more ≡ rest → (if here then Some other else more) ≡ (if here then Some packet else rest)
unfolding is_current_pat
found_by true packet other rest more here is same =
    let pid = (and_parts (pid_of packet == 0) _ here).0 in
    let zero : pid_of packet ≡ 0 = grind (arith, nat_tests, pid) in
    ap {B = Option (List ℕ)} (λ (p : List ℕ). Some p) (is.table zero)
found_by false packet other rest more here is same = same

found_same : (packets others : List (List ℕ)) → AreAlike packets others →
    find is_current_pat others ≡ find is_current_pat packets
found_same [] [] are = refl
found_same [] (other ∷ others) are = absurd are
found_same (packet ∷ packets) [] are = absurd are
found_same (packet ∷ packets) (other ∷ others) are =
    ap {B = Option (List ℕ)} (λ (test : Bool). if test then Some other else find is_current_pat others)
    (same_pat packet other are.0)
    ∙ found_by (is_current_pat packet) packet other (find is_current_pat packets) (find is_current_pat others) refl
    are.0
    (found_same packets others are.1)

same_pmts : (packets others : List (List ℕ)) → AreAlike packets others → pmts_in others ≡ pmts_in packets
unfolding pmts_in pat_in_force
same_pmts packets others are =
    ap (λ (found : Option (List ℕ)). option_map_or (λ (packet : List ℕ). pmt_pids_of (section_in packet)) found [])
    (found_same (reverse packets) (reverse others) (alike_back packets others are))

pub same_kind : (before after : List (List ℕ)) (packet other : List ℕ) → AreAlike before after →
    IsAlike packet other → kind_of after other ≡ kind_of before packet
unfolding kind_of
same_kind before after packet other are is =
    ap (λ (placed : Bool). if placed then (if list_any (nat_eq (pid_of other)) (pmts_in after) then Pmt else Scrambled)
    else Passed) (same_placed packet other is)
    ∙ (ap (λ (pid : ℕ). if is_placed packet then (if list_any (nat_eq pid) (pmts_in after) then Pmt else Scrambled)
    else Passed) is.pid
    ∙ ap (λ (pids : List ℕ). if is_placed packet
    then (if list_any (nat_eq (pid_of packet)) pids then Pmt else Scrambled) else Passed)
    (same_pmts before after are))
