-- Positions and PIDs after one packet more.
use Rattle.std.proofs.Common.{◌≡◌, ◌≢◌, ℕ, zero, suc, ◌+◌, ◌*◌, ◌<◌, ◌≤◌, ◌==◌, ◌&&◌, Bool, true, false, not}
use Rattle.std.proofs.Common.{List, [], ◌∷◌, ◌++◌}
use Rattle.std.proofs.Common.{◌⊎◌, nat_lt, length, get_or, set, refl, sym, ap, subst}
use Rattle.std.proofs.Common.{◌∙◌, inl, inr, arith}
use Rattle.std.specs.Prelude.{unwrap_or, Option, Some, None, IfSome}
use Rattle.std.specs.List.{insert, position, position_or_len}
use Rattle.std.proofs.lemmas.Bool.{cases_eq, ne_eqb}
use Rattle.std.proofs.lemmas.Bool.Decides.{nat_tests}
use Rattle.std.proofs.lemmas.List.{get_or-set_same, get_or-set_other}
use Rattle.sd_packet.specs.Header.{pid_of, counter_of, has_payload}
use Rattle.sd_packet.specs.Positions.{advanced, is_positional, is_placed, is_moving, moved, position_of}
use Rattle.sd_packet.proofs.Positions.{advanced_is_next, counter_below, one_more, own_moves, positional_small}
use Rattle.sd_spec.specs.Kinds.{has_moved, moved_pids, put_in}
use Rattle.sd_spec.proofs.Following.{moved_first, moved_again, moved_unplaced}
use Rattle.sd_head.specs.Known.{ArePids, AreReachablePositions}
use Rattle.sd_head.specs.After.{ArePositions}
use Rattle.sd_head.specs.Follows.{IsMove, IsMoveOf}
use Rattle.sd_head.specs.declared.judged.Move.{Move}
use Rattle.sd_head.proofs.ClearKinds.{first_told, placed_pid}

-- a PID in its place among known ones
pub known_more : (pid : ℕ) (pids : List ℕ) → pid < 8192 → ArePids pids → ArePids (put_in pid pids)
known_more pid [] small known = record { at = one }
  where
    one : (i : ℕ) → get_or (pid ∷ []) i 0 < 8192
    one zero = small
    one (suc i) = omega arith
known_more pid (m ∷ ms) small known =
    by_test (nat_lt pid m) refl (known_more pid ms small (record { at = λ i. known.at (suc i) }))
  where
    after : (i : ℕ) → get_or (pid ∷ m ∷ ms) i 0 < 8192
    after zero = small
    after (suc i) = known.at i

    further : ArePids (put_in pid ms) → (i : ℕ) → get_or (m ∷ put_in pid ms) i 0 < 8192
    further rest zero = known.at 0
    further rest (suc i) = rest.at i

    by_test : (b : Bool) → nat_lt pid m ≡ b → ArePids (put_in pid ms) → ArePids (put_in pid (m ∷ ms))
    by_test true is rest = rw is (record { at = after })
    by_test false is rest = rw is (record { at = further rest })

-- the position of a PID after a packet that doesn't move it, and after one that does
stays_after : (before : List (List ℕ)) (packet : List ℕ) (pid : ℕ) → is_moving pid packet ≡ false →
    position_of pid (before ++ packet ∷ []) ≡ position_of pid before
stays_after before packet pid none = one_more pid 15 before packet ∙ rw none refl

moves_after : (before : List (List ℕ)) (packet : List ℕ) (pid : ℕ) → is_moving pid packet ≡ true →
    position_of pid (before ++ packet ∷ []) ≡ advanced (position_of pid before) (counter_of packet)
moves_after before packet pid is = one_more pid 15 before packet ∙ rw is refl

-- a packet without a position moves no PID that has positions
unplaced_moves_none : (packet : List ℕ) (pid : ℕ) → is_placed packet ≡ false → is_positional pid ≡ true →
    is_moving pid packet ≡ false
unplaced_moves_none packet pid unplaced positional = elim (cases_eq (pid_of packet) pid) [
  | inl same ↦
      let own : is_positional (pid_of packet)
      ≡ true = subst (λ (p : ℕ). is_positional p ≡ true) (sym same) positional in
      let none : has_payload packet ≡ false = rw own at unplaced in
      rw none (and_false (pid_of packet == pid))
  | inr apart ↦ rw (ne_eqb (pid_of packet) pid apart) refl
]
  where
    and_false : (a : Bool) → (a && false) ≡ false
    and_false true = refl
    and_false false = refl

other_stays : (packet : List ℕ) (pid : ℕ) → pid ≢ pid_of packet → is_moving pid packet ≡ false
other_stays packet pid apart = rw (ne_eqb (pid_of packet) pid (λ e. apart (sym e))) refl

pub positions_unmoved : (before : List (List ℕ)) (packet positions : List ℕ) → is_placed packet ≡ false
    → ArePositions before positions → ArePositions (before ++ packet ∷ []) positions
positions_unmoved before packet positions unplaced are = record {
  at = λ pid positional. are.at pid positional
      ∙ sym (stays_after before packet pid (unplaced_moves_none packet pid unplaced positional));
}

pub positions_moved : (before : List (List ℕ)) (packet positions : List ℕ) → is_placed packet ≡ true
    → pid_of packet < length positions → ArePositions before positions
    → ArePositions (before ++ packet ∷ [])
    (set positions (pid_of packet) (advanced (get_or positions (pid_of packet) 0) (counter_of packet)))
positions_moved before packet positions placed small are = record {
  at = λ pid positional. by_place pid positional
      (cases_eq pid (pid_of packet));
}
  where
    by_place : (pid : ℕ) → is_positional pid ≡ true → (pid ≡ pid_of packet) ⊎ (pid ≢ pid_of packet) →
        get_or (set positions (pid_of packet)
        (advanced (get_or positions (pid_of packet) 0) (counter_of packet))) pid 0
        ≡ position_of pid (before ++ packet ∷ [])
    by_place pid positional (inl same) =
        subst (λ (p : ℕ). get_or (set positions (pid_of packet)
        (advanced (get_or positions (pid_of packet) 0) (counter_of packet))) p 0
        ≡ position_of p (before ++ packet ∷ [])) (sym same)
        (get_or-set_same positions (pid_of packet)
        (advanced (get_or positions (pid_of packet) 0) (counter_of packet)) 0 small
        ∙ (ap (λ (x : ℕ). advanced x (counter_of packet)) (are.at (pid_of packet) (placed_pid packet placed))
        ∙ sym (moves_after before packet (pid_of packet) (own_moves packet placed))))
    by_place pid positional (inr apart) =
        get_or-set_other positions (pid_of packet) pid
        (advanced (get_or positions (pid_of packet) 0) (counter_of packet)) 0 apart
        ∙ (are.at pid positional ∙ sym (stays_after before packet pid (other_stays packet pid apart)))

-- the positions after a move
pub positions_after : (before : List (List ℕ)) (packet positions : List ℕ) (i : ℕ) (next : Move)
    → IsMove positions packet next → length positions ≡ 8192 → i ≡ next.pid → ArePositions before positions
    → ArePositions (before ++ packet ∷ []) (set positions i next.position)
positions_after before packet positions i next makes long is are =
    let small = positional_small (pid_of packet) (placed_pid packet makes.placed) in
    subst (λ (p : ℕ). ArePositions (before ++ packet ∷ []) (set positions p next.position)) (sym (is ∙ makes.pid))
    (subst (λ (y : ℕ). ArePositions (before ++ packet ∷ []) (set positions (pid_of packet) y)) (sym makes.position)
    (positions_moved before packet positions makes.placed (omega (arith, small, long)) are))

-- a move comes no further than one packet more can, and its PID is one
pub near_after : (count : ℕ) (packet positions : List ℕ) (next : Move) → IsMove positions packet next
    → AreReachablePositions count positions → next.position ≤ 15 + 16 * (count + 1)
near_after count packet positions next makes near =
    let rises = advanced_is_next (get_or positions (pid_of packet) 0) (counter_of packet) (counter_below packet) in
    omega (arith, rises.near, near.at (pid_of packet), makes.position)

pub near_if_moved : (count : ℕ) (packet positions : List ℕ) (next : Option Move) → IsMoveOf positions packet next
    → AreReachablePositions count positions → IfSome next (λ move. move.position ≤ 15 + 16 * (count + 1))
near_if_moved count packet positions None makes near = tt
near_if_moved count packet positions (Some next) makes near = near_after count packet positions next makes near

pub small_if_moved : (packet positions : List ℕ) (next : Option Move) → IsMoveOf positions packet next
    → IfSome next (λ move. move.pid < 8192)
small_if_moved packet positions None makes = tt
small_if_moved packet positions (Some next) makes =
    subst (λ (p : ℕ). p < 8192) (sym makes.pid) (positional_small (pid_of packet) (placed_pid packet makes.placed))

-- the PIDs that have moved after a move
pub pids_first : (before : List (List ℕ)) (packet positions pids : List ℕ) (next : Move)
    → IsMove positions packet next → next.is_first ≡ true → ArePositions before positions → pids ≡ moved_pids before
    → put_in next.pid pids ≡ moved_pids (before ++ packet ∷ [])
pids_first before packet positions pids next makes first are moved =
    ap (λ (pid : ℕ). put_in pid pids) makes.pid
    ∙ (ap (put_in (pid_of packet)) moved
    ∙ sym (moved_first before packet makes.placed (negated (has_moved before (pid_of packet))
    (sym (first_told before packet positions next makes are) ∙ first))))
  where
    negated : (b : Bool) → not b ≡ true → b ≡ false
    negated true h = sym h
    negated false h = refl

pub pids_again : (before : List (List ℕ)) (packet positions pids : List ℕ) (next : Move)
    → IsMove positions packet next → next.is_first ≡ false → ArePositions before positions → pids ≡ moved_pids before
    → pids ≡ moved_pids (before ++ packet ∷ [])
pids_again before packet positions pids next makes later are moved =
    moved ∙ sym (moved_again before packet (negated (has_moved before (pid_of packet))
    (sym (first_told before packet positions next makes are) ∙ later)))
  where
    negated : (b : Bool) → not b ≡ false → b ≡ true
    negated true h = refl
    negated false h = sym h

pub pids_unmoved : (before : List (List ℕ)) (packet pids : List ℕ) → is_placed packet ≡ false
    → pids ≡ moved_pids before
    → pids ≡ moved_pids (before ++ packet ∷ [])
pids_unmoved before packet pids unplaced moved = moved ∙ sym (moved_unplaced before packet unplaced)

-- a PID inserted before the first that is above it
inserted_is : (pid : ℕ) (pids : List ℕ)
    → insert pids (position_or_len (λ other. nat_lt pid other) pids) pid ≡ put_in pid pids
inserted_is pid [] = refl
inserted_is pid (m ∷ ms) = by_test (nat_lt pid m) refl (inserted_is pid ms)
  where
    by_test : (b : Bool) → nat_lt pid m ≡ b
        → insert ms (position_or_len (λ other. nat_lt pid other) ms) pid ≡ put_in pid ms
        → insert (m ∷ ms) (position_or_len (λ other. nat_lt pid other) (m ∷ ms)) pid ≡ put_in pid (m ∷ ms)
    by_test true is rest = rw is refl
    by_test false is rest =
        let later : 1 + position_or_len (λ other. nat_lt pid other) ms
        ≡ suc (position_or_len (λ other. nat_lt pid other) ms) = omega arith in
        rw is (rw later (ap (λ (xs : List ℕ). m ∷ xs) rest))

place_fits : (pid : ℕ) (pids : List ℕ) → position_or_len (λ other. nat_lt pid other) pids ≤ length pids
place_fits pid [] = omega arith
place_fits pid (m ∷ ms) = by_test (nat_lt pid m) refl (place_fits pid ms)
  where
    by_test : (b : Bool) → nat_lt pid m ≡ b → position_or_len (λ other. nat_lt pid other) ms ≤ length ms
        → position_or_len (λ other. nat_lt pid other) (m ∷ ms) ≤ length (m ∷ ms)
    by_test true is rest = rw is (omega arith)
    by_test false is rest = rw is (omega (arith, rest))

place_is : (pid : ℕ) (pids : List ℕ) →
    unwrap_or (position (λ other. nat_lt pid other) pids) (length pids)
    ≡ position_or_len (λ other. nat_lt pid other) pids
place_is pid pids = by_test (nat_lt (position_or_len (λ other. nat_lt pid other) pids) (length pids)) refl
  where
    by_test : (b : Bool) → nat_lt (position_or_len (λ other. nat_lt pid other) pids) (length pids) ≡ b →
        unwrap_or (position (λ other. nat_lt pid other) pids) (length pids)
        ≡ position_or_len (λ other. nat_lt pid other) pids
    by_test true is = rw is refl
    by_test false is =
        let fits = place_fits pid pids in
        rw is (grind (arith, nat_tests, is, fits))

pub put_at_place : (pid place : ℕ) (pids : List ℕ) →
    place ≡ unwrap_or (position (λ other. nat_lt pid other) pids) (length pids)
    → insert pids place pid ≡ put_in pid pids
put_at_place pid place pids is =
    ap (λ (i : ℕ). insert pids i pid) (is ∙ place_is pid pids) ∙ inserted_is pid pids
