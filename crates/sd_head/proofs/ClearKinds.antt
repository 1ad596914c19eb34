-- The kind of a packet by the marks, and whether it is one too many by the positions.
use Rattle.std.proofs.Common.{◌≡◌, ◌≢◌, ℕ, ◌<◌, ◌==◌, ◌&&◌, Bool, true, false, not, List, length, get_or}
use Rattle.std.proofs.Common.{nat_le, refl, sym, ap, ◌∙◌, inl, inr}
use Rattle.std.specs.Prelude.{nat_eq}
use Rattle.std.specs.List.{list_any}
use Rattle.std.proofs.lemmas.Bool.{cases_Bool, cases_eq, eq-eqb, ne_eqb}
use Rattle.sd_packet.specs.Header.{pid_of, has_payload}
use Rattle.sd_packet.specs.Positions.{is_positional, is_placed, position_of}
use Rattle.sd_packet.proofs.Positions.{unmoved_is_none}
use Rattle.sd_spec.specs.Kinds.{pmts_in, kind_of, has_moved, moved_pids}
use Rattle.sd_spec.specs.Refused.{is_one_too_many}
use Rattle.sd_spec.specs.declared.kind.Kind.TheVariants.{Passed, Pmt, Scrambled}
use Rattle.sd_head.specs.Known.{AreMarkedPids}
use Rattle.sd_head.specs.After.{ArePositions}
use Rattle.sd_head.specs.Follows.{IsMove}
use Rattle.sd_head.specs.declared.judged.Move.{Move}

pub passed_is : (before : List (List ℕ)) (packet : List ℕ) → is_placed packet ≡ false → Passed ≡ kind_of before packet
unfolding kind_of
passed_is before packet h = rw h refl

-- whether the PID is one of those of PMTs
named_is : (before : List (List ℕ)) (packet : List ℕ) (marks : List Bool) (b : Bool)
    → AreMarkedPids (pmts_in before) marks
    → pid_of packet < 8192 → get_or marks (pid_of packet) false ≡ b
    → list_any (nat_eq (pid_of packet)) (pmts_in before) ≡ b
named_is before packet marks b marked known mark = sym (marked.at (pid_of packet) known) ∙ mark

pub pmt_is : (before : List (List ℕ)) (packet : List ℕ) (marks : List Bool) → is_placed packet ≡ true
    → AreMarkedPids (pmts_in before) marks → pid_of packet < 8192 → get_or marks (pid_of packet) false ≡ true
    → Pmt ≡ kind_of before packet
unfolding kind_of
pmt_is before packet marks placed marked known mark =
    rw placed (rw (named_is before packet marks true marked known mark) refl)

pub scrambled_is : (before : List (List ℕ)) (packet : List ℕ) (marks : List Bool) → is_placed packet ≡ true
    → AreMarkedPids (pmts_in before) marks → pid_of packet < 8192 → get_or marks (pid_of packet) false ≡ false
    → Scrambled ≡ kind_of before packet
unfolding kind_of
scrambled_is before packet marks placed marked known mark =
    rw placed (rw (named_is before packet marks false marked known mark) refl)

-- a PID whose position is another than the first has moved
moved_when : (before : List (List ℕ)) (pid : ℕ) → position_of pid before ≢ 15 → has_moved before pid ≡ true
moved_when before pid apart = elim (cases_Bool (has_moved before pid)) [
  | inl moved ↦ moved
  | inr stays ↦ absurd (apart ((unmoved_is_none pid 15 before).1 stays))
]

-- the position is the first exactly where the PID hasn't moved
first_is : (before : List (List ℕ)) (pid : ℕ) → (position_of pid before == 15) ≡ not (has_moved before pid)
first_is before pid = elim (cases_eq (position_of pid before) 15) [
  | inl same ↦ eq-eqb (position_of pid before) 15 same ∙ sym (ap not ((unmoved_is_none pid 15 before).0 same))
  | inr apart ↦ ne_eqb (position_of pid before) 15 apart ∙ sym (ap not (moved_when before pid apart))
]

-- a placed packet has a PID that has positions
pub placed_pid : (packet : List ℕ) → is_placed packet ≡ true → is_positional (pid_of packet) ≡ true
placed_pid packet placed = left (is_positional (pid_of packet)) (has_payload packet) placed
  where
    left : (a b : Bool) → (a && b) ≡ true → a ≡ true
    left true b h = refl
    left false b h = h

-- a move is its PID's first exactly where no packet has moved the PID
pub first_told : (before : List (List ℕ)) (packet positions : List ℕ) (next : Move) → IsMove positions packet next
    → ArePositions before positions → next.is_first ≡ not (has_moved before (pid_of packet))
first_told before packet positions next makes are =
    makes.first ∙ (ap (λ (x : ℕ). x == 15) (are.at (pid_of packet) (placed_pid packet makes.placed))
    ∙ first_is before (pid_of packet))

-- a packet is one too many where its PID would move for the first time, and as many have moved as may
pub too_many_is : (before : List (List ℕ)) (packet positions pids : List ℕ) (next : Move)
    → IsMove positions packet next → ArePositions before positions → pids ≡ moved_pids before
    → (next.is_first && nat_le 256 (length pids)) ≡ is_one_too_many before packet
too_many_is before packet positions pids next makes are moved =
    rw makes.placed (ap (λ (b : Bool). b && nat_le 256 (length pids))
    (first_told before packet positions next makes are)
    ∙ ap (λ (xs : List ℕ). not (has_moved before (pid_of packet)) && nat_le 256 (length xs)) moved)

-- and one without a position never is
pub none_too_many : (before : List (List ℕ)) (packet : List ℕ) → is_placed packet ≡ false
    → is_one_too_many before packet ≡ false
none_too_many before packet none = rw none refl
