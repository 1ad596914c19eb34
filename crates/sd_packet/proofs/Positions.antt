-- How positions rise.
use Rattle.std.proofs.Common.{ℕ, ◌+◌, ◌-◌, ◌*◌, ◌%◌, ◌<◌, ◌≤◌, ◌≡◌, ◌==◌, Bool, true, false, List, [], ◌∷◌, ◌++◌}
use Rattle.std.proofs.Common.{length, get_or, take, refl, ap, ◌∙◌, inl, inr, arith}
use Rattle.std.specs.Prelude.{if◌then◌else◌, ◌↔◌}
use Rattle.std.specs.List.{list_any}
use Rattle.std.proofs.lemmas.Bool.{cases_Bool, cases_lt, eq-eqb, and_parts}
use Rattle.std.proofs.lemmas.Bool.Decides.{nat_tests}
use Rattle.std.proofs.lemmas.List.{take_more}
use Rattle.sd_base.proofs.Fields.{field_below}
use Rattle.sd_packet.specs.Header.{counter_of, pid_of, has_payload}
use Rattle.sd_packet.specs.Positions.{advanced, IsNextPosition, is_moving, moved, moved_by, position_of}
use Rattle.sd_packet.specs.Positions.{is_positional, is_placed}

-- a position rises by 1 to 16, to a number that equals the counter mod 16
pub advanced_is_next : (position counter : ℕ) → counter < 16 →
    IsNextPosition position counter (advanced position counter)
unfolding advanced
advanced_is_next position counter h = record { above = omega arith; near = omega arith; counter_is = omega arith }

-- and no other number is so
pub next_is_advanced : (position counter next : ℕ) → counter < 16 → IsNextPosition position counter next →
    next ≡ advanced position counter
unfolding advanced
next_is_advanced position counter next h is = omega (arith, is.above, is.near, is.counter_is)

-- a counter is below 16
pub counter_below : (packet : List ℕ) → counter_of packet < 16
counter_below packet = field_below packet 28 4

-- a packet that moves a position leads to its next
pub moving_rises : (pid position : ℕ) (packet : List ℕ) → is_moving pid packet ≡ true →
    IsNextPosition position (counter_of packet) (moved pid position packet)
moving_rises pid position packet h = rw h (advanced_is_next position (counter_of packet) (counter_below packet))

near_by : (b : Bool) (position next : ℕ) → position ≤ next → next ≤ position + 16 →
    (position ≤ (if b then next else position)) × ((if b then next else position) ≤ position + 16)
near_by true position next low high = (low, high)
near_by false position next low high = (omega arith, omega arith)

-- one packet moves a position by at most 16, and never down
pub moved_near : (pid position : ℕ) (packet : List ℕ) → (position ≤ moved pid position packet)
    × (moved pid position packet ≤ position + 16)
moved_near pid position packet =
    let next = advanced_is_next position (counter_of packet) (counter_below packet) in
    near_by (is_moving pid packet) position (advanced position (counter_of packet)) (omega (arith, next.above))
    next.near

-- a packet more
pub one_more : (pid position : ℕ) (packets : List (List ℕ)) (packet : List ℕ) →
    moved_by pid position (packets ++ packet ∷ []) ≡ moved pid (moved_by pid position packets) packet
unfolding moved_by
one_more pid position [] packet = refl
one_more pid position (p ∷ ps) packet = one_more pid (moved pid position p) ps packet

-- one packet more of a stream
pub next_position : (pid n : ℕ) (packets : List (List ℕ)) → n < length packets → position_of pid (take (n + 1) packets)
    ≡ moved pid (position_of pid (take n packets)) (get_or packets n [])
next_position pid n packets h = rw (take_more packets n [] h) (one_more pid 15 (take n packets) (get_or packets n []))

-- so many packets move a position by at most 16 each
pub moved_by_near : (pid position : ℕ) (packets : List (List ℕ)) → (position ≤ moved_by pid position packets)
    × (moved_by pid position packets ≤ position + 16 * length packets)
unfolding moved_by
moved_by_near pid position [] = (omega arith, omega arith)
moved_by_near pid position (p ∷ ps) =
    let one = moved_near pid position p in
    let rest = moved_by_near pid (moved pid position p) ps in
    (omega (arith, one, rest), omega (arith, one, rest))

-- the packets of one list, and then those of another
pub more_packets : (pid position : ℕ) (ps qs : List (List ℕ)) →
    moved_by pid position (ps ++ qs) ≡ moved_by pid (moved_by pid position ps) qs
unfolding moved_by
more_packets pid position [] qs = refl
more_packets pid position (p ∷ ps) qs = more_packets pid (moved pid position p) ps qs

-- a start that is higher by a multiple of 16 is as much higher after a step
higher_step : (b : Bool) (position more counter : ℕ) → more % 16 ≡ 0 →
    (if b then advanced (position + more) counter else position + more)
    ≡ (if b then advanced position counter else position) + more
unfolding advanced
higher_step true position more counter even = omega (arith, even)
higher_step false position more counter even = refl

-- and after each packet
pub higher_start : (pid position more : ℕ) (ps : List (List ℕ)) → more % 16 ≡ 0 →
    moved_by pid (position + more) ps ≡ moved_by pid position ps + more
unfolding moved_by
higher_start pid position more [] even = refl
higher_start pid position more (p ∷ ps) even =
    ap (λ (x : ℕ). moved_by pid x ps) (higher_step (is_moving pid p) position more (counter_of p) even)
    ∙ higher_start pid (moved pid position p) more ps even

-- starts that are equal mod 16 lead to positions that are
pub same_start : (pid near far : ℕ) (ps : List (List ℕ)) → near % 16 ≡ far % 16 →
    moved_by pid near ps % 16 ≡ moved_by pid far ps % 16
same_start pid near far ps same = elim (cases_lt near far) [
  | inl below ↦
      let higher = higher_start pid near (far - near) ps (omega (arith, same, below)) in
      let is : near + (far - near) ≡ far = omega (arith, below) in
      omega (arith, rw is at higher, same, below)
  | inr above ↦
      let higher = higher_start pid far (near - far) ps (omega (arith, same, above)) in
      let is : far + (near - far) ≡ near = omega (arith, above) in
      omega (arith, rw is at higher, same, above)
]

-- a packet that moves the position leaves it higher
pub moving_stays : (pid position : ℕ) (p : List ℕ) (ps : List (List ℕ)) → is_moving pid p ≡ true →
    position < moved_by pid (moved pid position p) ps
moving_stays pid position p ps moves =
    omega (arith, (moving_rises pid position p moves).above, (moved_by_near pid (moved pid position p) ps).0)

-- a position that stayed was moved by no packet
pub unmoved_by : (pid position : ℕ) (ps : List (List ℕ)) → moved_by pid position ps ≡ position →
    list_any (is_moving pid) ps ≡ false
unfolding moved_by
unmoved_by pid position [] stayed = refl
unmoved_by pid position (p ∷ ps) stayed = elim (cases_Bool (is_moving pid p)) [
  | inl moves ↦ absurd (omega (arith, moving_stays pid position p ps moves, stayed))
  | inr rests ↦
      rw rests (unmoved_by pid position ps (rw rests at stayed))
]

-- and one that no packet moves stays
pub none_moves : (pid position : ℕ) (ps : List (List ℕ)) → list_any (is_moving pid) ps ≡ false →
    moved_by pid position ps ≡ position
unfolding moved_by
none_moves pid position [] none = refl
none_moves pid position (p ∷ ps) none = elim (cases_Bool (is_moving pid p)) [
  | inl moves ↦ absurd (cc (rw moves at none))
  | inr rests ↦
      rw rests (none_moves pid position ps (rw rests at none))
]

-- so it stays exactly where none moves it
pub unmoved_is_none : (pid position : ℕ) (ps : List (List ℕ)) →
    (moved_by pid position ps ≡ position) ↔ (list_any (is_moving pid) ps ≡ false)
unmoved_is_none pid position ps = (unmoved_by pid position ps, none_moves pid position ps)

-- a placed packet moves its own PID
pub own_moves : (packet : List ℕ) → is_placed packet ≡ true → is_moving (pid_of packet) packet ≡ true
own_moves packet placed =
    let same : (pid_of packet == pid_of packet) ≡ true = eq-eqb (pid_of packet) (pid_of packet) refl in
    rw same (and_parts (is_positional (pid_of packet)) (has_payload packet) placed).1

-- a PID with positions is one of 13 bits
pub positional_small : (pid : ℕ) → is_positional pid ≡ true → pid < 8192
positional_small pid positional = grind (arith, nat_tests, positional)
