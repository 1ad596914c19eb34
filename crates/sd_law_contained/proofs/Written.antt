-- What is written of one PID of the packets between two messages is what is written of that PID's packets by
-- themselves.
use Rattle.std.proofs.Common.{◌≡◌, refl, ℕ, ◌+◌, ◌%◌, ◌==◌, ◌&&◌, ◌||◌, ◌++◌, Bool, true, false, not, List, [], ◌∷◌}
use Rattle.std.proofs.Common.{map}
use Rattle.std.proofs.Common.{None, ap, sym, subst, ◌∙◌, arith, append-nil}
use Rattle.std.specs.Prelude.{if◌then◌else◌, filter, Result, Ok, Err}
use Rattle.std.specs.List.{list_any}
use Rattle.std.specs.Option.{option_map_or}
use Rattle.std.proofs.lemmas.Bool.Decides.{nat_tests}
use Rattle.std.proofs.lemmas.List.Elements.{filter-append}
use Rattle.sd_base.proofs.Bools.{tested}
use Rattle.sd_packet.specs.Header.{pid_of, scrambling_of}
use Rattle.sd_packet.specs.Positions.{is_placed, moved_by}
use Rattle.sd_cipher.specs.Scrambling.{descrambled}
use Rattle.sd_spec.specs.Confirmed.{Segment, position_in, position_or_first, tracked, is_near_to, is_confirmed}
use Rattle.sd_spec.specs.Confirmed.{unmarked}
use Rattle.sd_spec.specs.Confirmed.{is_foreign, judged_packet, WrittenPackets, then_segment_output, written_from}
use Rattle.sd_law_contained.proofs.Pids.{descrambled_pid, unmarked_pid, moved_by_on}

-- the packets of one PID, and the segment with these alone
abbrev pub those_on : ℕ → List (List ℕ) → List (List ℕ)
those_on pid packets = filter (λ packet. pid_of packet == pid) packets

abbrev pub segment_on : ℕ → Segment → Segment
segment_on pid segment = record {
  first = segment.first;
  last = segment.last;
  word = segment.word;
  ca = segment.ca;
  ecm = segment.ecm;
  packets = those_on pid segment.packets;
}

-- a packet at which the segment is refused
abbrev pub is_wrong : Segment → List ℕ → Bool
is_wrong segment packet = not (scrambling_of packet == 0) && is_foreign segment packet

-- what is written of a packet, by three tests
abbrev pub one_of : Bool → Bool → Bool → List ℕ → List ℕ → List (List ℕ)
one_of clear odd confirmed plain opened =
    if clear then plain ∷ [] else if odd then [] else if confirmed then opened ∷ [] else []

abbrev pub opened_in : Segment → List (List ℕ) → List ℕ → List ℕ
opened_in segment before packet =
    descrambled packet segment.word (tracked segment.first (pid_of packet) (before ++ packet ∷ []))

-- what is written of a packet after these, if it isn't refused
abbrev pub one_written : Segment → List (List ℕ) → List ℕ → List (List ℕ)
one_written segment before packet =
    one_of (scrambling_of packet == 0) (is_foreign segment packet) (is_confirmed segment (pid_of packet))
    (unmarked segment packet) (opened_in segment before packet)

-- and of several
abbrev pub all_written : Segment → List (List ℕ) → List (List ℕ) → List (List ℕ)
all_written segment before [] = []
all_written segment before (packet ∷ packets) =
    one_written segment before packet ++ all_written segment (before ++ packet ∷ []) packets

abbrev judged_as : ℕ → Bool → Bool → Bool → List ℕ → List ℕ → Result (List (List ℕ)) ℕ
judged_as n clear odd confirmed plain opened =
    if clear then Ok (plain ∷ []) else if odd then Err n else if confirmed then Ok (opened ∷ []) else Ok []

first_right : (n : ℕ) (clear odd confirmed : Bool) (plain opened : List ℕ) (rest : WrittenPackets) →
    (then_segment_output (judged_as n clear odd confirmed plain opened) rest).refused ≡ None →
    ((not clear && odd) ≡ false) × (rest.refused ≡ None)
first_right n true odd confirmed plain opened rest is = (refl, is)
first_right n false true confirmed plain opened rest is = absurd (cc)
first_right n false false true plain opened rest is = (refl, is)
first_right n false false false plain opened rest is = (refl, is)

abbrev pub packets_in : List (ℕ × List ℕ) → List (List ℕ)
packets_in held = map (λ one. one.1) held

either_none : (a b : Bool) → a ≡ false → b ≡ false → (if a then true else b) ≡ false
either_none a b e f = rw (e, f) refl

-- where none is refused, none is wrong
pub none_wrong : (segment : Segment) (before : List (List ℕ)) (held : List (ℕ × List ℕ)) →
    (written_from segment before held).refused ≡ None → list_any (is_wrong segment) (packets_in held) ≡ false
unfolding written_from judged_packet
none_wrong segment before [] is = refl
none_wrong segment before (one ∷ held) is =
    let parts = first_right one.0 (scrambling_of one.1 == 0) (is_foreign segment one.1)
    (is_confirmed segment (pid_of one.1)) (unmarked segment one.1) (opened_in segment before one.1)
    (written_from segment (before ++ one.1 ∷ []) held) is in
    let rest = none_wrong segment (before ++ one.1 ∷ []) held parts.1 in
    rw (parts.0, rest) refl

first_told : (n : ℕ) (clear odd confirmed : Bool) (plain opened : List ℕ) (packets : List (List ℕ)) →
    (not clear && odd) ≡ false →
    then_segment_output (judged_as n clear odd confirmed plain opened) (record { packets = packets; refused = None })
    ≡ record { packets = one_of clear odd confirmed plain opened ++ packets; refused = None }
first_told n true odd confirmed plain opened packets right = refl
first_told n false true confirmed plain opened packets right = absurd (cc)
first_told n false false true plain opened packets right = refl
first_told n false false false plain opened packets right = refl

pub neither : (a b : Bool) → (a || b) ≡ false → (a ≡ false) × (b ≡ false)
neither true b none = absurd (cc)
neither false b none = (refl, none)

-- where none is wrong, all are written that are to be
pub all_told : (segment : Segment) (before : List (List ℕ)) (held : List (ℕ × List ℕ)) →
    list_any (is_wrong segment) (packets_in held) ≡ false →
    written_from segment before held
    ≡ record { packets = all_written segment before (packets_in held); refused = None }
unfolding written_from judged_packet
all_told segment before [] right = refl
all_told segment before (one ∷ held) right =
    let parts = neither (is_wrong segment one.1) (list_any (is_wrong segment) (packets_in held)) right in
    let judging : Result (List (List ℕ)) ℕ = judged_as one.0 (scrambling_of one.1 == 0) (is_foreign segment one.1)
    (is_confirmed segment (pid_of one.1)) (unmarked segment one.1) (opened_in segment before one.1) in
    ap (then_segment_output judging) (all_told segment (before ++ one.1 ∷ []) held parts.1)
    ∙ first_told one.0 (scrambling_of one.1 == 0) (is_foreign segment one.1) (is_confirmed segment (pid_of one.1))
    (unmarked segment one.1) (opened_in segment before one.1)
    (all_written segment (before ++ one.1 ∷ []) (packets_in held)) parts.0

-- of some of the packets none is wrong either
pub none_wrong_on : (pid : ℕ) (segment : Segment) (packets : List (List ℕ)) →
    list_any (is_wrong segment) packets ≡ false →
    list_any (is_wrong segment) (those_on pid packets) ≡ false
none_wrong_on pid segment [] right = refl
none_wrong_on pid segment (packet ∷ packets) right =
    let parts = neither (is_wrong segment packet) (list_any (is_wrong segment) packets) right in
    let rest = none_wrong_on pid segment packets parts.1 in
    tested (pid_of packet == pid)
    (λ here. rw (here, parts.0, rest) refl)
    (λ off. rw (off, rest) refl)

-- the PID is confirmed by its own packets
confirmed_on : (pid : ℕ) (segment : Segment) → is_confirmed (segment_on pid segment) pid ≡ is_confirmed segment pid
unfolding is_confirmed tracked
confirmed_on pid segment =
    ap (λ (near : ℕ). option_map_or (is_near_to near) (position_in segment.last.places pid) false)
    (moved_by_on pid (position_or_first segment.first.places pid) segment.packets)

confirmed_at : (q pid : ℕ) (segment : Segment) → pid ≡ q →
    is_confirmed (segment_on pid segment) q ≡ is_confirmed segment q
confirmed_at q pid segment same =
    subst (λ (x : ℕ). is_confirmed (segment_on pid segment) x ≡ is_confirmed segment x) same (confirmed_on pid segment)

-- and so is its position
on_more : (pid : ℕ) (before : List (List ℕ)) (packet : List ℕ) → (pid_of packet == pid) ≡ true →
    those_on pid (before ++ packet ∷ []) ≡ those_on pid before ++ packet ∷ []
on_more pid before packet here =
    filter-append (λ p. pid_of p == pid) before (packet ∷ [])
    ∙ ap (λ (b : Bool). those_on pid before ++ (if b then packet ∷ [] else [])) here

off_more : (pid : ℕ) (before : List (List ℕ)) (packet : List ℕ) → (pid_of packet == pid) ≡ false →
    those_on pid (before ++ packet ∷ []) ≡ those_on pid before
off_more pid before packet off =
    filter-append (λ p. pid_of p == pid) before (packet ∷ [])
    ∙ (ap (λ (b : Bool). those_on pid before ++ (if b then packet ∷ [] else [])) off ∙ append-nil (those_on pid before))

tracked_at : (q pid : ℕ) (segment : Segment) (before : List (List ℕ)) (packet : List ℕ) → pid ≡ q →
    (pid_of packet == pid) ≡ true →
    tracked segment.first q (those_on pid before ++ packet ∷ []) ≡ tracked segment.first q (before ++ packet ∷ [])
unfolding tracked
tracked_at q pid segment before packet same here =
    subst (λ (x : ℕ). moved_by x (position_or_first segment.first.places x) (those_on pid before ++ packet ∷ [])
    ≡ moved_by x (position_or_first segment.first.places x) (before ++ packet ∷ [])) same
    (ap (moved_by pid (position_or_first segment.first.places pid)) (sym (on_more pid before packet here))
    ∙ moved_by_on pid (position_or_first segment.first.places pid) (before ++ packet ∷ []))

-- one packet of the PID
one_same : (pid : ℕ) (segment : Segment) (before : List (List ℕ)) (packet : List ℕ) →
    (pid_of packet == pid) ≡ true →
    one_written (segment_on pid segment) (those_on pid before) packet ≡ one_written segment before packet
unfolding unmarked
one_same pid segment before packet here =
    let same : pid ≡ pid_of packet = grind (arith, nat_tests, here) in
    ap (λ (sure : Bool). one_of (scrambling_of packet == 0) (is_foreign segment packet) sure (unmarked segment packet)
    (opened_in (segment_on pid segment) (those_on pid before) packet)) (confirmed_at (pid_of packet) pid segment same)
    ∙ ap (λ (position : ℕ). one_of (scrambling_of packet == 0) (is_foreign segment packet)
    (is_confirmed segment (pid_of packet)) (unmarked segment packet) (descrambled packet segment.word position))
    (tracked_at (pid_of packet) pid segment before packet same here)

-- what is written of a packet has its PID
one_on : (pid : ℕ) (here clear odd confirmed : Bool) (plain opened : List ℕ) →
    (pid_of plain == pid) ≡ here → (odd ≡ false → (pid_of opened == pid) ≡ here) →
    those_on pid (one_of clear odd confirmed plain opened)
    ≡ (if here then one_of clear odd confirmed plain opened else [])
one_on pid true true odd confirmed plain opened p o = rw p refl
one_on pid false true odd confirmed plain opened p o = rw p refl
one_on pid true false true confirmed plain opened p o = refl
one_on pid false false true confirmed plain opened p o = refl
one_on pid true false false true plain opened p o = let e = o refl in rw e refl
one_on pid false false false true plain opened p o = let e = o refl in rw e refl
one_on pid true false false false plain opened p o = refl
one_on pid false false false false plain opened p o = refl

not_odd : (placed other : Bool) → (not placed || other) ≡ false → placed ≡ true
not_odd true other none = refl
not_odd false other none = absurd (cc)

written_on : (pid : ℕ) (segment : Segment) (before : List (List ℕ)) (packet : List ℕ) (here : Bool) →
    (pid_of packet == pid) ≡ here →
    those_on pid (one_written segment before packet)
    ≡ (if here then one_written segment before packet else [])
written_on pid segment before packet here is =
    one_on pid here (scrambling_of packet == 0) (is_foreign segment packet) (is_confirmed segment (pid_of packet))
    (unmarked segment packet) (opened_in segment before packet)
    (ap (λ (q : ℕ). q == pid) (unmarked_pid segment packet) ∙ is)
    (λ right. ap (λ (q : ℕ). q == pid) (descrambled_pid packet segment.word
    (tracked segment.first (pid_of packet) (before ++ packet ∷ []))
    (not_odd (is_placed packet) (not (scrambling_of packet == 2 + segment.first.word % 2)) right)) ∙ is)

-- several packets
pub all_on_pid : (pid : ℕ) (segment : Segment) (before packets : List (List ℕ)) →
    all_written (segment_on pid segment) (those_on pid before) (those_on pid packets)
    ≡ those_on pid (all_written segment before packets)
all_on_pid pid segment before [] = refl
all_on_pid pid segment before (packet ∷ packets) =
    let rest = all_on_pid pid segment (before ++ packet ∷ []) packets in
    let split = filter-append (λ p. pid_of p == pid) (one_written segment before packet)
    (all_written segment (before ++ packet ∷ []) packets) in
    tested (pid_of packet == pid)
    (λ here. rw here (ap (λ (ps : List (List ℕ)).
    ps ++ all_written (segment_on pid segment) (those_on pid before ++ packet ∷ []) (those_on pid packets))
    (one_same pid segment before packet here)
    ∙ (ap (λ (b : List (List ℕ)). one_written segment before packet
    ++ all_written (segment_on pid segment) b (those_on pid packets)) (sym (on_more pid before packet here))
    ∙ (ap (λ (ps : List (List ℕ)). one_written segment before packet ++ ps) rest
    ∙ (ap (λ (ps : List (List ℕ)). ps ++ those_on pid (all_written segment (before ++ packet ∷ []) packets))
    (sym (written_on pid segment before packet true here)) ∙ sym split)))))
    (λ off. rw off (ap (λ (b : List (List ℕ)). all_written (segment_on pid segment) b (those_on pid packets))
    (sym (off_more pid before packet off))
    ∙ (rest
    ∙ (ap (λ (ps : List (List ℕ)). ps ++ those_on pid (all_written segment (before ++ packet ∷ []) packets))
    (sym (written_on pid segment before packet false off)) ∙ sym split))))
