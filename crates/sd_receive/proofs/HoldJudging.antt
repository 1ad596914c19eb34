-- What becomes of one held packet.
use Rattle.std.proofs.Common.{ℕ, ◌+◌, ◌^◌, ◌<◌, ◌≡◌, ◌==◌, ◌&&◌, true, false, List, []}
use Rattle.std.proofs.Common.{◌∷◌, ◌++◌, map}
use Rattle.std.proofs.Common.{get_or, refl, sym, ap, ◌∙◌, arith}
use Rattle.std.specs.Prelude.{Option, Some, None, Result, Ok, Err, OnOk, OnErr, MatchResult, nat_le}
use Rattle.std.specs.Option.{option_map_or}
use Rattle.std.proofs.lemmas.Bool.{leb-true, and_parts, eq-eqb}
use Rattle.sd_packet.specs.Header.{pid_of, scrambling_of}
use Rattle.sd_packet.specs.Positions.{is_placed, moved_by}
use Rattle.sd_psi.specs.Rewriting.{pmt_without_descriptor, restore_fault}
use Rattle.sd_psi.specs.declared.fault.FormFault.{FormFault}
use Rattle.sd_cipher.specs.Scrambling.{descrambled}
use Rattle.sd_spec.specs.Confirmed.{position_or_first, Segment, position_in, tracked, is_confirmed, is_foreign}
use Rattle.sd_spec.specs.Confirmed.{unmarked, judged_packet}
use Rattle.sd_spec.proofs.Unmarked.{unmarked_stays, marked_back}
use Rattle.sd_receive.specs.declared.buffer.tracked.HeldPacket.{HeldPacket}
use Rattle.sd_receive.specs.declared.buffer.release.Release.{Release}
use Rattle.sd_receive.specs.declared.buffer.pid_set.PidSet.{PidSet}
use Rattle.sd_receive.specs.Tracking.{led_to, packets_in}
use Rattle.sd_receive.specs.PacketBuffer.{held_pair}
use Rattle.sd_receive.specs.Writing.{segment_in, segment_of, IsReleaseReady, HasPositionLedTo, AreNearPids}
use Rattle.sd_receive.specs.Writing.{AreConfirmed}
use Rattle.sd_receive.proofs.Places.{found_short}

-- the packets of held ones, without their numbers
pub packets_are : (held : List HeldPacket) → map (λ (e : ℕ × List ℕ). e.1) (map held_pair held) ≡ packets_in held
packets_are [] = refl
packets_are (h ∷ hs) = ap (λ (ps : List (List ℕ)). h.packet ∷ ps) (packets_are hs)

-- the table has where all packets lead
table_is : (c : Release) (pid : ℕ) → IsReleaseReady c → pid < 8192 →
    tracked (segment_in c).first pid (segment_in c).packets ≡ get_or c.tracks.now.table.items pid 0
unfolding segment_in segment_of tracked led_to
table_is c pid ready small =
    ap (λ (ps : List (List ℕ)). moved_by pid (position_or_first c.tracks.now.places.items pid) ps)
    (packets_are c.tracks.now.held.items)
    ∙ sym (ready.kept.tracked.at pid small)

-- a PID is confirmed by the table
by_table : (c : Release) (pid : ℕ) → IsReleaseReady c → pid < 8192 → is_confirmed (segment_in c) pid
    ≡ option_map_or (λ p. nat_le (get_or c.tracks.now.table.items pid 0) p && nat_le p
    (get_or c.tracks.now.table.items pid 0 + 15)) (position_in c.last.now pid) false
unfolding is_confirmed segment_in segment_of
by_table c pid ready small =
    ap (λ (t : ℕ). option_map_or (λ p. nat_le t p && nat_le p (t + 15)) (position_in c.last.now pid) false)
    (table_is c pid ready small)

-- so what is near to the table is confirmed
pub near_confirmed : (c : Release) (pids : PidSet) → IsReleaseReady c →
    AreNearPids c.tracks.now.table.items c.last.now pids → AreConfirmed c pids
near_confirmed c pids ready near = record {
  at = λ pid small. near.at pid small ∙ sym (by_table c pid ready small);
}

short_by : (o : Option ℕ) (t : ℕ) → ((x : ℕ) → o ≡ Some x → x < 2 ^ 48) →
    option_map_or (λ p. nat_le t p && nat_le p (t + 15)) o false ≡ true → t < 2 ^ 48
short_by None t f h = absurd (cc h)
short_by (Some x) t f h = omega (arith, leb-true t x (and_parts (nat_le t x) (nat_le x (t + 15)) h).0, f x refl)

-- so the packets of a confirmed PID lead to a position of 48 bits
pub confirmed_short : (c : Release) (pid : ℕ) → IsReleaseReady c → pid < 8192 → is_confirmed (segment_in c) pid ≡ true →
    get_or c.tracks.now.table.items pid 0 < 2 ^ 48
confirmed_short c pid ready small sure =
    short_by (position_in c.last.now pid) (get_or c.tracks.now.table.items pid 0)
    (λ x is. found_short c.last.now pid x ready.short is)
    (sym (by_table c pid ready small) ∙ sure)

pub judged_clear : (s : Segment) (before : List (List ℕ)) (n : ℕ) (p : List ℕ) → scrambling_of p ≡ 0 →
    judged_packet s before (n, p) ≡ Ok (unmarked s p ∷ [])
unfolding judged_packet
judged_clear s before n p clear = rw (eq-eqb (scrambling_of p) 0 clear) refl

pub judged_foreign : (s : Segment) (before : List (List ℕ)) (n : ℕ) (p : List ℕ) → (scrambling_of p == 0) ≡ false →
    is_foreign s p ≡ true → judged_packet s before (n, p) ≡ Err n
unfolding judged_packet
judged_foreign s before n p dark foreign = rw dark (rw foreign refl)

pub judged_far : (s : Segment) (before : List (List ℕ)) (n : ℕ) (p : List ℕ) → (scrambling_of p == 0) ≡ false →
    is_foreign s p ≡ false → is_confirmed s (pid_of p) ≡ false → judged_packet s before (n, p) ≡ Ok []
unfolding judged_packet
judged_far s before n p dark even far = rw dark (rw even (rw far refl))

judged_by : (s : Segment) (before : List (List ℕ)) (n : ℕ) (p : List ℕ) → (scrambling_of p == 0) ≡ false →
    is_foreign s p ≡ false → is_confirmed s (pid_of p) ≡ true →
    judged_packet s before (n, p) ≡ Ok (descrambled p s.word (tracked s.first (pid_of p) (before ++ p ∷ [])) ∷ [])
unfolding judged_packet
judged_by s before n p dark even close = rw dark (rw even (rw close refl))

own_is : (c : Release) (before : List (List ℕ)) (h : HeldPacket) → HasPositionLedTo c before h →
    tracked (segment_in c).first (pid_of h.packet) (before ++ h.packet ∷ []) ≡ h.position
unfolding segment_in segment_of tracked led_to
own_is c before h own = sym own.position

pub judged_near : (c : Release) (before : List (List ℕ)) (h : HeldPacket) → HasPositionLedTo c before h →
    (scrambling_of h.packet == 0) ≡ false →
    is_foreign (segment_in c) h.packet ≡ false → is_confirmed (segment_in c) (pid_of h.packet) ≡ true →
    judged_packet (segment_in c) before (h.number, h.packet) ≡ Ok (descrambled h.packet (segment_in c).word h.position
    ∷ [])
judged_near c before h own dark even close =
    judged_by (segment_in c) before h.number h.packet dark even close
    ∙ ap (λ (x : ℕ). Ok (descrambled h.packet (segment_in c).word x ∷ [])) (own_is c before h own)

-- what a packet is after its descriptor was removed, or wasn't
pub unmarked_after : (s : Segment) (p q : List ℕ) (r : Result (Unit {0}) FormFault) → is_placed p ≡ true →
    OnOk r (q ≡ pmt_without_descriptor p) → OnErr r (q ≡ p) →
    MatchResult r (λ _. restore_fault s.ca s.ecm p ≡ None) (λ fault. restore_fault s.ca s.ecm p ≡ Some fault) →
    q ≡ unmarked s p
unmarked_after s p q (Ok done) placed value same fault = value ∙ sym (marked_back s p placed fault)
unmarked_after s p q (Err f) placed value same fault = same ∙ sym (unmarked_stays s p (rw fault refl))
