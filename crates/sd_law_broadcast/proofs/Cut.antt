-- What is taken of a stream's bytes.
use Rattle.std.proofs.Common.{◌≡◌, ℕ, zero, suc, ◌+◌, ◌*◌, ◌/◌, ◌%◌, ◌<◌, ◌≤◌, ◌==◌}
use Rattle.std.proofs.Common.{List, [], ◌∷◌, ◌++◌, length, take, drop}
use Rattle.std.proofs.Common.{cond, Bool, true, false, refl, sym, ap, subst, ◌∙◌, arith, inl, inr, nat_lt}
use Rattle.std.proofs.Common.{length-take-le, length-drop, take-add, get_or}
use Rattle.std.specs.Prelude.{Option, None, Some, All, slice_index}
use Rattle.std.specs.List.{concat, take_while}
use Rattle.std.proofs.lemmas.Bool.{cases_lt, eqb-true, ltb-true, ltb-false}
use Rattle.std.proofs.lemmas.List.{take_all, get_or_past}
use Rattle.std.proofs.lemmas.List.Elements.{All-nil, All-cons, All-take, All-drop}
use Rattle.std.proofs.lemmas.List.Sums.{take_while-cons}
use Rattle.sd_engine.specs.Stream.{pieces, is_packet, packets_of, break_after, break_of, torn, no_sync}
use Rattle.sd_engine.specs.Driving.{most_packets}
use Rattle.sd_engine.specs.Taken.{Whole, RunsOn, packets_taken, stream_end_by, end_of}
use Rattle.sd_engine.specs.declared.fault.StreamBreak.{StreamBreak}
use Rattle.sd_engine.proofs.Taken.{least_of}
use Rattle.sd_law_broadcast.specs.Packets.{AreWholePackets}
use Rattle.sd_law_broadcast.specs.Synced.{IsSynced, AreSynced, AreBytes}

-- what the first of some pieces are
record AreFirst (bytes : List ℕ) (packets : List (List ℕ)) : Type 0 where
  synced : AreSynced packets
  within : 188 * length packets ≤ length bytes
  joined : concat packets ≡ take (188 * length packets) bytes

none_first : (bytes : List ℕ) → AreFirst bytes []
none_first bytes = record { synced = All-nil IsSynced; within = omega arith; joined = refl }

one_first : (bytes : List ℕ) (packets : List (List ℕ)) → 188 ≤ length bytes → is_packet (take 188 bytes) ≡ true →
    AreFirst (drop 188 bytes) packets → AreFirst bytes (take 188 bytes ∷ packets)
one_first bytes packets long sync rest =
    let more : 188 * length (take 188 bytes ∷ packets) ≡ 188 + 188 * length packets = omega arith in
    record {
      synced = All-cons IsSynced (take 188 bytes) packets
          (record {
            long = length-take-le 188 bytes long;
            sync = eqb-true (slice_index (take 188 bytes) 0) 0x47 sync;
          }) rest.synced;
      within = omega (arith, rest.within, long, length-drop 188 bytes, more);
      joined =
          ap (λ (l : List ℕ). take 188 bytes ++ l) rest.joined
          ∙ (sym (take-add 188 (188 * length packets) bytes) ∙ sym (ap (λ (n : ℕ). take n bytes) more));
    }

-- the pieces up to the first without the sync byte
kept_first : (n : ℕ) (bytes : List ℕ) → 188 * n ≤ length bytes → AreFirst bytes (take_while is_packet (pieces n bytes))
unfolding pieces
kept_first zero bytes room = none_first bytes
kept_first (suc n) bytes room =
    subst (AreFirst bytes) (sym (take_while-cons is_packet (take 188 bytes) (pieces n (drop 188 bytes))))
    (by_test (is_packet (take 188 bytes)) refl
    (kept_first n (drop 188 bytes) (omega (arith, room, length-drop 188 bytes))))
  where
    by_test : (b : Bool) → is_packet (take 188 bytes) ≡ b →
        AreFirst (drop 188 bytes) (take_while is_packet (pieces n (drop 188 bytes))) →
        AreFirst bytes (cond b (take 188 bytes ∷ take_while is_packet (pieces n (drop 188 bytes))) [])
    by_test true sync rest =
        one_first bytes (take_while is_packet (pieces n (drop 188 bytes))) (omega (arith, room)) sync rest
    by_test false other rest = none_first bytes

packets_first : (bytes : List ℕ) → AreFirst bytes (packets_of bytes)
unfolding packets_of
packets_first bytes = kept_first (length bytes / 188) bytes (omega arith)

-- the packets that are taken are synced
pub taken_synced : (bytes : List ℕ) → AreSynced (packets_taken bytes)
unfolding packets_taken
taken_synced bytes = All-take IsSynced most_packets (packets_of bytes) (packets_first bytes).synced

pub taken_few : (bytes : List ℕ) → length (packets_taken bytes) ≤ most_packets
taken_few bytes = (least_of bytes).1

-- a stream without break has as many bytes as its packets
unbroken_long : (bytes : List ℕ) → break_of bytes ≡ None → length bytes ≡ 188 * length (packets_of bytes)
unfolding break_after
unbroken_long bytes unbroken =
    by_tests (nat_lt (length (packets_of bytes)) (length bytes / 188)) (length bytes % 188 == 0) refl refl unbroken
  where
    by_tests : (short left : Bool) → nat_lt (length (packets_of bytes)) (length bytes / 188) ≡ short →
        (length bytes % 188 == 0) ≡ left →
        cond short (Some (no_sync (0 + length (packets_of bytes))))
        (cond left None (Some (torn (0 + length bytes / 188)))) ≡ None →
        length bytes ≡ 188 * length (packets_of bytes)
    by_tests true left a b e = absurd (cc)
    by_tests false true a b e =
        let whole = eqb-true (length bytes % 188) 0 b in
        let many = ltb-false (length (packets_of bytes)) (length bytes / 188) a in
        omega (arith, whole, many, (packets_first bytes).within)
    by_tests false false a b e = absurd (cc)

-- one that ends whole has those of the packets that are taken
whole_long : (bytes : List ℕ) → end_of bytes ≡ Whole →
    (length bytes ≡ 188 * length (packets_of bytes)) × (length (packets_of bytes) ≤ most_packets)
unfolding end_of
whole_long bytes whole =
    by_tests (nat_lt (length (packets_of bytes)) most_packets) (nat_lt (188 * most_packets) (length bytes))
    (break_of bytes) refl refl refl whole
  where
    by_tests : (few more : Bool) (found : Option StreamBreak) → nat_lt (length (packets_of bytes)) most_packets ≡ few →
        nat_lt (188 * most_packets) (length bytes) ≡ more → break_of bytes ≡ found →
        cond few (stream_end_by found) (cond more RunsOn Whole) ≡ Whole →
        (length bytes ≡ 188 * length (packets_of bytes)) × (length (packets_of bytes) ≤ most_packets)
    by_tests true more None a b e w =
        let less = ltb-true (length (packets_of bytes)) most_packets a in
        (unbroken_long bytes e, omega (arith, less))
    by_tests true more (Some found) a b e w = absurd (cc)
    by_tests false true found a b e w = absurd (cc)
    by_tests false false found a b e w =
        let many = ltb-false (length (packets_of bytes)) most_packets a in
        let short = ltb-false (188 * most_packets) (length bytes) b in
        let within = (packets_first bytes).within in
        (omega (arith, many, short, within), omega (arith, many, short, within))

-- joined they are all bytes of a stream that ends whole
pub taken_joined : (bytes : List ℕ) → end_of bytes ≡ Whole → concat (packets_taken bytes) ≡ bytes
unfolding packets_taken
taken_joined bytes whole =
    let long = whole_long bytes whole in
    ap concat (take_all most_packets (packets_of bytes) long.1)
    ∙ ((packets_first bytes).joined ∙ take_all (188 * length (packets_of bytes)) bytes (omega (arith, long.0)))

-- the pieces of bytes are bytes
pieces_bytes : (n : ℕ) (bytes : List ℕ) → AreBytes bytes → All AreBytes (pieces n bytes)
unfolding pieces
pieces_bytes zero bytes each = All-nil AreBytes
pieces_bytes (suc n) bytes each =
    All-cons AreBytes (take 188 bytes) (pieces n (drop 188 bytes)) (All-take (λ byte. byte < 256) 188 bytes each)
    (pieces_bytes n (drop 188 bytes) (All-drop (λ byte. byte < 256) 188 bytes each))

-- and so are the packets that are taken
taken_bytes : (bytes : List ℕ) → AreBytes bytes → All AreBytes (packets_taken bytes)
unfolding packets_taken packets_of
taken_bytes bytes each =
    All-take AreBytes most_packets (take_while is_packet (pieces (length bytes / 188) bytes))
    (All-take AreBytes _ (pieces (length bytes / 188) bytes) (pieces_bytes (length bytes / 188) bytes each))

byte_at : (packet : List ℕ) → AreBytes packet → (i : ℕ) → slice_index packet i < 256
byte_at packet each i = elim (cases_lt i (length packet)) [
  | inl there ↦ each i 0 there
  | inr past ↦ rw (get_or_past packet i 0 past) (omega arith)
]

pub taken_whole : (bytes : List ℕ) → AreBytes bytes → AreWholePackets (packets_taken bytes)
taken_whole bytes each = λ k d within. record {
  long = (taken_synced bytes k d within).long;
  bytes = byte_at (get_or (packets_taken bytes) k d) (taken_bytes bytes each k d within);
}
