-- The packets that are read of bytes that may be damaged are whole.
use Rattle.std.proofs.Common.{◌≡◌, ℕ, ◌+◌, ◌<◌, Bool, true, false, cond, [], ◌∷◌, length, refl, sym, ap, subst, ◌∙◌}
use Rattle.std.proofs.Common.{arith, inl, inr, get_or, take, drop}
use Rattle.std.specs.Prelude.{All, slice_index, nat_lt, ◌&&◌, ◌^◌}
use Rattle.std.specs.List.{list_any}
use Rattle.std.proofs.lemmas.Bool.{cases_lt}
use Rattle.std.proofs.lemmas.List.{get_or_past}
use Rattle.std.proofs.lemmas.List.Elements.{All-nil, All-cons, All-head, All-tail, All-take, All-drop}
use Rattle.sd_base.specs.Types.{Bytes, Packet, Packets}
use Rattle.sd_engine.specs.Cut.{cut_packets, read_from, readable, skips_few}
use Rattle.sd_engine.proofs.Cutting.{cut_end, cut_packet}
use Rattle.sd_spec.specs.Counting.{is_marked}
use Rattle.sd_law_broadcast.specs.Packets.{IsWholePacket, AreWholePackets}
use Rattle.sd_law_broadcast.specs.Synced.{AreBytes, AreSynced, IsSynced}
use Rattle.sd_law_formats.proofs.Courses.{Course, course_of, cut_one}
use Rattle.sd_law_formats.proofs.Courses as course
use Rattle.sd_law_formats.proofs.Finds.{all_sound}
use Rattle.sd_law_air.specs.Sent.{AreUnmarked}

-- the packets that are found in bytes are of bytes
cut_bytes : (bytes : Bytes) → Course bytes → AreBytes bytes → All AreBytes (cut_packets bytes)
cut_bytes bytes (course.end none) each = subst (All AreBytes) (sym (ap cut_packets none ∙ cut_end)) (All-nil AreBytes)
cut_bytes bytes (course.packet begins rest) each =
    subst (All AreBytes) (sym (cut_packet bytes begins))
    (All-cons AreBytes (take 188 bytes) (cut_packets (drop 188 bytes)) (All-take (λ byte. byte < 256) 188 bytes each)
    (cut_bytes (drop 188 bytes) rest (All-drop (λ byte. byte < 256) 188 bytes each)))
cut_bytes bytes (course.other not some rest) each =
    subst (All AreBytes) (sym (cut_one bytes not some))
    (cut_bytes (drop 1 bytes) rest (All-drop (λ byte. byte < 256) 1 bytes each))

byte_at : (packet : Bytes) → AreBytes packet → (i : ℕ) → slice_index packet i < 256
byte_at packet each i = elim (cases_lt i (length packet)) [
  | inl there ↦ each i 0 there
  | inr past ↦ rw (get_or_past packet i 0 past) (omega arith)
]

cut_whole : (bytes : Bytes) → AreBytes bytes → AreWholePackets (cut_packets bytes)
cut_whole bytes each = λ k d within. record {
  long = (all_sound bytes k d within).0;
  bytes = byte_at (get_or (cut_packets bytes) k d) (cut_bytes bytes (course_of bytes) each k d within);
}

cut_synced : (bytes : Bytes) → AreSynced (cut_packets bytes)
cut_synced bytes = λ k d within. record {
  long = (all_sound bytes k d within).0;
  sync = (all_sound bytes k d within).1;
}

-- what is true of all packets is true of those that are read
read_all : (P : Packet → Type 0) (bytes : Bytes) (k : ℕ) (packets : Packets) → All P packets →
    All P (read_from bytes k packets)
unfolding read_from
read_all P bytes k [] all = All-nil P
read_all P bytes k (packet ∷ packets) all =
    by_test (nat_lt k (2 ^ 48) && skips_few bytes k)
    (read_all P bytes (k + 1) packets (All-tail P packet packets all))
  where
    by_test : (b : Bool) → All P (read_from bytes (k + 1) packets) →
        All P (cond b (packet ∷ read_from bytes (k + 1) packets) [])
    by_test true rest = All-cons P packet (read_from bytes (k + 1) packets) (All-head P packet packets all) rest
    by_test false rest = All-nil P

pub readable_whole : (bytes : Bytes) → AreBytes bytes → AreWholePackets (readable bytes)
readable_whole bytes each = read_all IsWholePacket bytes 0 (cut_packets bytes) (cut_whole bytes each)

pub readable_synced : (bytes : Bytes) → AreSynced (readable bytes)
readable_synced bytes = read_all IsSynced bytes 0 (cut_packets bytes) (cut_synced bytes)

-- no packet is marked
pub none_marked : (packets : Packets) → AreUnmarked packets → list_any is_marked packets ≡ false
none_marked [] all = refl
none_marked (packet ∷ packets) all =
    let first : is_marked packet ≡ false = All-head (λ p. is_marked p ≡ false) packet packets all in
    let rest = none_marked packets (All-tail (λ p. is_marked p ≡ false) packet packets all) in
    rw (first, rest) refl
