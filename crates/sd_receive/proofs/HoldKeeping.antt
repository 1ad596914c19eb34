-- What is kept when packets are held and dropped.
use Rattle.std.proofs.Common.{ℕ, ◌^◌, ◌<◌, ◌≤◌, ◌≡◌, List, [], ◌∷◌, ◌++◌, length, get_or, set}
use Rattle.std.proofs.Common.{replicate}
use Rattle.std.proofs.Common.{sym, ap, ◌∙◌, arith}
use Rattle.std.specs.Prelude.{vec_capacity}
use Rattle.std.specs.Global.{Vec}
use Rattle.std.proofs.lemmas.List.{length-map, length_push, map-append, length-replicate, get_or-replicate}
use Rattle.std.proofs.lemmas.List.Elements.{All-nil}
use Rattle.sd_base.proofs.Fields.{field_below}
use Rattle.sd_packet.specs.Header.{pid_of}
use Rattle.sd_packet.specs.Positions.{moved, moved_by, first_position}
use Rattle.sd_packet.proofs.Positions.{one_more}
use Rattle.sd_spec.specs.Confirmed.{position_or_first, position_in}
use Rattle.sd_spec.specs.Offered.{most_held}
use Rattle.sd_message.specs.declared.ecm_part.Place.{Place}
use Rattle.sd_message.specs.EcmVersions.{most_places}
use Rattle.sd_receive.specs.Tracking.{packets_in, led_to, HasFirstPositions, IsTracked, AreTracksKept}
use Rattle.sd_receive.specs.declared.buffer.tracked.TrackedPackets.{TrackedPackets}
use Rattle.sd_receive.specs.declared.buffer.tracked.HeldPacket.{HeldPacket}
use Rattle.sd_receive.proofs.Tables.{none_started, tracked_more, own_more, led_within}

-- a table of first positions
pub all_first : HasFirstPositions (replicate 8192 first_position)
all_first = record {
  long = length-replicate 8192 first_position;
  clear = λ pid none small. get_or-replicate 8192 pid first_position 0 small;
}

-- nothing is held
pub kept_none : (u : TrackedPackets) → u.places.items ≡ [] → u.held.items ≡ [] → most_held ≤ vec_capacity u.held →
    most_places ≤ vec_capacity u.places → HasFirstPositions u.table.items → AreTracksKept u
kept_none u places held room space clear = record {
  few = omega (arith, ap (λ (hs : List HeldPacket). length hs) held);
  room = room;
  space = space;
  known = rw places (All-nil (λ (p : Place). p.pid < 8192));
  short = rw places (All-nil (λ (p : Place). p.position < 2 ^ 48));
  own = λ k d small. absurd (omega (arith, small, ap (λ (hs : List HeldPacket). length hs) held));
  tracked = rw places (rw held (none_started u.table.items clear));
}

-- where nothing is held and no place is kept the table is one of first positions
pub clear_again : (t : TrackedPackets) → AreTracksKept t → t.places.items ≡ [] → t.held.items ≡ [] → HasFirstPositions
    t.table.items
unfolding led_to position_in moved_by
clear_again t is places held =
    let tracked : IsTracked [] [] t.table.items = rw places at (rw held at is.tracked) in
    record { long = tracked.long; clear = λ pid none small. tracked.at pid small }

-- a PID has 13 bits
pub pid_within : (packet : List ℕ) → pid_of packet < 8192
pid_within packet = field_below packet 11 13

-- the position of a packet's PID is far from its greatest
pub position_within : (t : TrackedPackets) (packet : List ℕ) → AreTracksKept t → get_or t.table.items (pid_of packet) 0
    < 2 ^
    63
position_within t packet is =
    let count = length-map t.held.items (λ (h : HeldPacket). h.packet) in
    omega (
      arith,
      is.tracked.at (pid_of packet) (pid_within packet),
      led_within t.places.items (packets_in t.held.items) (pid_of packet) is.short (omega (arith, count, is.few)),
    )

-- one packet more is held
pub kept_more : (t : TrackedPackets) (held : Vec HeldPacket) (table : Vec ℕ) (one : HeldPacket) → AreTracksKept t →
    length t.held.items < most_held →
    held.items ≡ t.held.items ++ one ∷ [] → most_held ≤ vec_capacity held →
    one.position ≡ moved (pid_of one.packet) (get_or t.table.items (pid_of one.packet) 0) one.packet →
    table.items ≡ set t.table.items (pid_of one.packet) one.position →
    AreTracksKept (record { places = t.places; held = held; table = table })
unfolding led_to
kept_more t held table one is few same room position written =
    let pid = pid_of one.packet in
    let at = moved pid (get_or t.table.items pid 0) one.packet in
    let packets : packets_in held.items ≡ packets_in t.held.items ++ one.packet ∷ [] =
    ap packets_in same ∙ map-append (λ (h : HeldPacket). h.packet) t.held.items (one ∷ []) in
    let led : one.position ≡ led_to t.places.items (packets_in t.held.items ++ one.packet ∷ []) pid =
    position ∙ (ap (λ (x : ℕ). moved pid x one.packet) (is.tracked.at pid (pid_within one.packet))
    ∙ sym (one_more pid (position_or_first t.places.items pid) (packets_in t.held.items) one.packet)) in
    record {
      few = omega (arith, ap (λ (hs : List HeldPacket). length hs) same, length_push t.held.items one, few);
      room = room;
      space = is.space;
      known = is.known;
      short = is.short;
      own = rw same (own_more t.places.items t.held.items one is.own led);
      tracked = rw packets (rw written (rw position (tracked_more t.places.items (packets_in t.held.items) one.packet
          t.table.items (pid_within one.packet) is.tracked)));
    }
