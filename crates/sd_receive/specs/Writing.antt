-- Public meaning: what is written of the buffered packets.
use Rattle.std.specs.Prelude.{◌≡◌, ℕ, ◌<◌, ◌++◌, ◌∷◌, false, List, [], length, map, take}
use Rattle.std.specs.Prelude.{get_or, Option, Some, None, Result, Ok, Err}
use Rattle.std.specs.List.{concat}
use Rattle.std.specs.Option.{option_map_or}
use Rattle.sd_packet.specs.Header.{pid_of}
use Rattle.sd_ports.specs.Bytes.{AppendsPrefix}
use Rattle.sd_engine.specs.Stage.{SinkState, TookBytes, IsCutShort, IsTooShort}
use Rattle.sd_message.specs.EcmForm.{AreShort}
use Rattle.sd_message.specs.EcmParts.{Message}
use Rattle.sd_message.specs.declared.ecm_part.Place.{Place}
use Rattle.sd_spec.specs.Confirmed.{Segment, WrittenPackets, written_from, position_in, is_near_to, is_confirmed}
use Rattle.sd_receive.specs.PacketBuffer.{Holding, held_pair}
use Rattle.sd_receive.specs.Tracking.{led_to, AreTracksKept}
use Rattle.sd_receive.specs.PidSet.{has_pid}
use Rattle.sd_receive.specs.declared.buffer.pid_set.PidSet.{PidSet}
use Rattle.sd_receive.specs.declared.buffer.tracked.TheConstants.{PIDS}
use Rattle.sd_receive.specs.declared.buffer.tracked.HeldPacket.{HeldPacket}
use Rattle.sd_receive.specs.declared.buffer.release.Release.{Release}
use Rattle.sd_receive.specs.declared.buffer.BufferFault.{BufferFault}
use Rattle.sd_receive.specs.declared.buffer.BufferFault.TheVariants as Fault

-- a message with this control word's number and these places, and nothing else
abbrev pub bare : ℕ → List Place → Message
bare word places = record {
  version = 0;
  number = 0;
  period = 0;
  word = word;
  clear = 0;
  since = 0;
  run = None;
  closing = false;
  wrapped = [];
  check = [];
  places = places;
}

-- what is buffered, with the places of the next message
unfoldable pub segment_of : Holding → ℕ → ℕ → List Place → Segment
segment_of h ca ecm places = record {
  first = bare h.number h.places;
  last = bare 0 places;
  word = h.word;
  ca = ca;
  ecm = ecm;
  packets = map (λ e. e.1) h.held;
}

-- what is written of what is buffered, if the next message has these places [this project, docs/FORMATS.md, Receiver]
abbrev pub wrote_of : Option Holding → ℕ → ℕ → List Place → WrittenPackets
wrote_of None ca ecm places = record { packets = []; refused = None }
wrote_of (Some h) ca ecm places = written_from (segment_of h ca ecm places) [] h.held

-- a write of these bytes failed: the sink took a prefix of them, and if its room is known it is less than all of them
pub record HasStopped (old new : SinkState) (bytes : List ℕ) : Type 0 where
  pub prefix : AppendsPrefix old.held new.held bytes
  pub room : IsTooShort old.room (length bytes)

-- a sink took what is written, up to the packet that is refused or the write that failed, with this answer
abbrev pub WriteOutcome : WrittenPackets → SinkState → SinkState → Result ℕ BufferFault → Type 0
WriteOutcome wrote old new (Ok n) = (wrote.refused ≡ None) × (n ≡ length wrote.packets) ×
    TookBytes old new (concat wrote.packets)
WriteOutcome wrote old new (Err (Fault.Parity k)) = (wrote.refused ≡ Some k) × TookBytes old new (concat wrote.packets)
WriteOutcome wrote old new (Err Fault.Write) = IsCutShort old new (λ bytes. bytes ≡ concat wrote.packets)

-- what is buffered, as contracts see it
abbrev pub holding_in : Release → Holding
holding_in c = record {
  number = c.word.now.number;
  word = c.word.now.bytes;
  places = c.tracks.now.places.items;
  held = map held_pair c.tracks.now.held.items;
}

-- the segment between the two messages
unfoldable pub segment_in : Release → Segment
segment_in c = segment_of (holding_in c) c.ca c.ecm c.last.now

-- what is written of the first k packets of the segment
unfoldable pub first_wrote : Release → ℕ → WrittenPackets
first_wrote c k = written_from (segment_in c) [] (take k (holding_in c).held)

-- a sink took what is written of the first k packets, which is this number of packets, and none is refused
pub record ArePacketsWritten (c : Release) (k : ℕ) (old new : SinkState) (count : ℕ) : Type 0 where
  pub calm : (first_wrote c k).refused ≡ None
  pub counted : count ≡ length (first_wrote c k).packets
  pub took : TookBytes old new (concat (first_wrote c k).packets)

-- the PID of control messages has 13 bits, and the positions of the next one 48
pub record IsReleaseReady (c : Release) : Type 0 where
  pub ecm : c.ecm < 8192
  pub short : AreShort c.last.now
  pub kept : AreTracksKept c.tracks.now

-- a buffered packet after others has the position to which it led its PID
pub record HasPositionLedTo (c : Release) (before : List (List ℕ)) (held : HeldPacket) : Type 0 where
  pub position : held.position ≡ led_to c.tracks.now.places.items (before ++ held.packet ∷ []) (pid_of held.packet)

-- the PIDs with a position among these places that is near to the one in this table by PID
pub record AreNearPids (tracked : List ℕ) (places : List Place) (pids : PidSet) : Type 0 where
  pub at : (pid : ℕ) → pid < PIDS → has_pid pids pid
      ≡ option_map_or (is_near_to (get_or tracked pid 0)) (position_in places pid) false

-- the PIDs that are confirmed
pub record AreConfirmed (c : Release) (pids : PidSet) : Type 0 where
  pub at : (pid : ℕ) → pid < PIDS → has_pid pids pid ≡ is_confirmed (segment_in c) pid
