-- Public meaning: the packets that are buffered (held) after a control message, as contracts see them.
use Rattle.std.specs.Prelude.{ℕ, List, [], ◌∷◌, ◌++◌, length, map, nat_lt, if◌then◌else◌, Option, Some, None}
use Rattle.sd_message.specs.EcmParts.{Message}
use Rattle.sd_message.specs.declared.ecm_part.Place.{Place}
use Rattle.sd_spec.specs.Offered.{most_held}
use Rattle.sd_receive.specs.declared.buffer.tracked.HeldPacket.{HeldPacket}
use Rattle.sd_receive.specs.declared.ecm.control_word.ControlWord.{ControlWord}
use Rattle.sd_receive.specs.declared.buffer.tracked.TrackedPackets.{TrackedPackets}

-- the number of the message's control word, the word, the message's PIDs and positions, and the buffered packets, each
-- after its number in the stream
pub record Holding : Type 0 where
  pub number : ℕ
  pub word : List ℕ
  pub places : List Place
  pub held : List (ℕ × List ℕ)

-- a buffered packet, after its number
abbrev pub held_pair : HeldPacket → ℕ × List ℕ
held_pair held = (held.number, held.packet)

-- what is buffered, if there is a control word; without one, nothing
abbrev pub holding_of : Option ControlWord → TrackedPackets → Option Holding
holding_of None tracks = None
holding_of (Some word) tracks = Some (record {
  number = word.number;
  word = word.bytes;
  places = tracks.places.items;
  held = map held_pair tracks.held.items;
})

-- one packet more is buffered; or none any more, if 4,096 are buffered already [this project, docs/FORMATS.md,
-- Receiver]
abbrev pub held_more : Option Holding → ℕ → List ℕ → Option Holding
held_more None number packet = None
held_more (Some h) number packet =
    if nat_lt (length h.held) most_held
    then Some (record {
      number = h.number;
      word = h.word;
      places = h.places;
      held = h.held ++ (number, packet) ∷ [];
    })
    else None

-- these packets are buffered after this message, under its control word
abbrev pub after_message : Message → List ℕ → List (ℕ × List ℕ) → Holding
after_message a word held = record { number = a.word; word = word; places = a.places; held = held }
