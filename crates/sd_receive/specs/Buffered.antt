-- Public meaning: the packets that a receiver buffers (holds) after what was heard.
use Rattle.std.specs.Prelude.{ℕ, nat_le, nat_lt, List, [], length, if◌then◌else◌, Option, Some, None, option_map}
use Rattle.sd_site_cards.specs.CardFields.{CardFields}
use Rattle.sd_cipher.specs.Wrapping.{wrapped as under}
use Rattle.sd_message.specs.EcmParts.{Message}
use Rattle.sd_message.specs.declared.ecm_part.Place.{Place}
use Rattle.sd_message.specs.declared.ecm_message.EcmHead.{EcmHead}
use Rattle.sd_spec.specs.Heard.{Heard}
use Rattle.sd_spec.specs.Stretches.{Stretch, newest_message, held_in}
use Rattle.sd_spec.specs.Keys.{key_at}
use Rattle.sd_spec.specs.Confirmed.{WrittenPackets}
use Rattle.sd_receive.specs.PacketBuffer.{Holding, after_message}
use Rattle.sd_receive.specs.Writing.{wrote_of}
use Rattle.sd_spec.specs.Offered.{most_held}

-- the control word of a message under the key of its period, if that is known
abbrev pub word_under : Message → Option (List ℕ) → Option (List ℕ)
word_under message key = option_map (λ k. under k message.word message.wrapped) key

-- the packets buffered after a message, if its control word is known and they are at most 4,096
abbrev pub held_under : Stretch → Message → Option (List ℕ) → Option Holding
held_under stretch message None = None
held_under stretch message (Some word) =
    if nat_lt most_held (length (held_in stretch)) then None else Some (after_message message word (held_in stretch))

-- the packets buffered after a message, if there is one
abbrev pub held_after : CardFields → Stretch → Option Message → Option Holding
held_after card stretch None = None
held_after card stretch (Some message) =
    held_under stretch message (word_under message (key_at card stretch.before message.period))

-- the packets that are buffered after what was heard: those after the newest complete message [this project,
-- docs/FORMATS.md, Receiver]
unfoldable pub holding_after : CardFields → List Heard → Option Holding
holding_after card past = held_after card (newest_message past) (newest_message past).message

-- nothing is written
abbrev pub unwritten : WrittenPackets
unwritten = record { packets = []; refused = None }

-- what is written of the buffered packets with a complete message of these positions, if its `since` is at most the
-- number of the one before it
abbrev pub pair_wrote : Option EcmHead → Option Holding → ℕ → ℕ → ℕ → List Place → WrittenPackets
pair_wrote None held since ca ecm places = unwritten
pair_wrote (Some last) held since ca ecm places = if nat_le since last.number then wrote_of held ca ecm places else
    unwritten
