-- Public meaning: where a packet comes from that a receiver writes. All lists of packets have the newest first.
use Rattle.std.specs.Prelude.{◌≡◌, ℕ, ◌+◌, ◌%◌, ◌<◌, ◌≤◌, ◌&&◌, List, [], ◌∷◌, ◌++◌, length, map, Some, None, All}
use Rattle.std.specs.Prelude.{AllPairs, Contains, false, is_none, true}
use Rattle.sd_base.specs.Types.{Packet, Packets, Pid, Position, Key, PeriodNumber}
use Rattle.sd_tree_keys.specs.Keys.{check_value_of}
use Rattle.sd_packet.specs.Header.{pid_of, scrambling_of}
use Rattle.sd_packet.specs.Positions.{is_placed}
use Rattle.sd_psi.specs.Rewriting.{pmt_without_descriptor, restore_fault}
use Rattle.sd_psi.specs.declared.our_cat.Tuning.{Tuning}
use Rattle.sd_site_cards.specs.CardFields.{CardFields}
use Rattle.sd_cipher.specs.Scrambling.{descrambled}
use Rattle.sd_cipher.specs.Wrapping.{wrapped as under}
use Rattle.sd_message.specs.EcmForm.{ArePidsAscending}
use Rattle.sd_message.specs.EcmParts.{Message, message_of, ecm_head_of}
use Rattle.sd_message.specs.declared.ecm_part.EcmPart.{EcmPart}
use Rattle.sd_message.specs.declared.emm.Emm.{Emm}
use Rattle.sd_spec.specs.Tuned.{tuning_of}
use Rattle.sd_spec.specs.Heard.{Heard, Controls, hears}
use Rattle.sd_spec.specs.Stretches.{completes, held_in, message_told, newest_message, sections_seen}
use Rattle.sd_spec.specs.Keys.{key_at}
use Rattle.sd_spec.specs.Offered.{heard}
use Rattle.sd_spec.specs.Confirmed.{position_in, position_or_first, tracked}

-- one of these packets is heard as this by the CAT that was taken before it [this project, docs/FORMATS.md, Receiver]
pub record IsHeardIn (card : CardFields) (past : Packets) (thing : Heard) : Type 0 where
  pub later : Packets
  pub packet : Packet
  pub earlier : Packets
  pub tuning : Tuning
  pub stands : past ≡ later ++ packet ∷ earlier
  pub tuned : tuning_of card.ca earlier ≡ Some tuning
  pub is_heard : hears card.height tuning (length earlier) packet ≡ thing

-- a part says of the message what the message says, and that its last part has this number
abbrev pub Says : Message → ℕ → EcmPart → Type 0
Says message last part = (message_of (ecm_head_of part) message.places ≡ message) × (part.last_part ≡ last)

-- Some of these packets are the parts of the message: it is what they tell together, each says what it says, and its
-- positions are of ascending PIDs, so that there is one at most for a PID [this project, docs/FORMATS.md, Receiver].
pub record IsMessageIn (card : CardFields) (past : Packets) (message : Message) : Type 0 where
  pub parts : List EcmPart
  pub last : ℕ
  pub told : message_told parts ≡ Some message
  pub are_heard : All (λ part. IsHeardIn card past (Controls part)) parts
  pub alike : All (Says message last) parts
  pub ascending : ArePidsAscending message.places

-- two sections say the same of their period
abbrev pub Agree : Emm → Emm → Type 0
Agree a b = (a.sets ≡ b.sets) × (a.sections ≡ b.sections) × (a.check ≡ b.check)

-- The card knew this key of the period after some of these packets. All sections of the period that were seen until
-- then agree, and name the check value of the key [this project, docs/FORMATS.md, Receiver].
pub record IsKeyIn (card : CardFields) (past : Packets) (q : PeriodNumber) (key : Key) : Type 0 where
  pub later : Packets
  pub earlier : Packets
  pub stands : past ≡ later ++ earlier
  pub known : key_at card (heard card earlier) q ≡ Some key
  pub agree : AllPairs (λ newer older. Agree older newer) (sections_seen q (heard card earlier))
  pub checked : All (λ emm. check_value_of key ≡ emm.check) (sections_seen q (heard card earlier))

-- message b goes on behind message a: it is of a later number, and neither its period, its control word, its clear
-- packets nor the position of a PID is lower [this project, docs/FORMATS.md, Receiver]
pub record GoesOn (a b : Message) : Type 0 where
  pub number : a.number < b.number
  pub period : a.period ≤ b.period
  pub word : a.word ≤ b.word
  pub clear : a.clear ≤ b.clear
  pub places : All (λ place. (p : Position) × (position_in b.places place.pid ≡ Some p) × (place.position ≤ p)) a.places

-- Two messages between which packets are written: b goes on behind a, and says that the packets from a on are under one
-- control word. That word is under the key of a's period, and has the check value that a names
-- [this project, docs/FORMATS.md, Receiver].
pub record OpenPackets (card : CardFields) (past : Packets) (a b : Message) (key : Key) : Type 0 where
  pub first : IsMessageIn card past a
  pub last : IsMessageIn card past b
  pub goes_on : GoesOn a b
  pub since : b.since ≤ a.number
  pub key_is : IsKeyIn card past a.period key
  pub checked : check_value_of (under key a.word a.wrapped) ≡ a.check

-- After some of these packets `a` was the newest complete message, and those were buffered behind it, no more than may
-- be. The next part completed `b` [this project, docs/FORMATS.md, Receiver].
pub record AreBuffered (card : CardFields) (past : Packets) (a b : Message) (packets : Packets) : Type 0 where
  pub later : Packets
  pub earlier : Packets
  pub part : EcmPart
  pub stands : past ≡ later ++ earlier
  pub message_is : (newest_message (heard card earlier)).message ≡ Some a
  pub completed : completes (heard card earlier) (Controls part) ≡ Some b
  pub packets_are : packets ≡ map (λ held. held.1) (held_in (newest_message (heard card earlier)))
  pub are_here : All (Contains past) packets
  pub few : length packets ≤ 4096

-- A position of a PID lies between the positions that two messages have for it, and that of the second is at most 15
-- above the one that the buffered packets led to [this project, docs/FORMATS.md, Receiver].
pub record IsFramed (a b : Message) (pid : Pid) (buffered : Packets) (position : Position) : Type 0 where
  pub place : Position
  pub above : position_or_first a.places pid ≤ position
  pub named : position_in b.places pid ≡ Some place
  pub below : position ≤ place
  pub near : place ≤ tracked a pid buffered + 15

-- A buffered packet is written under the control word of the message before it, once another message came after it. It
-- is scrambled by the word's parity, and descrambled at the position to which the buffered packets up to it led, which
-- the two messages frame [this project, docs/FORMATS.md, Receiver].
pub record IsWrittenUnder (card : CardFields) (past : Packets) (held out : Packet) : Type 0 where
  pub a : Message
  pub b : Message
  pub key : Key
  pub before : Packets
  pub after : Packets
  pub messages : OpenPackets card past a b key
  pub buffered : AreBuffered card past a b (before ++ held ∷ after)
  pub placed : is_placed held ≡ true
  pub parity : scrambling_of held ≡ 2 + a.word % 2
  pub framed : IsFramed a b (pid_of held) (before ++ held ∷ after) (tracked a (pid_of held) (before ++ held ∷ []))
  pub opened : out ≡ descrambled held (under key a.word a.wrapped) (tracked a (pid_of held) (before ++ held ∷ []))

-- a packet in the clear as it is written: as it came; or, if it is a PMT with the project's CA_descriptor for these
-- PIDs, without that [this project, docs/FORMATS.md, Receiver]
pub data IsWrittenClear (card : CardFields) (tuning : Tuning) (came : Packet) : Packet → Type 0 where
  as_it_came : (is_placed came && is_none (restore_fault card.ca tuning.ecm came)) ≡ false →
      IsWrittenClear card tuning came came
  as_it_was : is_placed came ≡ true → restore_fault card.ca tuning.ecm came ≡ None
      → IsWrittenClear card tuning came (pmt_without_descriptor came)

-- the packet is one of these that came with control 00 [this project, docs/FORMATS.md, Receiver]
pub record CameClear (card : CardFields) (past : Packets) (out : Packet) : Type 0 where
  pub tuning : Tuning
  pub came : Packet
  pub tuned : tuning_of card.ca past ≡ Some tuning
  pub is_here : Contains past came
  pub control : scrambling_of came ≡ 0
  pub plain : IsWrittenClear card tuning came out

-- the packet came in the clear, or is one that two messages open
pub data IsWrittenOf (card : CardFields) (past : Packets) (out : Packet) : Type 0 where
  clear : CameClear card past out → IsWrittenOf card past out
  opened : (held : Packet) → IsWrittenUnder card past held out → IsWrittenOf card past out
