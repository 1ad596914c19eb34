-- Public meaning: control messages among what was heard, and what is between them. All lists of what was heard have the
-- newest first.
use Rattle.std.specs.Prelude.{◌+◌, ◌==◌, ◌&&◌, Bool, true, false, nat_le, nat_lt, max, List, [], ◌∷◌, flat_map}
use Rattle.std.specs.Prelude.{reverse, if◌then◌else◌, Option, Some, None}
use Rattle.std.specs.Option.{option_map_or}
use Rattle.sd_base.specs.Types.{Packet, PeriodNumber, PacketNumber}
use Rattle.sd_message.specs.declared.emm.Emm.{Emm}
use Rattle.sd_message.specs.EcmSpelled.{listed_places}
use Rattle.sd_message.specs.EcmParts.{Message, message_of, ecm_head_of}
use Rattle.sd_message.specs.declared.ecm_part.EcmPart.{EcmPart}
use Rattle.sd_spec.specs.Heard.{Heard, Dropped, Entitles, Controls, BadEmm, BadEcm, Other}

-- the newest complete control message, what was heard before its last part, and what was heard after it. If there is no
-- message, all that was heard is after it
pub record Stretch : Type 0 where
  pub message : Option Message
  pub before : List Heard
  pub after : List Heard

-- nothing was heard
abbrev pub start : Stretch
start = record { message = None; before = []; after = [] }

-- the part is of a later message than the newest complete one
abbrev pub exceeds : Option Message → EcmPart → Bool
exceeds None part = true
exceeds (Some message) part = nat_lt message.number part.number

-- the parts that count, the newest first: those of later messages than the newest complete one [this project,
-- docs/FORMATS.md, Receiver]
unfoldable pub counted_parts : Option Message → List Heard → List EcmPart
counted_parts message [] = []
counted_parts message (Controls part ∷ past) = if exceeds message part then part ∷ counted_parts message past
    else counted_parts message past
counted_parts message (Dropped ∷ past) = counted_parts message past
counted_parts message (Entitles emm ∷ past) = counted_parts message past
counted_parts message (BadEmm fault ∷ past) = counted_parts message past
counted_parts message (BadEcm fault ∷ past) = counted_parts message past
counted_parts message (Other n packet ∷ past) = counted_parts message past

-- a part and these before it, if it is the next part of their message; else none
abbrev pub message_parts_with : EcmPart → List EcmPart → List EcmPart
message_parts_with part [] = []
message_parts_with part (before ∷ run) =
    if (before.number == part.number) && (before.part + 1 == part.part) then part ∷ before ∷ run else []

-- the newest parts, if they are the parts of one message one after the other from part 0 on, the newest first; else
-- none
unfoldable pub run_of_parts : List EcmPart → List EcmPart
run_of_parts [] = []
run_of_parts (part ∷ earlier) = if part.part == 0 then part ∷ [] else message_parts_with part (run_of_parts earlier)

-- the message whose newest part is the first of these
abbrev pub message_told : List EcmPart → Option Message
message_told [] = None
message_told (part ∷ run) = Some (message_of (ecm_head_of part) (flat_map listed_places (reverse (part ∷ run))))

-- the parts of the message that a part of it ends
unfoldable pub message_parts_to : Stretch → EcmPart → List EcmPart
message_parts_to stretch part = if exceeds stretch.message part then run_of_parts
    (part ∷ counted_parts stretch.message stretch.after) else []

-- the message that is complete with what comes [this project, docs/FORMATS.md, Receiver]
abbrev pub completed : Stretch → Heard → Option Message
completed stretch (Controls part) = if part.part == part.last_part then message_told (message_parts_to stretch part)
    else None
completed stretch Dropped = None
completed stretch (Entitles emm) = None
completed stretch (BadEmm fault) = None
completed stretch (BadEcm fault) = None
completed stretch (Other n packet) = None

-- the newest complete message and what is before and after it, once this is heard, with which this message is complete,
-- or none
abbrev pub stretch_after : List Heard → Stretch → Heard → Option Message → Stretch
stretch_after past stretch heard None =
    record { message = stretch.message; before = stretch.before; after = heard ∷ stretch.after }
stretch_after past stretch heard (Some message) = record { message = Some message; before = past; after = [] }

-- the newest complete message of what was heard, and what is before and after it
unfoldable pub newest_message : List Heard → Stretch
newest_message [] = start
newest_message (heard ∷ past) = stretch_after past (newest_message past) heard (completed (newest_message past) heard)

-- the message that is complete with what comes after the past
abbrev pub completes : List Heard → Heard → Option Message
completes past heard = completed (newest_message past) heard

-- these messages with one more, if there is one
abbrev pub with_message : Option Message → List Message → List Message
with_message None messages = messages
with_message (Some message) messages = message ∷ messages

-- all complete messages, the newest first
unfoldable pub messages : List Heard → List Message
messages [] = []
messages (heard ∷ past) = with_message (completes past heard) (messages past)

-- a closing message is complete
unfoldable pub is_closed : List Heard → Bool
is_closed [] = false
is_closed (heard ∷ past) = if is_closed past then true
    else option_map_or (λ message. message.closing) (completes past heard) false

-- the period of what is heard: of a section, or of the message that it completes; else 0
abbrev pub period_heard : List Heard → Heard → PeriodNumber
period_heard past (Entitles emm) = emm.period
period_heard past (Controls part) = option_map_or (λ message. message.period) (completes past (Controls part)) 0
period_heard past Dropped = 0
period_heard past (BadEmm fault) = 0
period_heard past (BadEcm fault) = 0
period_heard past (Other n packet) = 0

-- the current period: the greatest of a section of entitlements or a complete message [this project, docs/FORMATS.md,
-- Receiver]
unfoldable pub current : List Heard → PeriodNumber
current [] = 0
current (heard ∷ past) = max (period_heard past heard) (current past)

-- the sections of period q with what comes: a section of q is seen if q isn't before the current period
abbrev pub seen_sections_with : PeriodNumber → List Heard → Heard → List Emm → List Emm
seen_sections_with q past (Entitles emm) sections = if (emm.period == q) && nat_le (current past) q then emm ∷ sections
    else sections
seen_sections_with q past Dropped sections = sections
seen_sections_with q past (Controls part) sections = sections
seen_sections_with q past (BadEmm fault) sections = sections
seen_sections_with q past (BadEcm fault) sections = sections
seen_sections_with q past (Other n packet) sections = sections

-- the sections of period q that were seen, the newest first [this project, docs/FORMATS.md, Receiver]
unfoldable pub sections_seen : PeriodNumber → List Heard → List Emm
sections_seen q [] = []
sections_seen q (heard ∷ past) = seen_sections_with q past heard (sections_seen q past)

-- the other packets with what comes, if that is one
abbrev pub other_with : Heard → List (PacketNumber × Packet) → List (PacketNumber × Packet)
other_with (Other n packet) others = (n, packet) ∷ others
other_with Dropped others = others
other_with (Entitles emm) others = others
other_with (Controls part) others = others
other_with (BadEmm fault) others = others
other_with (BadEcm fault) others = others

-- the other packets with their numbers, the newest first
unfoldable pub others : List Heard → List (PacketNumber × Packet)
others [] = []
others (heard ∷ past) = other_with heard (others past)

-- the packets that are buffered after the newest message, in order
abbrev pub held_in : Stretch → List (PacketNumber × Packet)
held_in stretch = reverse (others stretch.after)
