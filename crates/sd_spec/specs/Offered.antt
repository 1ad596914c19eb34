-- Public meaning: what a packet makes a receiver write, and why it is refused, for any packets before it.
use Rattle.std.specs.Prelude.{ℕ, ◌==◌, ◌&&◌, ◌||◌, Bool, true, false, not, nat_le, nat_lt, List, [], ◌∷◌}
use Rattle.std.specs.Prelude.{◌++◌, length, map, bytes_eq, flat_map, if◌then◌else◌, is_none, Option, Some}
use Rattle.std.specs.Prelude.{None}
use Rattle.std.specs.List.{list_any}
use Rattle.std.specs.Option.{option_map_or}
use Rattle.sd_base.specs.Types.{Packet, Packets, Key, PacketNumber}
use Rattle.sd_tree_keys.specs.Keys.{check_value_of}
use Rattle.sd_site_cards.specs.CardFields.{CardFields}
use Rattle.sd_cipher.specs.Wrapping.{wrapped as under}
use Rattle.sd_message.specs.declared.emm.Emm.{Emm}
use Rattle.sd_message.specs.declared.emm_fault.EmmFault.TheVariants as Emms
use Rattle.sd_message.specs.EcmVersions.{most_places}
use Rattle.sd_message.specs.EcmSpelled.{listed_places}
use Rattle.sd_message.specs.EcmParts.{Message}
use Rattle.sd_message.specs.declared.ecm_part.EcmPart.{EcmPart}
use Rattle.sd_message.specs.declared.ecm_fault.EcmFault.{EcmFault}
use Rattle.sd_message.specs.declared.ecm_fault.EcmFault.TheVariants.{Count, Order, Mixed, Back}
use Rattle.sd_message.specs.declared.stream_fault.StreamFault.{StreamFault}
use Rattle.sd_message.specs.declared.stream_fault.StreamFault.TheVariants as Fault
use Rattle.sd_spec.specs.Tuned.{tuning_of}
use Rattle.sd_psi.specs.declared.our_cat.Tuning.{Tuning}
use Rattle.sd_spec.specs.Heard.{Heard, Dropped, Entitles, Controls, BadEmm, BadEcm, Other, hears}
use Rattle.sd_spec.specs.Stretches.{Stretch, newest_message, message_parts_to, completes, is_closed, current}
use Rattle.sd_spec.specs.Stretches.{sections_seen, held_in}
use Rattle.sd_spec.specs.Runs.{is_same_run, of_run}
use Rattle.sd_spec.specs.Keys.{key_from, key_at}
use Rattle.sd_spec.specs.Confirmed.{WrittenPackets, position_in, written_from}

-- the most packets that are buffered (held) after a control message [this project, docs/FORMATS.md, Receiver]
abbrev pub most_held : ℕ
most_held = 4096

-- what is heard of the current run with one thing more. After its closing message nothing more is heard of it [this
-- project, docs/FORMATS.md, Receiver]
abbrev pub heard_more : List Heard → Heard → List Heard
heard_more past thing = if is_closed (of_run past thing) then past else thing ∷ of_run past thing

-- what is heard of the current run with packet n: nothing more if no CAT was taken
abbrev pub heard_with : CardFields → Option Tuning → PacketNumber → Packet → List Heard → List Heard
heard_with card None n packet past = past
heard_with card (Some tuning) n packet past = heard_more past (hears card.height tuning n packet)

-- what is heard of the current run in these packets: nothing before the CAT is taken, and nothing of the run after its
-- closing message. Both lists have the newest first
unfoldable pub heard : CardFields → Packets → List Heard
heard card [] = []
heard card (packet ∷ past) = heard_with card (tuning_of card.ca past) (length past) packet (heard card past)

-- the result of a packet that is offered: what is written, and why it is refused, if it is
pub record Offering : Type 0 where
  pub wrote : Packets
  pub fault : Option StreamFault

-- nothing is written, and the packet isn't refused
abbrev pub no_offering : Offering
no_offering = record { wrote = []; fault = None }

-- nothing is written, and the packet is refused
abbrev pub refused_offering : StreamFault → Offering
refused_offering fault = record { wrote = []; fault = Some fault }

-- two sections of a period say the same of it
abbrev pub says_same : Emm → Emm → Bool
says_same a b = (a.sets == b.sets) && ((a.sections == b.sections) && bytes_eq a.check b.check)

-- a section disagrees with some of these sections
abbrev pub is_mixed : List Emm → Emm → Bool
is_mixed sections emm = list_any (λ other. not (says_same other emm)) sections

-- the result of a section in packet n that gives this key, or none
abbrev pub key_offering : PacketNumber → Emm → Option Key → Offering
key_offering n emm None = no_offering
key_offering n emm (Some key) =
    if bytes_eq (check_value_of key) emm.check then no_offering
    else refused_offering (Fault.WrongKey n emm.period (check_value_of key) emm.check)

-- the result of a section in packet n, if its period's key is known, and if not
abbrev pub key_if_none : PacketNumber → Emm → Option Key → Option Key → Offering
key_if_none n emm (Some key) found = no_offering
key_if_none n emm None found = key_offering n emm found

-- the result of a section of entitlements in packet n, after what was heard before
unfoldable pub emm_offering : CardFields → PacketNumber → List Heard → Emm → Offering
emm_offering card n past emm =
    if nat_lt emm.period (current past) then no_offering
    else if is_mixed (sections_seen emm.period past) emm then refused_offering (Fault.BadEmm n Emms.Mixed)
    else key_if_none n emm (key_at card past emm.period) (key_from card emm)

-- two parts say the same of their message
abbrev pub same_header : EcmPart → EcmPart → Bool
same_header a b =
    (a.version == b.version)
    && ((a.number == b.number)
    && ((a.period == b.period)
    && ((a.word == b.word)
    && ((a.clear == b.clear)
    && ((a.since == b.since)
    && (is_same_run a.run b.run
    && ((if a.closing then b.closing else not b.closing)
    && (bytes_eq a.wrapped b.wrapped && (bytes_eq a.check b.check && (a.last_part == b.last_part))))))))))

-- every PID of the parts before is below every one of this part
abbrev pub is_after : EcmPart → List EcmPart → Bool
is_after part [] = true
is_after part (before ∷ run) =
    not (list_any (λ place. list_any (λ old. nat_le place.pid old.pid) (listed_places before)) (listed_places part))

-- what is wrong with a part after those of its message
unfoldable pub part_fault : List EcmPart → Option EcmFault
part_fault [] = None
part_fault (part ∷ run) =
    if list_any (λ other. not (same_header other part)) run then Some Mixed
    else if not (is_after part run) then Some Order
    else if nat_lt most_places (length (flat_map listed_places (part ∷ run))) then Some Count
    else None

-- message b goes back behind message a: its period, control word, clear packets or some position is lower, or it lacks
-- a PID [this project, docs/FORMATS.md, Receiver]
unfoldable pub is_before : Message → Message → Bool
is_before b a = nat_lt b.period a.period || (nat_lt b.word a.word || (nat_lt b.clear a.clear
    || list_any
    (λ place. option_map_or (λ position. nat_lt position place.position) (position_in b.places place.pid) true)
    a.places))

-- a message is of an earlier period than the current one, or goes back behind the newest complete one
unfoldable pub is_back : List Heard → Message → Bool
is_back past b = nat_lt b.period (current past) || option_map_or (is_before b) (newest_message past).message false

-- what is written between messages a and b, if this is the key of a's period: nothing without a key, and nothing if too
-- many packets are buffered
abbrev pub segment_wrote : CardFields → Tuning → Stretch → Message → Message → Option Key → WrittenPackets
segment_wrote card tuning stretch a b None = record { packets = []; refused = None }
segment_wrote card tuning stretch a b (Some key) =
    if nat_lt most_held (length (held_in stretch)) then record { packets = []; refused = None }
    else written_from (record {
      first = a;
      last = b;
      word = under key a.word a.wrapped;
      ca = card.ca;
      ecm = tuning.ecm;
      packets = map (λ held. held.1) (held_in stretch);
    }) [] (held_in stretch)

-- what is written between the newest complete message, if there is one, and message b
abbrev pub stretch_wrote : CardFields → Tuning → Stretch → Option Message → Message → WrittenPackets
stretch_wrote card tuning stretch None b = record { packets = []; refused = None }
stretch_wrote card tuning stretch (Some a) b =
    if nat_le b.since a.number then segment_wrote card tuning stretch a b (key_at card stretch.before a.period)
    else record { packets = []; refused = None }

-- why packet n, which completes message b, is refused: the control word under the period's key has another check value
-- than the message says
abbrev pub word_fault : PacketNumber → Message → Option Key → Option StreamFault
word_fault n b None = None
word_fault n b (Some key) =
    if bytes_eq (check_value_of (under key b.word b.wrapped)) b.check then None
    else Some (Fault.WrongWord n b.word (check_value_of (under key b.word b.wrapped)) b.check)

-- the result of a message of which this is written: a packet may be refused at that, and else there may be this fault
abbrev pub wrote_or : WrittenPackets → Option StreamFault → Offering
wrote_or wrote fault =
    record { wrote = wrote.packets; fault = option_map_or (λ n. Some (Fault.Parity n)) wrote.refused fault }

-- the result of packet n, which completes a message, or none
abbrev pub message_offering : CardFields → Tuning → PacketNumber → List Heard → Option Message → Offering
message_offering card tuning n past None = no_offering
message_offering card tuning n past (Some b) =
    if is_back past b then refused_offering (Fault.BadEcm n Back)
    else wrote_or (stretch_wrote card tuning (newest_message past) (newest_message past).message b)
    (word_fault n b (key_at card past b.period))

-- the result of packet n, if this is the fault of its part, and if there is none
abbrev pub part_offering : PacketNumber → Option EcmFault → Offering → Offering
part_offering n None next = next
part_offering n (Some fault) next = refused_offering (Fault.BadEcm n fault)

-- the result of packet n, which is heard as this, after what was heard of its run [this project, docs/FORMATS.md,
-- Receiver]
abbrev pub heard_offering : CardFields → Tuning → PacketNumber → List Heard → Heard → Offering
heard_offering card tuning n past Dropped = no_offering
heard_offering card tuning n past (Entitles emm) = emm_offering card n past emm
heard_offering card tuning n past (Controls part) =
    part_offering n (part_fault (message_parts_to (newest_message past) part))
    (message_offering card tuning n past (completes past (Controls part)))
heard_offering card tuning n past (BadEmm fault) = refused_offering (Fault.BadEmm n fault)
heard_offering card tuning n past (BadEcm fault) = refused_offering (Fault.BadEcm n fault)
heard_offering card tuning n past (Other k packet) = no_offering

-- the result of packet n, which is heard as this and may begin another run, after what was heard of the current one
abbrev pub run_offering : CardFields → Tuning → PacketNumber → List Heard → Heard → Offering
run_offering card tuning n past thing =
    if is_closed (of_run past thing) then no_offering else heard_offering card tuning n (of_run past thing) thing

-- the result of packet n: nothing if no CAT was taken
abbrev pub tuned_offering : CardFields → Option Tuning → PacketNumber → List Heard → Packet → Offering
tuned_offering card None n past packet = no_offering
tuned_offering card (Some tuning) n past packet =
    run_offering card tuning n past (hears card.height tuning n packet)

-- the result of a packet after these packets, of which the newest comes first
unfoldable pub offered : CardFields → Packets → Packet → Offering
offered card past packet = tuned_offering card (tuning_of card.ca past) (length past) (heard card past) packet

-- what is written of packets after others, up to the first that is refused
unfoldable pub out_from : CardFields → Packets → Packets → Packets
out_from card past [] = []
out_from card past (packet ∷ packets) =
    (offered card past packet).wrote
    ++ (if is_none (offered card past packet).fault then out_from card (packet ∷ past) packets else [])

-- why the first of these packets that is refused is refused, after others
unfoldable pub break_from : CardFields → Packets → Packets → Option StreamFault
break_from card past [] = None
break_from card past (packet ∷ packets) =
    option_map_or Some (offered card past packet).fault (break_from card (packet ∷ past) packets)
