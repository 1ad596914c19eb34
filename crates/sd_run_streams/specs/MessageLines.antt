-- Public meaning: the line of compact JSON that a message is shown by.
use Rattle.std.specs.Prelude.{ℕ, suc, ◌==◌, List, [], ◌∷◌, ◌++◌, map, codes, if◌then◌else◌, Option, Some, None, Result}
use Rattle.std.specs.Prelude.{Ok, Err}
use Rattle.std.specs.Fmt.{decimal}
use Rattle.hex.specs.Hex.{encode_lower}
use Rattle.serde_json.specs.Data.{Data, Members, boolean, string, object, member, no_members}
use Rattle.serde_json.specs.Written.{compact_text}
use Rattle.sd_tree_keys.specs.declared.set.SetName.{SetName}
use Rattle.sd_tree_keys.specs.declared.set.SetName.TheVariants.{Whole, Diff}
use Rattle.sd_packet.specs.Header.{pid_of}
use Rattle.sd_site_cards.specs.SiteFields.{SiteFields}
use Rattle.sd_message.specs.EmmSpelled.{listed_entries as entries_of, names_in}
use Rattle.sd_message.specs.EmmJudged.{emm_read}
use Rattle.sd_message.specs.declared.emm.Emm.{Emm}
use Rattle.sd_message.specs.declared.emm_fault.EmmFault.{EmmFault}
use Rattle.sd_message.specs.EmmFaults.{emm_fault_name}
use Rattle.sd_message.specs.EcmSpelled.{listed_places as places_of}
use Rattle.sd_message.specs.EcmJudged.{ecm_read}
use Rattle.sd_message.specs.declared.ecm_part.Place.{Place}
use Rattle.sd_message.specs.declared.ecm_part.EcmPart.{EcmPart}
use Rattle.sd_message.specs.declared.ecm_fault.EcmFault.{EcmFault}
use Rattle.sd_message.specs.EcmFaults.{ecm_fault_name}
use Rattle.sd_run_streams.specs.TableLines.{num, list_data}

-- the name of a set, as `cover` prints it [this project, docs/FORMATS.md, Cover]
unfoldable pub set_word : SetName → List ℕ
set_word Whole = codes "all"
set_word (Diff i j) = decimal i ++ (codes " " ++ decimal j)

unfoldable pub name_data : SetName → Data
name_data name = string (set_word name)

-- the run's name before other members, where the message tells it
abbrev pub run_member : Option ℕ → Members → Members
run_member None more = more
run_member (Some run) more = member (codes "run") (num run) more

-- what is shown of a section of entitlements, in the packet of this number on this PID: no wrapped key
-- [this project, docs/FORMATS.md, Messages printed]
unfoldable pub emm_data : ℕ → ℕ → Emm → Data
emm_data packet pid emm = object
    (member (codes "check") (string (encode_lower emm.check))
    (member (codes "index") (num emm.index)
    (member (codes "names") (list_data (map name_data (names_in (entries_of emm))))
    (member (codes "packet") (num packet)
    (member (codes "period") (num emm.period)
    (member (codes "pid") (num pid)
    (run_member emm.run
    (member (codes "sections") (num emm.sections)
    (member (codes "sets") (num emm.sets)
    (member (codes "table") (string (codes "emm"))
    no_members))))))))))

-- the position of a PID
unfoldable pub place_data : Place → Data
place_data place = object
    (member (codes "pid") (num place.pid)
    (member (codes "position") (num place.position)
    no_members))

-- what is shown of a part of a control message, in the packet of this number on this PID: no wrapped key
-- [this project, docs/FORMATS.md, Messages printed]
unfoldable pub ecm_data : ℕ → ℕ → EcmPart → Data
ecm_data packet pid part = object
    (member (codes "check") (string (encode_lower part.check))
    (member (codes "clear") (num part.clear)
    (member (codes "closing") (boolean part.closing)
    (member (codes "last") (num part.last_part)
    (member (codes "number") (num part.number)
    (member (codes "packet") (num packet)
    (member (codes "part") (num part.part)
    (member (codes "period") (num part.period)
    (member (codes "pid") (num pid)
    (member (codes "positions") (list_data (map place_data (places_of part)))
    (run_member part.run
    (member (codes "since") (num part.since)
    (member (codes "table") (string (codes "ecm"))
    (member (codes "version") (num part.version)
    (member (codes "word") (num part.word)
    no_members)))))))))))))))

-- what is shown of a faulty section of this table [this project, docs/FORMATS.md, Messages printed]
unfoldable pub message_fault_data : List ℕ → List ℕ → ℕ → ℕ → Data
message_fault_data fault table packet pid = object
    (member (codes "fault") (string fault)
    (member (codes "packet") (num packet)
    (member (codes "pid") (num pid)
    (member (codes "table") (string table)
    no_members))))

-- what is shown of what a packet was read as
abbrev pub emm_told : ℕ → ℕ → Result (Option Emm) EmmFault → Option Data
emm_told packet pid (Ok None) = None
emm_told packet pid (Ok (Some emm)) = Some (emm_data packet pid emm)
emm_told packet pid (Err fault) = Some (message_fault_data (emm_fault_name fault) (codes "emm") packet pid)

abbrev pub ecm_told : ℕ → ℕ → Result (Option EcmPart) EcmFault → Option Data
ecm_told packet pid (Ok None) = None
ecm_told packet pid (Ok (Some part)) = Some (ecm_data packet pid part)
ecm_told packet pid (Err fault) = Some (message_fault_data (ecm_fault_name fault) (codes "ecm") packet pid)

-- what is shown of packet k, if it is on one of the site's two PIDs and has a message, good or faulty
-- [this project, docs/FORMATS.md, Messages printed]
unfoldable pub message_data : SiteFields → ℕ → List ℕ → Option Data
message_data site k packet =
    if pid_of packet == site.emm then emm_told k (pid_of packet) (emm_read site.height packet)
    else if pid_of packet == site.ecm then ecm_told k (pid_of packet) (ecm_read packet)
    else None

-- its line: compact JSON with the keys in ascending order, and a line feed; no bytes if nothing is shown
abbrev pub line_with : Option Data → List ℕ
line_with None = []
line_with (Some shown) = compact_text shown ++ 10 ∷ []

unfoldable pub message_line : SiteFields → ℕ → List ℕ → List ℕ
message_line site k packet = line_with (message_data site k packet)

-- the line of each packet in turn, of which the first has this number
unfoldable pub message_lines : SiteFields → ℕ → List (List ℕ) → List (List ℕ)
message_lines site k [] = []
message_lines site k (packet ∷ packets) = message_line site k packet ∷ message_lines site (suc k) packets
