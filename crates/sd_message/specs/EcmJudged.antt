-- Public meaning: parts of entitlement control messages as they are read, by tests.
use Rattle.std.specs.Prelude.{ℕ, ◌+◌, ◌*◌, ◌%◌, Bool, ◌==◌, ◌&&◌, ◌||◌, not, nat_le, nat_lt, if◌then◌else◌, List}
use Rattle.std.specs.Prelude.{length, Option, Some, None, Result, Ok, Err}
use Rattle.std.specs.List.{list_all}
use Rattle.sd_packet.specs.Positions.{is_positional}
use Rattle.sd_section.specs.Header.{least_length, table_id_of, section_length_of, extension_of, section_number_of}
use Rattle.sd_section.specs.Header.{last_number_of, body_of}
use Rattle.sd_message.specs.Framed.{frames_section, section_of}
use Rattle.sd_message.specs.Items.{all_pairs}
use Rattle.sd_message.specs.EcmVersions.{positions_for, ecm_head_length, even_table_id}
use Rattle.sd_message.specs.EcmSpelled.{listed_places}
use Rattle.sd_message.specs.EcmFields.{ecm_version_of, body_flags, ecm_of}
use Rattle.sd_message.specs.declared.ecm_part.Place.{Place}
use Rattle.sd_message.specs.declared.ecm_part.EcmPart.{EcmPart}
use Rattle.sd_message.specs.declared.ecm_fault.EcmFault.{EcmFault}
use Rattle.sd_message.specs.declared.ecm_fault.EcmFault.TheVariants.{Count, Order, Pid, Mixed}

-- whether the count is what the part is to have and what the length of the body comes to [this project,
-- docs/FORMATS.md, Messages]
abbrev pub is_count_due : ℕ → EcmPart → Bool
is_count_due length part =
    (length == ecm_head_length part.version + 8 * part.count)
    && (nat_le part.count (positions_for part.version)
    && (((part.part == part.last_part) || (part.count == positions_for part.version))
    && ((part.part == 0) || nat_lt 0 part.count)))

-- whether each PID is one that has positions [this project, docs/FORMATS.md, Messages]
abbrev pub are_positioned : List Place → Bool
are_positioned places = list_all (λ place. is_positional place.pid) places

-- whether the PIDs are strictly ascending [this project, docs/FORMATS.md, Messages]
abbrev pub is_ascending_by_pid : List Place → Bool
is_ascending_by_pid places = all_pairs (λ a b. nat_lt a.pid b.pid) places

-- whether the flags are 0 or 1, the table_id is odd where the number of the control word is, and `since` is below the
-- number of the message, unless both are 0 [this project, docs/FORMATS.md, Messages]
abbrev pub is_matched : ℕ → ℕ → EcmPart → Bool
is_matched table_id flags part =
    nat_le flags 1
    && ((table_id % 2 == part.word % 2) && (nat_lt part.since part.number || ((part.since == 0) && (part.number == 0))))

-- what a body under this table_id is read as, by the first rule that it breaks [this project, docs/FORMATS.md,
-- Messages]
unfoldable pub ecm_judged : ℕ → List ℕ → EcmPart → Result (Option EcmPart) EcmFault
ecm_judged table_id body part =
    if not (is_count_due (length body) part) then Err Count
    else if not (are_positioned (listed_places part)) then Err Pid
    else if not (is_ascending_by_pid (listed_places part)) then Err Order
    else if not (is_matched table_id (body_flags part.version body) part) then Err Mixed
    else Ok (Some part)

-- whether a section is a part of a control message
abbrev pub is_ecm_section : List ℕ → Bool
is_ecm_section section =
    ((table_id_of section == even_table_id (ecm_version_of section))
    || (table_id_of section == even_table_id (ecm_version_of section) + 1))
    && ((extension_of section == 0)
    && (nat_le (section_number_of section) (last_number_of section)
    && nat_le (ecm_head_length (ecm_version_of section) + least_length) (section_length_of section)))

-- whether a packet begins with such a section
unfoldable pub has_ecm : List ℕ → Bool
has_ecm packet = frames_section packet && is_ecm_section (section_of packet)

-- what a packet is read as: nothing where it is of another kind [this project, docs/FORMATS.md, Messages]
unfoldable pub ecm_read : List ℕ → Result (Option EcmPart) EcmFault
ecm_read packet =
    if has_ecm packet
    then ecm_judged (table_id_of (section_of packet)) (body_of (section_of packet)) (ecm_of (section_of packet))
    else Ok None
