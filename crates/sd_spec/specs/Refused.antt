-- Public meaning: which clear packets are refused.
use Rattle.std.specs.Prelude.{◌≡◌, ◌-◌, ◌^◌, ◌==◌, ◌&&◌, ◌||◌, Bool, true, false, not, nat_le, nat_lt}
use Rattle.std.specs.Prelude.{[], ◌∷◌, ◌++◌, length, is_none, if◌then◌else◌, Option, Some, None}
use Rattle.std.specs.Option.{option_map_or}
use Rattle.sd_base.specs.Types.{Packet, Packets, Pid, PacketNumber}
use Rattle.sd_packet.specs.Header.{pid_of, scrambling_of, has_payload}
use Rattle.sd_packet.specs.Positions.{is_placed}
use Rattle.sd_site_cards.specs.SiteFields.{SiteFields}
use Rattle.sd_spec.specs.Plan.{word_of}
use Rattle.sd_psi.specs.declared.fault.FormFault.{FormFault}
use Rattle.sd_psi.specs.declared.fault.FormFault.TheVariants as Form
use Rattle.sd_psi.specs.Forms.{pat_fault}
use Rattle.sd_psi.specs.Rewriting.{rewrite_fault, restore_fault}
use Rattle.sd_message.specs.EcmVersions.{most_places}
use Rattle.sd_spec.specs.Kinds.{kind_of, has_moved, moved_pids}
use Rattle.sd_spec.specs.declared.kind.Kind.{Kind}
use Rattle.sd_spec.specs.declared.kind.Kind.TheVariants.{Passed, Pmt, Scrambled}
use Rattle.sd_message.specs.declared.clear_fault.ClearFault.{ClearFault}
use Rattle.sd_message.specs.declared.clear_fault.ClearFault.TheVariants.{AlreadyScrambled, PidTaken, PatForm, PmtForm}
use Rattle.sd_message.specs.declared.clear_fault.ClearFault.TheVariants.{TooManyPids, TooLong}

-- this fault where something holds, or else the next
abbrev pub fault_where : Bool → ClearFault → Option ClearFault → Option ClearFault
fault_where true fault next = Some fault
fault_where false fault next = next

-- a fault of the form, or else the next
abbrev pub form_where : Option FormFault → (FormFault → ClearFault) → Option ClearFault → Option ClearFault
form_where None told next = next
form_where (Some fault) told next = Some (told fault)

-- the PID is 1 or that of the site's messages
abbrev pub is_reserved_pid : SiteFields → Pid → Bool
is_reserved_pid site pid = (pid == 1) || ((pid == site.emm) || (pid == site.ecm))

-- what is wrong with a packet that is to be a PAT
abbrev pub pat_wrong : Packet → Option FormFault
pat_wrong packet = if (pid_of packet == 0) && has_payload packet then pat_fault packet else None

-- it is a PMT that can't be rewritten, and that could be restored all the same
abbrev pub is_full_own : SiteFields → Kind → Packet → Bool
is_full_own site Pmt packet = not (is_none (rewrite_fault packet)) && is_none (restore_fault site.ca site.ecm packet)
is_full_own site Passed packet = false
is_full_own site Scrambled packet = false

-- one PID more would have a position than may have one
abbrev pub is_one_too_many : Packets → Packet → Bool
is_one_too_many before packet =
    is_placed packet && (not (has_moved before (pid_of packet)) && nat_le most_places (length (moved_pids before)))

-- no number of a packet, or no control word of the site's, is left for packet k [this project, docs/FORMATS.md,
-- Broadcast]
abbrev pub is_used_up : SiteFields → PacketNumber → Bool
is_used_up site k = (k == 2 ^ 32 - 1) || nat_lt site.last_word (word_of site k)

-- the first rule that a packet breaks after these packets, where it has this number, and this is wrong with it as a PAT
abbrev pub broken_rule : SiteFields → Packets → Packet → Option FormFault → PacketNumber → Option ClearFault
broken_rule site before packet wrong n =
    fault_where (not (scrambling_of packet == 0)) (AlreadyScrambled n)
    (fault_where (is_reserved_pid site (pid_of packet)) (PidTaken n (pid_of packet))
    (form_where wrong (PatForm n)
    (fault_where (is_full_own site (kind_of before packet) packet) (PmtForm n Form.NoRoom)
    (fault_where (is_one_too_many before packet) (TooManyPids n)
    (fault_where (is_used_up site (length before)) (TooLong n)
    None)))))

-- why a packet is refused after these packets, by the first rule that it breaks [this project, docs/FORMATS.md,
-- Broadcast]
unfoldable pub refusal_of : SiteFields → Packets → Packet → Option ClearFault
refusal_of site before packet = broken_rule site before packet (pat_wrong packet) (length before)

-- why a packet can't be sent after these packets, where it has this number, whatever is wrong with it as a PAT [this
-- project, docs/FORMATS.md, On air]
unfoldable pub unsent_at : SiteFields → Packets → PacketNumber → Packet → Option ClearFault
unsent_at site before n packet = broken_rule site before packet None n

-- the first refusal among packets after others
unfoldable pub refusal_from : SiteFields → Packets → Packets → Option ClearFault
refusal_from site before [] = None
refusal_from site before (packet ∷ packets) =
    option_map_or Some (refusal_of site before packet) (refusal_from site (before ++ packet ∷ []) packets)

-- no packet of a clear stream is refused
abbrev pub IsClear : SiteFields → Packets → Type 0
IsClear site clear = refusal_from site [] clear ≡ None

-- why the end is refused after these packets: of none of them, no control word is left for the closing message [this
-- project, docs/FORMATS.md, Broadcast]
abbrev pub end_refusal : SiteFields → Packets → Option ClearFault
end_refusal site [] = fault_where (is_used_up site 0) (TooLong 0) None
end_refusal site (packet ∷ packets) = None

-- why a whole clear stream is refused: the first refusal of a packet, or else that of the end
unfoldable pub whole_refusal : SiteFields → Packets → Option ClearFault
whole_refusal site clear = option_map_or Some (refusal_from site [] clear) (end_refusal site clear)

-- why the first of these packets that can't be sent after others can't be
unfoldable pub unsent_from : SiteFields → Packets → Packets → Option ClearFault
unsent_from site before [] = None
unsent_from site before (packet ∷ packets) =
    option_map_or Some (unsent_at site before (length before) packet) (unsent_from site (before ++ packet ∷ []) packets)

-- each packet of a clear stream can be sent
abbrev pub IsSendable : SiteFields → Packets → Type 0
IsSendable site clear = unsent_from site [] clear ≡ None
