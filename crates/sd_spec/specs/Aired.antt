-- Public meaning: which clear packets are sent by a head end that goes on, whatever comes.
use Rattle.std.specs.Prelude.{ℕ, ◌+◌, List, [], ◌∷◌, ◌++◌, is_none, if◌then◌else◌, Option, Some, None}
use Rattle.sd_base.specs.Types.{Packet, Packets, PacketNumber}
use Rattle.sd_site_cards.specs.SiteFields.{SiteFields}
use Rattle.sd_message.specs.declared.clear_fault.ClearFault.{ClearFault}
use Rattle.sd_message.specs.declared.clear_fault.ClearFault.TheVariants.{AlreadyScrambled, PidTaken, PatForm, PmtForm}
use Rattle.sd_message.specs.declared.clear_fault.ClearFault.TheVariants.{TooManyPids, TooLong}
use Rattle.sd_spec.specs.Counting.{is_marked}
use Rattle.sd_spec.specs.Refused.{pat_wrong, unsent_at}
use Rattle.sd_spec.specs.declared.left_out.LeftOut.{LeftOut}

-- what becomes of a packet: it is left out, since it is marked or for a rule; it is sent; or the broadcast ends before
-- it
pub data Verdict : Type 0 where
  Marked : Verdict
  Refused : ClearFault → Verdict
  Sent : Verdict
  Ends : Verdict

-- by the first rule that it breaks
abbrev pub verdict_by : Option ClearFault → Verdict
verdict_by None = Sent
verdict_by (Some (AlreadyScrambled n)) = Refused (AlreadyScrambled n)
verdict_by (Some (PidTaken n pid)) = Refused (PidTaken n pid)
verdict_by (Some (PatForm n form)) = Refused (PatForm n form)
verdict_by (Some (PmtForm n form)) = Refused (PmtForm n form)
verdict_by (Some (TooManyPids n)) = Refused (TooManyPids n)
verdict_by (Some (TooLong n)) = Ends

-- what becomes of packet n after these that were sent [this project, docs/FORMATS.md, On air]
unfoldable pub verdict_of : SiteFields → Packets → PacketNumber → Packet → Verdict
verdict_of site before n packet = if is_marked packet then Marked else verdict_by (unsent_at site before n packet)

-- what follows a packet: if it is sent, if it is left out, and nothing if the broadcast ends before it
abbrev pub by_verdict : {A : Type 0} → Verdict → A → A → A → A
by_verdict Marked sent left ended = left
by_verdict (Refused fault) sent left ended = left
by_verdict Sent sent left ended = sent
by_verdict Ends sent left ended = ended

-- those of these packets, from packet n on, that are sent after others [this project, docs/FORMATS.md, On air]
unfoldable pub aired_from : SiteFields → Packets → PacketNumber → Packets → Packets
aired_from site before n [] = []
aired_from site before n (packet ∷ packets) = by_verdict (verdict_of site before n packet)
    (packet ∷ aired_from site (before ++ packet ∷ []) (n + 1) packets) (aired_from site before (n + 1) packets) []

-- the packets that are sent of a clear stream
abbrev pub aired : SiteFields → Packets → Packets
aired site packets = aired_from site [] 0 packets

-- the number of the packet before which the broadcast ends, if it isn't the end of these packets, from packet n on
unfoldable pub ended_from : SiteFields → Packets → PacketNumber → Packets → Option PacketNumber
ended_from site before n [] = None
ended_from site before n (packet ∷ packets) = by_verdict (verdict_of site before n packet)
    (ended_from site (before ++ packet ∷ []) (n + 1) packets) (ended_from site before (n + 1) packets) (Some n)

-- what is left out, with one packet more in front: a marked one, one that breaks a rule, a sent one that is no PAT
-- though
-- it is on PID 0 with a payload
abbrev pub left_out_marked : LeftOut → LeftOut
left_out_marked out = record { marked = out.marked + 1; refused = out.refused; pats = out.pats; first = out.first }

abbrev pub left_out_refused : ClearFault → LeftOut → LeftOut
left_out_refused fault out =
    record { marked = out.marked; refused = out.refused + 1; pats = out.pats; first = Some fault }

abbrev pub left_out_with_sent : Packet → LeftOut → LeftOut
left_out_with_sent packet out = record {
  marked = out.marked;
  refused = out.refused;
  pats = (if is_none (pat_wrong packet) then 0 else 1) + out.pats;
  first = out.first;
}

abbrev pub left_by : Verdict → Packet → LeftOut → LeftOut → LeftOut → LeftOut
left_by Marked packet sent left none = left_out_marked left
left_by (Refused fault) packet sent left none = left_out_refused fault left
left_by Sent packet sent left none = left_out_with_sent packet sent
left_by Ends packet sent left none = none

-- nothing is left out
abbrev pub none_left : LeftOut
none_left = record { marked = 0; refused = 0; pats = 0; first = None }

-- what is left out of these packets, from packet n on, after others that were sent [this project, docs/FORMATS.md, On
-- air]
unfoldable pub left_from : SiteFields → Packets → PacketNumber → Packets → LeftOut
left_from site before n [] = none_left
left_from site before n (packet ∷ packets) = left_by (verdict_of site before n packet) packet
    (left_from site (before ++ packet ∷ []) (n + 1) packets) (left_from site before (n + 1) packets) none_left
