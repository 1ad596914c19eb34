-- Public meaning: what a clear packet becomes.
use Rattle.std.specs.Prelude.{◌%◌, ◌==◌, length, is_none, if◌then◌else◌}
use Rattle.sd_base.specs.Types.{Packet, Packets, Position, WordNumber}
use Rattle.sd_packet.specs.Header.{pid_of}
use Rattle.sd_packet.specs.Positions.{moved, position_of}
use Rattle.sd_tree_keys.specs.Keys.{control_word_of}
use Rattle.sd_site_cards.specs.SiteFields.{SiteFields}
use Rattle.sd_psi.specs.Rewriting.{pmt_with_descriptor, rewrite_fault}
use Rattle.sd_cipher.specs.Scrambling.{scrambled}
use Rattle.sd_cipher.specs.declared.payload.Parity.{Parity}
use Rattle.sd_cipher.specs.declared.payload.Parity.TheVariants.{Even, Odd}
use Rattle.sd_spec.specs.Plan.{word_of}
use Rattle.sd_spec.specs.Kinds.{kind_of}
use Rattle.sd_spec.specs.declared.kind.Kind.{Kind}
use Rattle.sd_spec.specs.declared.kind.Kind.TheVariants.{Passed, Pmt, Scrambled}

-- the parity of a control word's number
abbrev pub parity_of : WordNumber → Parity
parity_of t = if t % 2 == 0 then Even else Odd

-- the packet's own position after these packets [this project, docs/FORMATS.md, Positions]
abbrev pub place_after : Packets → Packet → Position
place_after before packet = moved (pid_of packet) (position_of (pid_of packet) before) packet

-- a PMT with the project's CA_descriptor, where it can be rewritten
unfoldable pub pmt_carried : SiteFields → Packet → Packet
pmt_carried site packet = if is_none (rewrite_fault packet) then pmt_with_descriptor site.ca site.ecm packet else packet

-- the packet under the control word of number t, at this position
unfoldable pub packet_under_word : SiteFields → WordNumber → Position → Packet → Packet
packet_under_word site t position packet = scrambled packet (control_word_of site.master t) position (parity_of t)

-- what a packet of this kind becomes after these packets
abbrev pub carried_as : Kind → SiteFields → Packets → Packet → Packet
carried_as Passed site before packet = packet
carried_as Pmt site before packet = pmt_carried site packet
carried_as Scrambled site before packet =
    packet_under_word site (word_of site (length before)) (place_after before packet) packet

-- what a packet becomes after these packets [this project, docs/FORMATS.md, Broadcast]
unfoldable pub carried : SiteFields → Packets → Packet → Packet
carried site before packet = carried_as (kind_of before packet) site before packet
