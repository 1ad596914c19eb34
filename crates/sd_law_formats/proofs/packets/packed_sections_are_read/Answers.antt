use Rattle.sd_packet.proofs.Packets.{packet_reads}
use Rattle.sd_law_formats.proofs.packets.packed_sections_are_read.Goals as goal

pub returns-clause-fields : goal.returns-clause-fields
returns-clause-fields c = packet_reads
