use Rattle.std.proofs.Common.{rules}
use Rattle.sd_packet.proofs.packet.Packet.new.Goals as goal

pub returns-then-bytes-eq-SYNC_BYTE-clause-none : goal.returns-then-bytes-eq-SYNC_BYTE-clause-none
returns-then-bytes-eq-SYNC_BYTE-clause-none c = search rules
