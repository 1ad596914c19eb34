use Rattle.std.proofs.Common.{rules}
use Rattle.sd_packet.proofs.packet.Packet.pid.Goals as goal

pub returns-clause-value : goal.returns-clause-value
returns-clause-value c = search rules
