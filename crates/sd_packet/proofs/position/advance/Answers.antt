use Rattle.std.proofs.Common.{rules}
use Rattle.sd_packet.proofs.position.advance.Goals as goal

pub returns-clause-next : goal.returns-clause-next
returns-clause-next c = search rules
