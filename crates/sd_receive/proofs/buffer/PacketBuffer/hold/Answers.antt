use Rattle.std.proofs.Common.{rules}
use Rattle.sd_receive.proofs.buffer.PacketBuffer.hold.Goals as goal

pub hold-requires-clause-room : goal.hold-requires-clause-room
hold-requires-clause-room c = search rules
