use Rattle.std.proofs.Common.{arith}
use Rattle.sd_packet.proofs.Packets.{start_within}
use Rattle.sd_cipher.proofs.payload.lay_stream.Goals as goal

pub lay_first-requires : goal.lay_first-requires
lay_first-requires c =
    omega (arith, c.payload-else-length-eq184.ensures.length, start_within c.args.packet.now)

pub shared_ref_as_front-set_payload : goal.shared_ref_as_front-set_payload
shared_ref_as_front-set_payload c = omega (arith, c.payload-length.ensures.length, start_within c.args.packet.now)
