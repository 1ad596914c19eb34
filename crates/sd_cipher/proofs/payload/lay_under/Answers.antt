use Rattle.std.proofs.Common.{ℕ, List, subst, arith}
use Rattle.std.specs.Prelude.{slice_index, ◌<◌}
use Rattle.sd_cipher.specs.Keystream.{xored}
use Rattle.sd_packet.specs.Header.{payload_start_of, payload_of}
use Rattle.sd_packet.proofs.Packets.{start_within}
use Rattle.sd_cipher.proofs.Scramblings.{all_laid, fourth_stays}
use Rattle.sd_cipher.proofs.payload.lay_under.Goals as goal

pub returns-clause-value : goal.returns-clause-value
returns-clause-value c =
    all_laid c.args.packet.now c.args.word.now (xored (payload_of c.args.packet.now) c.payload_stream.result)
    c.lay_stream.new.packet c.set_scrambling.new.self c.args.position c.args.control c.lay_stream.ensures.length
    (grind (arith, c.payload_stream.ensures, c.from.ensures, c.pid.ensures.value)) c.lay_stream.ensures.value
    c.set_scrambling.ensures.value

pub returns-clause-byte : goal.returns-clause-byte
returns-clause-byte c =
    let stays = fourth_stays c.args.packet.now (xored (payload_of c.args.packet.now) c.payload_stream.result)
    (payload_start_of c.args.packet.now) (start_within c.args.packet.now).0
    (omega (arith, c.lay_stream.ensures.length)) in
    subst (λ (n : ℕ). n < 256) stays
    (subst (λ (bytes : List ℕ). slice_index bytes 3 < 256) c.lay_stream.ensures.value c.set_scrambling.ensures.byte)
