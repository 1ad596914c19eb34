use Rattle.std.proofs.Common.{arith}
use Rattle.sd_cipher.proofs.Streams.{filled_none, filled_all}
use Rattle.sd_cipher.proofs.keystream.payload_stream.Goals as goal

pub returns : goal.returns
returns c =
    let key = c.args.key.now in
    let number = c.args.number in
    filled_all key number 184 c.fill_part-6.new.bytes c.fill_part-6.new.generator (omega (
      arith,
      c.fill_part.ensures.length,
      c.fill_part-2.ensures.length,
      c.fill_part-3.ensures.length,
      c.fill_part-4.ensures.length,
      c.fill_part-5.ensures.length,
      c.fill_part-6.ensures.length,
    )) (c.fill_part-6.ensures.value key number (c.fill_part-5.ensures.value key number (c.fill_part-4.ensures.value
    key number (c.fill_part-3.ensures.value key number (c.fill_part-2.ensures.value key number
    (c.fill_part.ensures.value key number (filled_none key number _ _ c.generator-generator.ensures)))))))
