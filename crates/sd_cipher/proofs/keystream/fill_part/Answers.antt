use Rattle.std.proofs.Common.{arith}
use borrow.Rule.Slice.PartMut.{mid_len}
use Rattle.sd_cipher.proofs.Streams.{filled_on}
use Rattle.sd_cipher.proofs.keystream.fill_part.Goals as goal

pub returns-clause-value : goal.returns-clause-value
returns-clause-value c =
    λ key number filled. filled_on key number c.args.from c.args.to _ c.args.bytes.now c.fill_bytes_via_u32.new.dst
    c.args.generator.now c.fill_bytes_via_u32.new.rng c.requires.ordered c.requires.within c.requires.words.0
    c.requires.words.1 (omega (arith, c.ranges.to.fits)) c.fill_bytes_via_u32.ensures
    (mid_len c.args.from c.args.to c.args.bytes.now c.requires.within) filled
