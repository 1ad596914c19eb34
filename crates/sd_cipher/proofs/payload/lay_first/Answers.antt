use Rattle.std.proofs.Common.{length, ◌∙◌, arith}
use Rattle.std.proofs.lemmas.List.{length-take-le}
use Rattle.sd_cipher.proofs.Scramblings.{first_laid, prefix_of}
use Rattle.sd_cipher.proofs.payload.lay_first.Goals as goal

pub returns : goal.returns
returns c =
    prefix_of c.args.payload.now c.lay.new.text _ (omega (
      arith,
      c.lay.ensures.length,
      length-take-le (length c.args.payload.now) c.args.stream.now (omega (arith, c.told-stream, c.requires)),
    ))
    ∙ (c.lay.ensures.value
    ∙ first_laid c.args.payload.now c.args.stream.now (omega (arith, c.told-stream, c.requires)))
