use Rattle.std.proofs.Common.{arith, ◌∙◌}
use Rattle.std.proofs.Math.ListN.{length-set}
use Rattle.sd_base.proofs.Writes.{byte_of_word, others_of_word}
use Rattle.sd_base.proofs.word.write.Goals as goal

pub loop-i-preserved : goal.loop-i-preserved
loop-i-preserved c =
    let l = c.loop-i in
    record {
      value = byte_of_word l.bytes c.args.first c.args.count l.i c.args.word c.loop-i-test.true
          (omega (arith, c.requires.within, l.invariant.length)) l.invariant.value;
      unchanged = others_of_word c.args.bytes.now l.bytes c.args.first l.i _ l.invariant.unchanged;
      length = length-set _ _ _ ∙ l.invariant.length;
    }
