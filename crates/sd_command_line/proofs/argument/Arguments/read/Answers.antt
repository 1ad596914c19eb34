use Rattle.std.proofs.Common.{◌+◌, ◌∷◌, [], ◌∙◌, ap, length, length-append, string_bytes}
use Rattle.sd_command_line.proofs.Rows.{read_more}
use Rattle.sd_command_line.proofs.argument.Arguments.read.Goals as goal

pub loop-index-preserved : goal.loop-index-preserved
loop-index-preserved c =
    let count = c.loop-index.invariant.count in
    let grown = c.push.ensures.items in
    let text = c.as_str.ensures.value ∙ ap string_bytes c.index-texts-index.is in
    let read = rw (c.kind.ensures, text) at c.in-Ok.ensures in
    record {
      count =
          ap length grown
          ∙ (length-append c.loop-index.list.items (c.in-Ok.argument ∷ []) ∙ ap (λ n. n + 1) count);
      rest =
          rw grown
          (read_more c.args.operands.now c.args.texts.now c.loop-index.list.items c.in-Ok.argument c.loop-index.index _
          _ c.loop-index-test.true c.requires.one_each count read ∙ c.loop-index.invariant.rest);
    }
