use Rattle.std.proofs.Common.{◌∙◌, ap, string_bytes}
use Rattle.sd_command_line.proofs.Rows.{input_later}
use Rattle.sd_command_line.proofs.order.is_input.Goals as goal

pub loop-index-preserved : goal.loop-index-preserved
loop-index-preserved c =
    let none = rw c.kind.ensures at c.if-names_input.ensures in
    input_later c.args.operands.now c.args.texts.now c.as_str.result.now c.args.name.now c.loop-index.index _ _
    c.loop-index-test.true c.requires
    (c.as_str.ensures.value ∙ ap string_bytes c.index-texts-index.is) none ∙ c.loop-index.invariant
