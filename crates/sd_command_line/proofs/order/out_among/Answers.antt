use Rattle.std.proofs.Common.{rules, ◌≢◌, ◌∙◌}
use Rattle.sd_command_line.specs.declared.operand.Kind.TheVariants as kind
use Rattle.sd_command_line.proofs.Rows.{out_later}
use Rattle.sd_command_line.proofs.order.out_among.Goals as goal

pub loop-index-preserved : goal.loop-index-preserved
loop-index-preserved c =
    let other : c.kind.result ≢ kind.Output = search rules in
    out_later c.args.operands.now c.args.texts.now c.loop-index.index _ c.loop-index-test.true c.requires
    (rw c.kind.ensures at other) ∙ c.loop-index.invariant
