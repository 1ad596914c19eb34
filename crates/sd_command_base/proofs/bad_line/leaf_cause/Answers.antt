use Rattle.std.proofs.Common.{◌^◌, ◌≤◌, ◌∙◌, ap, sym, arith}
use Rattle.sd_command_base.specs.declared.bad_line.LineCause.TheVariants.{Leaf}
use Rattle.sd_command_base.proofs.BadLines.{not_there}
use Rattle.sd_command_base.proofs.bad_line.leaf_cause.Goals as goal

pub returns-else-number-leaves : goal.returns-else-number-leaves
returns-else-number-leaves c =
    let high : 2 ^ c.args.h ≤ c.in-Ok.number = omega (arith, c.leaves.ensures.value, c.if-number-leaves.false) in
    ap Leaf c.get.ensures.value
    ∙ sym (not_there c.args.h c.in-Ok.number c.args.line.now (sym c.number_after.ensures ∙ c.in-Ok.is) high)
