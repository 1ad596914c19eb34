use Rattle.std.proofs.Common.{sym, ◌∙◌}
use Rattle.sd_command_line.proofs.Words.{number_taken, number_above, number_refused}
use Rattle.sd_command_line.proofs.argument.read_number.Goals as goal

pub returns-in-Ok-clause-value : goal.returns-in-Ok-clause-value
returns-in-Ok-clause-value c =
    number_taken c.args.word c.args.most c.in-Ok.number _ _ c.as_bytes.ensures.value (sym c.in-Ok.ensures)
    c.if-number-most.true

pub returns-in_default-clause-value : goal.returns-in_default-clause-value
returns-in_default-clause-value c =
    number_above c.args.word c.args.most c.in-Ok.number _ _ c.as_bytes.ensures.value (sym c.in-Ok.ensures)
    c.if-number-most.false

pub returns-in_default-2-clause-value : goal.returns-in_default-2-clause-value
returns-in_default-2-clause-value c =
    number_refused c.args.word c.args.most _ _ c.in_default.field-0 c.ranges.most.fits c.as_bytes.ensures.value
    (sym c.number_after.ensures ∙ c.in_default.is)
