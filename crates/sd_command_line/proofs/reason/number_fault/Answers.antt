use Rattle.std.proofs.Common.{◌∙◌, ap, sym, Err}
use Rattle.sd_command_line.specs.Reasons.{number_fault}
use Rattle.sd_command_line.proofs.Words.{large_decimal, no_decimal, small_decimal}
use Rattle.sd_command_line.proofs.reason.number_fault.Goals as goal

pub returns-in-Err-Malformed : goal.returns-in-Err-Malformed
returns-in-Err-Malformed c =
    sym (ap number_fault (no_decimal _ _ c.as_bytes.ensures.value
    (sym c.number_after.ensures ∙ (c.in-Err-Malformed.is ∙ ap Err c.in-Err-Malformed.field-0-is))))

pub returns-in-Err-TooLarge : goal.returns-in-Err-TooLarge
returns-in-Err-TooLarge c =
    sym (large_decimal _ _ c.as_bytes.ensures.value
    (sym c.number_after.ensures ∙ (c.in-Err-TooLarge.is ∙ ap Err c.in-Err-TooLarge.field-0-is)))

pub returns-in-Ok : goal.returns-in-Ok
returns-in-Ok c =
    sym (ap number_fault (small_decimal _ _ c.in-Ok.field-0 c.as_bytes.ensures.value
    (sym c.number_after.ensures ∙ c.in-Ok.is)))
