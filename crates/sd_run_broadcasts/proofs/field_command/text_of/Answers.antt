use Rattle.std.proofs.Common.{subst, string_bytes}
use Rattle.sd_field.specs.Fields.{FieldValue}
use Rattle.sd_command_base.specs.Printed.{MemoryOutcome}
use Rattle.sd_run_broadcasts.specs.Field.{text_in}
use Rattle.sd_run_broadcasts.specs.FieldPlayed.{all_done}
use Rattle.sd_run_broadcasts.proofs.field_command.text_of.Goals as goal

pub returns : goal.returns
returns g c =
    subst (λ (v : FieldValue). MemoryOutcome (λ text. string_bytes text) (text_in (all_done v)) c.text_after.result)
    c.in_ok-field.ensures c.text_after.ensures
