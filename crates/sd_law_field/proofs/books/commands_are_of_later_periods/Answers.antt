use Rattle.sd_spec.proofs.Sends.{after_is_above, after_is_next, both_rise, both_step}
use Rattle.sd_law_field.proofs.books.commands_are_of_later_periods.Goals as goal

pub returns : goal.returns
returns c = record { above = after_is_above; next = after_is_next; rise = both_rise; step = both_step }
