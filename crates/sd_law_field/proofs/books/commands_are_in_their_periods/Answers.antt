use Rattle.sd_spec.proofs.Laid.{commands_are_accepted, last_is_greatest}
use Rattle.sd_law_field.proofs.books.commands_are_in_their_periods.Goals as goal

pub returns : goal.returns
returns c = record { turn = commands_are_accepted; last = last_is_greatest }
