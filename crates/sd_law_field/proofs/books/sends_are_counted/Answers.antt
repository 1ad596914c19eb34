use Rattle.sd_spec.proofs.Sends.{sends_are_counted, sends_rise}
use Rattle.sd_law_field.proofs.books.sends_are_counted.Goals as goal

pub returns : goal.returns
returns c = record { count = sends_are_counted; rise = sends_rise }
