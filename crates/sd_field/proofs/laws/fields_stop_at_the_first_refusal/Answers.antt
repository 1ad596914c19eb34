use Rattle.sd_field.proofs.Refused.{goes_on_clear, stops_at_first}
use Rattle.sd_field.proofs.laws.fields_stop_at_the_first_refusal.Goals as goal

pub returns : goal.returns
returns c = record { on = goes_on_clear; stops = stops_at_first }
