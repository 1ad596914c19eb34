use Rattle.sd_law_field.proofs.Reached.{choices_made, choices_alone}
use Rattle.sd_law_field.proofs.choices.every_choice_is_reached.Goals as goal

pub returns : goal.returns
returns c = record { made = choices_made; only = choices_alone }
