use Rattle.sd_law_keys.proofs.Steps.{keys_are_steps, words_are_steps, payloads_are_last}
use Rattle.sd_law_keys.proofs.wraps.wraps_are_steps.Goals as goal

pub returns : goal.returns
returns c = record { keys = keys_are_steps; words = words_are_steps; payloads = payloads_are_last }
