use Rattle.sd_law_keys.proofs.Apart.{inputs_hashed, keys_hashed}
use Rattle.sd_law_keys.proofs.inputs.inputs_are_hashed.Goals as goal

pub returns : goal.returns
returns c = record { hashed = inputs_hashed; keys = keys_hashed }
